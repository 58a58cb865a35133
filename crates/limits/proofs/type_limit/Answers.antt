-- `limits::type_limit` meets its contract, by whether the name is there.
use native.Mathlib.Omega.{arith}
use mathlib.Core.Path.{sym}
use borrow.Author.Rules.{rules}
use Rattle.context.specs.Context.{context}
use Rattle.context.specs.Gathered.{context_of}
use Rattle.context.specs.Held.{context_in, pairs_in}
use Rattle.limits.specs.Limits.{type_limit_at}
use Rattle.limits.proofs.Limits.{type-no_name, type-each}
use Rattle.limits.proofs.type_limit.Goals as goal

pub returns-in_default : goal.returns-in_default
unfolding context_of context
returns-in_default c =
    let x = c.args.context.now in
    (type-no_name (context_in x) (pairs_in x) (sym c.in_default.ensures), omega arith)

pub returns : goal.returns
unfolding context_of context
returns c =
    let x = c.args.context.now in
    let id = c.in-Some.id in
    let w = c.report.ensures.wrote (type_limit_at id (pairs_in x)) (λ i s h p. search rules) in
    (type-each (context_in x) (pairs_in x) id (sym c.in-Some.ensures) w, c.report.ensures.few)
