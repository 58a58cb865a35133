-- `limits::Counted::group_limit` meets its contract, by whether the name is there.
use native.Mathlib.Omega.{arith}
use mathlib.Core.Path.{sym}
use borrow.Author.Rules.{rules}
use Rattle.context.specs.Context.{context}
use Rattle.context.specs.Gathered.{context_of}
use Rattle.context.specs.Held.{context_in, pairs_in}
use Rattle.limits.specs.Rows.{row_of}
use Rattle.limits.specs.Limits.{group_limit_at}
use Rattle.limits.proofs.Limits.{group-no_name, group-each}
use Rattle.limits.proofs.Counted.group_limit.Goals as goal

pub returns-in_default : goal.returns-in_default
unfolding context_of context
returns-in_default c =
    let x = c.args.self.now.context.now in
    (group-no_name (context_in x) (pairs_in x) (row_of c.args.row) (sym c.in_default.ensures), omega arith)

pub returns : goal.returns
unfolding context_of context
returns c =
    let x = c.args.self.now.context.now in
    let r = c.args.row in
    let id = c.in-Some.id in
    let w = c.report.ensures.wrote (group_limit_at r.limit r.lowest id (pairs_in x)) (λ i s h p. search rules) in
    (group-each (context_in x) (pairs_in x) (row_of r) id (sym c.in-Some.ensures) w, c.report.ensures.few)
