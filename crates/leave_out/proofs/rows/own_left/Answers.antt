-- `rows::own_left` meets its contract, by whether there is an own pair.
use Rattle.std.proofs.Common.{Bool, true, cond, sym, ap, ◌∙◌}
use borrow.Author.Tests.{lt-ltb, le-ltb}
use Rattle.parts.specs.Parts.{holds}
use Rattle.leave_out.proofs.rows.own_left.Goals as goal

pub is_marked-requires : goal.is_marked-requires
is_marked-requires c = c.if-inside.true

pub returns-then-inside : goal.returns-then-inside
returns-then-inside c = λ s b.
    let own = c.args.own in
    c.is_marked.ensures ∙ b own ∙ ap (λ (t : Bool). cond t (holds s own) true) (sym (lt-ltb own 256 c.if-inside.true))

pub returns : goal.returns
returns c = λ s b. ap (λ (t : Bool). cond t (holds s c.args.own) true) (sym (le-ltb c.args.own 256 c.if-inside.false))
