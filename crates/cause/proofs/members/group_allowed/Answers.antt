-- `members::group_allowed` meets its contract, by whether the number is a limit's.
use Prim.Native.Nat.{ℕ}
use mathlib.Core.Path.{sym, ap, ◌∙◌}
use Rattle.numbers.specs.declared.GroupLimit.{GroupLimit}
use Rattle.context.specs.Held.{pair_in, context_in}
use Rattle.limits.specs.Rows.{row_of, row_said}
use Rattle.cause.specs.Members.{group_row, allowed_by}
use Rattle.cause.proofs.Looking.{made, unmade}
use Rattle.cause.proofs.members.group_allowed.Goals as goal

pub returns-in-Some : goal.returns-in-Some
returns-in-Some c =
    let a = c.args in
    let x = a.context.now in
    made (group_row a.limit) 0 (λ (r : GroupLimit × ℕ × ℕ). allowed_by (context_in x) r.2 (pair_in x a.i).result) (row_of c.in-Some.row)
    (sym c.row_at.ensures ∙ ap row_said c.in-Some.is) c.allowed_by.ensures

pub returns-in-None : goal.returns-in-None
returns-in-None c =
    let a = c.args in
    let x = a.context.now in
    unmade (group_row a.limit) 0 (λ (r : GroupLimit × ℕ × ℕ). allowed_by (context_in x) r.2 (pair_in x a.i).result)
    (sym c.row_at.ensures ∙ ap row_said c.in-None.is)
