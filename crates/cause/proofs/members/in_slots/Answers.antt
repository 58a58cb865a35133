-- `members::in_slots` meets its contract, by whether the number is a kind's.
use Prim.Native.Nat.{ℕ}
use mathlib.Core.Path.{sym, ap, ◌∙◌}
use mathlib.Core.Bool.{false}
use Rattle.numbers.specs.declared.SlotKind.{SlotKind}
use Rattle.context.specs.Held.{pair_in}
use Rattle.racks.specs.Taking.{takes, row_of, row_said}
use Rattle.cause.specs.Members.{slots_row}
use Rattle.cause.proofs.Looking.{made, unmade}
use Rattle.cause.proofs.members.in_slots.Goals as goal

pub returns-in-Some : goal.returns-in-Some
returns-in-Some c =
    let a = c.args in
    made (slots_row a.kind) false (λ (r : SlotKind × ℕ). takes r.0 (pair_in a.context.now a.j)) (row_of c.in-Some.row)
    (sym c.row_at.ensures ∙ ap row_said c.in-Some.is) c.takes.ensures

pub returns-in-None : goal.returns-in-None
returns-in-None c =
    let a = c.args in
    unmade (slots_row a.kind) false (λ (r : SlotKind × ℕ). takes r.0 (pair_in a.context.now a.j)) (sym c.row_at.ensures ∙ ap row_said c.in-None.is)
