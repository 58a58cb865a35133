-- `members::slots_allowed` meets its contract, by whether the number is a kind's.
use Prim.Native.Nat.{ℕ}
use mathlib.Core.Path.{sym, ap, ◌∙◌}
use Rattle.numbers.specs.declared.SlotKind.{SlotKind}
use Rattle.context.specs.Held.{context_in}
use Rattle.racks.specs.Taking.{row_of, row_said}
use Rattle.cause.specs.Members.{slots_row, allowed_by}
use Rattle.cause.proofs.Looking.{made, unmade, of_ship}
use Rattle.cause.proofs.members.slots_allowed.Goals as goal

pub returns-in-Some : goal.returns-in-Some
returns-in-Some c =
    let a = c.args in
    let x = a.context.now in
    let y = context_in x in
    let row = c.in-Some.row in
    made (slots_row a.kind) 0 (λ (r : SlotKind × ℕ). allowed_by y r.1 y.ship_result) (row_of row)
    (sym c.row_at.ensures ∙ ap row_said c.in-Some.is) (c.allowed_by.ensures ∙ ap (allowed_by y row.name) (of_ship x.catalogue.now x.fit.now))

pub returns-in-None : goal.returns-in-None
returns-in-None c =
    let a = c.args in
    let y = context_in a.context.now in
    unmade (slots_row a.kind) 0 (λ (r : SlotKind × ℕ). allowed_by y r.1 y.ship_result) (sym c.row_at.ensures ∙ ap row_said c.in-None.is)
