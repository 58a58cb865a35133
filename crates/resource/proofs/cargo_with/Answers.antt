-- `resource::cargo_with` meets its contract, by the slot.
use Rattle.std.proofs.Common.{◌≡◌, true, false, eqb, sym, ap, ◌∙◌, eq-eqb, ne_eqb}
use lib.Ieee.{binary64, add}
use Rattle.numbers.specs.Slots as Slots
use Rattle.fit.specs.Fit.{item_at}
use Rattle.context.specs.Context.{is_in}
use Rattle.resource.proofs.cargo_with.Goals as goal

pub returns-then-slot-ne-CARGO : goal.returns-then-slot-ne-CARGO
unfolding is_in
returns-then-slot-ne-CARGO c =
    let a = c.args in
    let e : eqb (item_at a.context.now.fit.now a.i).slot Slots.cargo ≡ false = ne_eqb _ _ (λ q. c.if-slot-ne-CARGO.true (c.item_slot-slot.ensures ∙ q)) in
    rw e

pub returns : goal.returns
unfolding is_in
returns c =
    let a = c.args in
    let e : eqb (item_at a.context.now.fit.now a.i).slot Slots.cargo ≡ true = eq-eqb _ _ (sym c.item_slot-slot.ensures ∙ c.if-slot-ne-CARGO.false) in
    rw e (ap (add binary64 a.sum) c.room_at.ensures)
