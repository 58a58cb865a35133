-- `slot::holds_one` meets its contract: three comparisons.
use Prim.Native.Nat.{ℕ}
use mathlib.Core.Path.{ap}
use mathlib.Core.Bool.{not, ◌||◌}
use lib.Dec.{eqb}
use Rattle.numbers.specs.Slots as Slots
use Rattle.context.specs.Context.{is_in}
use Rattle.slot.specs.Slot.{holds_one}
use Rattle.slot.proofs.holds_one.Goals as goal

pub returns : goal.returns
unfolding holds_one is_in
returns c =
    ap (λ (slot : ℕ). not (eqb slot Slots.drone_bay || eqb slot Slots.fighter_bay || eqb slot Slots.cargo)) c.item_slot-slot.ensures
