-- `Item::not_a_fighter` meets its contract: the item's fields are the pair's.
use mathlib.Core.Path.{refl}
use Rattle.slot.specs.Slot.{not_a_fighter}
use Rattle.slot.proofs.Checks.{checked, not-a_fighter_is}
use Rattle.slot.proofs.Item.not_a_fighter.Goals as goal

pub returns : goal.returns
returns c =
    let a = c.args in
    checked (λ x ps p. not_a_fighter x p) c.push_unless.ensures
    (λ x ps p h. not-a_fighter_is a.self x h refl)
