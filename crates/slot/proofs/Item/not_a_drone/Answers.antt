-- `Item::not_a_drone` meets its contract: the item's fields are the pair's.
use Rattle.slot.specs.Slot.{not_a_drone}
use Rattle.slot.proofs.Checks.{checked, not-a_drone_is}
use Rattle.slot.proofs.Item.not_a_drone.Goals as goal

pub returns : goal.returns
returns c =
    let a = c.args in
    checked (λ x ps p. not_a_drone x p) c.push_unless.ensures (λ x ps p h. not-a_drone_is a.self x h)
