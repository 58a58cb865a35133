-- `Item::not_an_implant` meets its contract: the item's fields are the pair's.
use mathlib.Core.Path.{refl}
use Rattle.slot.specs.Slot.{not_an_implant}
use Rattle.slot.proofs.Checks.{checked, not-an_implant_is}
use Rattle.slot.proofs.Item.not_an_implant.Goals as goal

pub returns : goal.returns
returns c =
    let a = c.args in
    checked (λ x ps p. not_an_implant x p) c.push_unless.ensures
    (λ x ps p h. not-an_implant_is a.self x h refl)
