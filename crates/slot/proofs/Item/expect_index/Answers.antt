-- `Item::expect_index` meets its contract, by the two cases of an expected index.
use native.Mathlib.Omega.{arith}
use Rattle.entry.proofs.Emitted.{emitted_none}
use Rattle.slot.specs.Slot.{wrong_slot_index}
use Rattle.slot.proofs.Checks.{checked, index_is, index-none}
use Rattle.slot.proofs.Item.expect_index.Goals as goal

pub returns-in-Some : goal.returns-in-Some
returns-in-Some c =
    let a = c.args in
    checked (λ x ps p. wrong_slot_index x p) c.push_when.ensures
    (λ x ps p h. index_is a.self x h c.in-Some.is)

pub returns-in_default : goal.returns-in_default
returns-in_default c =
    let a = c.args in
    checked (λ x ps p. wrong_slot_index x p) (emitted_none _, omega arith) (λ x ps p h. index-none a.self x h c.in_default.is)
