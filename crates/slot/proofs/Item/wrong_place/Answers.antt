-- `Item::wrong_place` meets its contract: five checks, one after the other.
use native.Mathlib.Omega.{arith}
use Rattle.entry.proofs.Emitted.{emitted-append}
use Rattle.slot.proofs.Item.wrong_place.Goals as goal

pub returns : goal.returns
returns c =
    let v = c.wrong_slot.ensures in
    let w = c.not_a_module.ensures in
    let y = c.not_a_drone.ensures in
    let z = c.not_a_fighter.ensures in
    let u = c.not_an_implant.ensures in
    record {
      wrote = λ x ps p h. emitted-append
          (emitted-append (emitted-append (emitted-append (v.wrote x ps p h) (w.wrote x ps p h)) (y.wrote x ps p h)) (z.wrote x ps p h))
          (u.wrote x ps p h);
      few = omega (arith, v.few, w.few, y.few, z.few, u.few);
    }
