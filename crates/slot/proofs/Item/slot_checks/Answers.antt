-- `Item::slot_checks` meets its contract: eight checks, one after the other.
use native.Mathlib.Omega.{arith}
use mathlib.Core.Path.{ap, ◌∙◌}
use Prim.Native.Nat.{ℕ}
use Rattle.words.specs.Words.{when}
use Rattle.entry.specs.Entries.{on_item}
use Rattle.entry.specs.declared.Rule.TheVariants.{SubsystemTaken}
use Rattle.entry.proofs.Emitted.{emitted-same, emitted-append}
use Rattle.slot.specs.Slot.{slot_checks}
use Rattle.slot.proofs.Checks.{slot-taken_is}
use Rattle.slot.proofs.Item.slot_checks.Goals as goal

pub returns : goal.returns
unfolding slot_checks
returns c =
    let item = c.args.self in
    let v = c.wrong_place.ensures in
    let y = c.push_when.ensures in
    let z = c.expect_index.ensures in
    let q = c.push_when-2.ensures in
    record {
      wrote = λ x ps p h. emitted-append
          (emitted-append (emitted-append (v.wrote x ps p h) (emitted-same (slot-taken_is item x h) y.0)) (z.wrote x ps p h))
          (emitted-same (ap (λ (at : ℕ). when item.covered (on_item at SubsystemTaken)) h.position ∙ h.covered) q.0);
      few = omega (arith, v.few, y.1, z.few, q.1);
    }
