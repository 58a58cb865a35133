-- `slot::places` meets its contract. The invariant: the first i pairs have been placed.
use Prim.Native.Nat.{ℕ, ◌<◌}
use native.Mathlib.Omega.{arith}
use mathlib.Core.Path.{refl, ◌∙◌}
use lib.ListN.{length, length-set}
use Rattle.slot.proofs.Sharing.{sits_as, placed_next}
use Rattle.slot.proofs.places.Goals as goal

None : (k : ℕ) → k < 0 → ⊥
None k h = omega arith

pub loop-i-init : goal.loop-i-init
loop-i-init c = (refl, λ k h. absurd (None k h))

pub bounds-places-i : goal.bounds-places-i
bounds-places-i c = omega (arith, c.args.context.now.gathered.fit_sound.sized.items)

pub loop-i-preserved : goal.loop-i-preserved
loop-i-preserved c =
    let l = c.loop-i in
    let b : l.i < length l.places = omega (arith, l.invariant.0, c.args.context.now.gathered.fit_sound.sized.items) in (
      length-set l.places l.i _ ∙ l.invariant.0,
      placed_next c.args.context.now.fit.now l.places l.i b l.invariant.1
          (sits_as c.item_slot.ensures c.item_index.ensures c.place_of.ensures),
    )

pub returns : goal.returns
returns c = λ i h. c.loop-i.invariant.1 i (omega (arith, h, c.loop-i-test.false, c.pair_count-i-end.ensures))
