-- `slot::places` meets its contract. The invariant: the first i pairs have been placed.
use mathlib.Core.Path.{◌≡◌}
use lib.ListN.{length}
use Rattle.slot.specs.AtPair.{Placed}
use Rattle.slot.proofs.places.Given as goal

abbrev pub invariant-loop-i : goal.invariant-loop-i
invariant-loop-i l = (length l.places ≡ 256) × Placed l.i l.context.fit.now l.places
