-- `deciding::sums_before` meets its contract. The invariant: the sums before the first i, and the sum of those.
use Rattle.std.proofs.Common.{◌≡◌, length}
use lib.ListN.{take}
use Rattle.cause.specs.Decided.{stowed, Sums}
use Rattle.cause.proofs.deciding.sums_before.Given as goal

abbrev pub invariant-loop-i : goal.invariant-loop-i
invariant-loop-i l = (length l.before ≡ 256) × Sums l.i l.rooms l.before × (l.used ≡ stowed (take l.i l.rooms))
