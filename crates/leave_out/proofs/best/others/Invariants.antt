-- `best::others` meets its contract. The invariant: the first i are told.
use Rattle.std.proofs.Common.{◌≡◌, ◌<◌, ℕ, not, false, length}
use lib.ListN.{get_or}
use Rattle.leave_out.proofs.best.others.Given as goal

abbrev pub invariant-loop-i : goal.invariant-loop-i
invariant-loop-i l = (length l.left ≡ 256) × ((k : ℕ) → k < l.i → get_or l.left k false ≡ not (get_or l.fn.off k false))
