-- `marks::clear` meets its contract. The invariant: the first i words are 0.
use Rattle.std.proofs.Common.{ℕ, ◌<◌, ◌≡◌, length}
use lib.ListN.{get_or}
use Rattle.marks.proofs.clear.Given as goal

abbrev pub invariant-loop-i : goal.invariant-loop-i
invariant-loop-i l = (length l.marks ≡ length l.initial.marks) × ((k : ℕ) → k < l.i → get_or l.marks k 0 ≡ 0)
