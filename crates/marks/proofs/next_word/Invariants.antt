-- `marks::next_word` meets its contract. The invariant: the words passed are 0.
use Rattle.std.proofs.Common.{ℕ, ◌≤◌, ◌<◌, ◌≡◌}
use lib.ListN.{get_or}
use Rattle.marks.proofs.next_word.Given as goal

abbrev pub invariant-loop-k : goal.invariant-loop-k
invariant-loop-k l = (k : ℕ) → l.fn.from ≤ k → k < l.k → get_or l.fn.marks k 0 ≡ 0
