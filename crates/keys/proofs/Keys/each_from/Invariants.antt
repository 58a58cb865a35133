-- `Keys::each_from` meets its contract. The invariant: all keys before a base are under its id, and none from `left` behind it on.
use Rattle.std.proofs.Common.{ℕ, ◌≡◌, ◌+◌, ◌/◌, ◌<◌, ◌≤◌, length}
use Rattle.std.specs.Prelude.{slice_index_or, pos}
use Rattle.keys.specs.Keys.{rank_of}
use Rattle.keys.proofs.Skips.{Searched}
use Rattle.keys.proofs.Keys.each_from.Given as goal

abbrev pub invariant-loop-left : goal.invariant-loop-left
invariant-loop-left g l =
    (length l.base ≡ g.row.N)
    × ((j : ℕ) → j < g.row.N → Searched l.self.bytes.now l.self.n (rank_of (slice_index_or l.ids j (pos 0))) (slice_index_or l.base j 0) (slice_index_or l.base j 0 + l.left))

abbrev pub decreases-loop-left : goal.decreases-loop-left
decreases-loop-left g l = l.left

abbrev pub invariant-loop-j : goal.invariant-loop-j
invariant-loop-j g l =
    (length l.base ≡ g.row.N)
    × ((k : ℕ) → k < l.j → Searched l.self.bytes.now l.self.n (rank_of (slice_index_or l.ids k (pos 0))) (slice_index_or l.base k 0) (slice_index_or l.base k 0 + l.left / 2))
    × ((k : ℕ) → l.j ≤ k → k < g.row.N → Searched l.self.bytes.now l.self.n (rank_of (slice_index_or l.ids k (pos 0))) (slice_index_or l.base k 0) (slice_index_or l.base k 0 + l.left))
