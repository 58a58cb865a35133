-- `fit::starts` meets its contract. The invariant: all places up to j hold where their result's attributes begin.
use Prim.Native.Nat.{ℕ, ◌≤◌}
use mathlib.Core.Path.{◌≡◌}
use lib.ListN.{get_or}
use Rattle.fit.specs.Fit.{start_at}
use lib.ListN.{length}
use Rattle.fit.proofs.starts.Given as goal

abbrev pub invariant-loop-j : goal.invariant-loop-j
invariant-loop-j l = record {
  long : length l.s ≡ 259;
  sum : l.sum ≡ start_at l.fit l.j;
  begins : (k : ℕ) → k ≤ l.j → get_or l.s k 0 ≡ start_at l.fit k;
}
