-- `catalogue::run_end` meets its contract. The invariant: each key so far is the id.
use Prim.Native.Nat.{ℕ, ◌+◌, ◌*◌, ◌≤◌, ◌<◌}
use mathlib.Core.Path.{◌≡◌}
use mathlib.Core.Bool.{true}
use Rattle.words.specs.Words.{same}
use Rattle.image.specs.Bytes.{i32_at}
use Rattle.catalogue.proofs.run_end.Given as goal

abbrev pub invariant-loop-i : goal.invariant-loop-i
invariant-loop-i l = (k : ℕ) → k < l.i → l.first ≤ k → same (i32_at l.catalogue (l.b.at + 4 * k)) l.id ≡ true
