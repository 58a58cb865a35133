-- `fit_refusals::counted` meets its contract. The invariant: the sum is how many attributes stand before result j.
use Prim.Native.Nat.{◌*◌, ◌≤◌}
use mathlib.Core.Path.{◌≡◌}
use Rattle.fit.specs.Fit.{start_at}
use Rattle.fit_refusals.proofs.counted.Given as goal

abbrev pub invariant-loop-j : goal.invariant-loop-j
invariant-loop-j l = (l.sum ≡ start_at l.fit l.j) × (l.sum ≤ 65535 * l.j)
