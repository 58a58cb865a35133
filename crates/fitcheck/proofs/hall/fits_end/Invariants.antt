-- `hall::fits_end` meets its contract. The invariant: `at` is where fit i begins.
use Prim.Native.Nat.{◌+◌, ◌*◌, ◌-◌, ◌≤◌}
use mathlib.Core.Path.{◌≡◌}
use Rattle.fitcheck.specs.Hall.{fit_start}
use Rattle.fitcheck.proofs.hall.fits_end.Given as goal

abbrev pub invariant-loop-i : goal.invariant-loop-i
invariant-loop-i l = (l.at ≡ fit_start l.input l.i) × (l.at ≤ 260 + 4294967296 * l.i)
