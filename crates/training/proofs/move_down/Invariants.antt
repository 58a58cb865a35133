-- `training::move_down` meets its contract. The invariant: the bytes before i are moved.
use Prim.Native.Nat.{◌≤◌}
use mathlib.Core.Path.{◌≡◌}
use Rattle.training.proofs.Opening.{lowered}
use Rattle.training.proofs.move_down.Given as goal

abbrev pub invariant-loop-i : goal.invariant-loop-i
invariant-loop-i l = (l.b ≡ lowered l.initial.b l.at l.by l.i) × (l.at ≤ l.i) × (l.i ≤ l.end)
