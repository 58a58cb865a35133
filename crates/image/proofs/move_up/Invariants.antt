-- `image::move_up` meets its contract. The invariant: the bytes from i on are moved.
use Prim.Native.Nat.{◌≤◌}
use mathlib.Core.Path.{◌≡◌}
use Rattle.image.proofs.Puts.{moved}
use Rattle.image.proofs.move_up.Given as goal

abbrev pub invariant-loop-i : goal.invariant-loop-i
invariant-loop-i l = (l.b ≡ moved l.initial.b l.end l.by l.i) × (l.at ≤ l.i) × (l.i ≤ l.end)
