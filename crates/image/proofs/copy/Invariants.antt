-- `image::copy` meets its contract. The invariant: the first i bytes are stored.
use Prim.Native.Nat.{◌≤◌}
use mathlib.Core.Path.{◌≡◌}
use lib.ListN.{length, take}
use Rattle.image.specs.Bytes.{put}
use Rattle.image.proofs.copy.Given as goal

abbrev pub invariant-loop-i : goal.invariant-loop-i
invariant-loop-i l = (l.out ≡ put l.initial.out l.at (take l.i l.from)) × (l.i ≤ length l.from) × (length l.out ≡ length l.initial.out)
