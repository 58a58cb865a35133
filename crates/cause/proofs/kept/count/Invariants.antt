-- `kept::count` meets its contract. The invariant: those of the first i.
use Rattle.std.proofs.Common.{◌≡◌, ◌≤◌}
use lib.ListN.{take}
use Rattle.parts.specs.Parts.{size}
use Rattle.cause.proofs.kept.count.Given as goal

abbrev pub invariant-loop-i : goal.invariant-loop-i
invariant-loop-i l = (l.count ≤ l.i) × (l.count ≡ size (take l.i l.kept))
