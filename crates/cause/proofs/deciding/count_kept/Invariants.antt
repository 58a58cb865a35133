-- `deciding::count_kept` meets its contract. The invariant: of the first i, those that are kept and members.
use Rattle.std.proofs.Common.{◌≡◌, ◌≤◌}
use lib.ListN.{take}
use Rattle.parts.specs.Parts.{chosen, size}
use Rattle.cause.proofs.deciding.count_kept.Given as goal

abbrev pub invariant-loop-i : goal.invariant-loop-i
invariant-loop-i l = (l.sum ≤ l.i) × (l.sum ≡ size (chosen (take l.i l.kept) (take l.i l.members)))
