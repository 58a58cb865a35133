-- `deciding::drones_kept` meets its contract. The invariant: the sum of those of the first i that are kept, each below 2 ^ 32.
use Rattle.std.proofs.Common.{◌≡◌, ◌*◌, ◌≤◌}
use lib.ListN.{take}
use Rattle.parts.specs.Parts.{chosen}
use Rattle.cause.specs.Decided.{total}
use Rattle.cause.proofs.deciding.drones_kept.Given as goal

abbrev pub invariant-loop-i : goal.invariant-loop-i
invariant-loop-i l = (l.sum ≤ 4294967295 * l.i) × (l.sum ≡ total (chosen (take l.i l.kept) (take l.i l.stacks)))
