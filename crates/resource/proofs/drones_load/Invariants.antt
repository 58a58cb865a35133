-- `resource::drones_load` meets its contract. The invariant: the sum of the first i pairs, each below 2 ^ 32.
use Rattle.std.proofs.Common.{◌≡◌, ◌*◌, ◌≤◌}
use Rattle.words.specs.Words.{table}
use Rattle.context.specs.Held.{pair_in}
use Rattle.resource.specs.Resource.{launched}
use Rattle.resource.proofs.drones_load.Given as goal

abbrev pub invariant-loop-i : goal.invariant-loop-i
invariant-loop-i l = (l.sum ≤ 4294967295 * l.i) × (l.sum ≡ launched (table l.i (pair_in l.context)))
