-- `resource::cargo_load` meets its contract. The invariant: the sum of the first i pairs, in order from +0.
use Rattle.std.proofs.Common.{◌≡◌}
use Rattle.words.specs.Words.{table}
use Rattle.context.specs.Held.{pair_in}
use Rattle.resource.specs.Resource.{cargo_used}
use Rattle.resource.proofs.cargo_load.Given as goal

abbrev pub invariant-loop-i : goal.invariant-loop-i
invariant-loop-i l = l.used ≡ cargo_used (table l.i (pair_in l.context))
