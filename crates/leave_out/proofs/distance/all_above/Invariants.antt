-- `distance::all_above` meets its contract. The invariant: the sum of the first racks.
use Rattle.std.proofs.Common.{◌≡◌, ◌*◌, ◌≤◌}
use Rattle.words.specs.Words.{sum_of, from}
use Rattle.leave_out.specs.Held.{above_in}
use Rattle.leave_out.proofs.distance.all_above.Given as goal

abbrev pub invariant-loop-kind : goal.invariant-loop-kind
invariant-loop-kind l = (l.sum ≡ sum_of (above_in l.fn.context) (from 0 l.kind)) × (l.sum ≤ 4294967295 * l.kind)
