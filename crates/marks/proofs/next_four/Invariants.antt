-- `marks::next_four` meets its contract. The invariant: the words passed are 0.
use Rattle.std.proofs.Common.{◌≤◌, ◌-◌}
use Rattle.marks.proofs.Places.{Empty}
use Rattle.marks.proofs.next_four.Given as goal

abbrev pub invariant-loop-i : goal.invariant-loop-i
invariant-loop-i l = (l.fn.from ≤ l.i) × (l.i ≤ l.fn.end) × Empty l.fn.marks l.fn.from l.i

abbrev pub decreases-loop-i : goal.decreases-loop-i
decreases-loop-i l = l.fn.end - l.i
