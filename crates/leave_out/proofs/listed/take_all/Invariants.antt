-- `listed::take_all` meets its contract. The invariant: the first i entries are taken in.
use Rattle.leave_out.proofs.Listing.{Begun}
use Rattle.leave_out.proofs.listed.take_all.Given as goal

abbrev pub invariant-loop-i : goal.invariant-loop-i
invariant-loop-i l = Begun l.fn.context l.i l.rows
