-- `bits::marks_of` meets its contract: marked from the first place on.
use Rattle.std.proofs.Common.{replicate, arith}
use Rattle.leave_out.proofs.Marking.{unmarked, marked-flags}
use Rattle.leave_out.proofs.bits.marks_of.Goals as goal

pub mark_set-requires : goal.mark_set-requires
mark_set-requires c = record { few = (c.requires, omega arith); room = omega arith; none = unmarked 4 0 }

pub returns : goal.returns
returns c = let a = c.args in marked-flags a.n a.flags.now (replicate 4 0) c.mark_set.new.marks (omega (arith, c.requires)) c.mark_set.ensures.marked
