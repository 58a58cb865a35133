-- `bits::mark_set` meets its contract. The invariant: the first i flags are marked.
use Rattle.std.proofs.Common.{◌≡◌, length}
use Rattle.leave_out.specs.Bits.{Marked}
use Rattle.leave_out.proofs.bits.mark_set.Given as goal

abbrev pub invariant-loop-i : goal.invariant-loop-i
invariant-loop-i l = Marked l.fn.place l.i l.fn.flags l.initial.marks l.marks × (length l.marks ≡ length l.initial.marks)
