-- `by_number::set_of` meets its contract. The invariant: the first i flags are the number's.
use Rattle.std.proofs.Common.{◌≡◌, ◌<◌, ℕ, false, length}
use lib.ListN.{get_or}
use Rattle.marks.specs.Marks.{bit_of}
use Rattle.leave_out.proofs.by_number.set_of.Given as goal

abbrev pub invariant-loop-i : goal.invariant-loop-i
invariant-loop-i l = (length l.set ≡ 256) × ((k : ℕ) → k < l.i → get_or l.set k false ≡ bit_of l.fn.number k)
