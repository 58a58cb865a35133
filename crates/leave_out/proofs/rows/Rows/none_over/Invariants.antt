-- `Rows::none_over` meets its contract. The invariant: none of the first r is over.
use Rattle.std.proofs.Common.{◌≡◌, false}
use Rattle.words.specs.Words.{any_of, from}
use Rattle.leave_out.specs.Bits.{marked_of}
use Rattle.leave_out.specs.Held.{is_over}
use Rattle.leave_out.proofs.rows.Rows.none_over.Given as goal

abbrev pub invariant-loop-r : goal.invariant-loop-r
invariant-loop-r l = any_of (is_over l.fn.self (marked_of l.fn.n l.fn.left)) (from 0 l.r) ≡ false
