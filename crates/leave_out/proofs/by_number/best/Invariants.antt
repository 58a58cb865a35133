-- `by_number::best` meets its contract. The invariant: the best of those tries and the first numbers.
use Rattle.std.proofs.Common.{◌+◌}
use lib.ListN.{take}
use Rattle.leave_out.specs.Held.{passes, best_of, IsFound}
use Rattle.leave_out.proofs.by_number.best.Given as goal

abbrev pub invariant-loop-number : goal.invariant-loop-number
invariant-loop-number l = IsFound (take l.fn.n l.fn.back) l.fn.n l.found (best_of (passes l.fn.rows) l.fn.n (l.fn.n + l.number))
