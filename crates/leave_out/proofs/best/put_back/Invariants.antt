-- `best::put_back` meets its contract. The invariant: the best of the first k tries.
use Rattle.std.proofs.Common.{◌≡◌}
use lib.ListN.{take}
use Rattle.leave_out.specs.Held.{passes, best_of}
use Rattle.leave_out.proofs.best.put_back.Given as goal

abbrev pub invariant-loop-k : goal.invariant-loop-k
invariant-loop-k l = take l.fn.n l.best ≡ best_of (passes l.fn.rows) l.fn.n l.k
