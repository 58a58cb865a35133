-- `members::members` meets its contract. The invariant: the first i pairs are told.
use Rattle.std.proofs.Common.{◌≡◌, length}
use Rattle.cause.specs.Decided.{Members}
use Rattle.cause.proofs.members.members.Given as goal

abbrev pub invariant-loop-j : goal.invariant-loop-j
invariant-loop-j l = (length l.members ≡ 256) × Members l.j l.fn.context l.fn.shown l.members
