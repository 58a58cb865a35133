-- `deciding::stacks` meets its contract. The invariant: the first i pairs are told.
use Rattle.std.proofs.Common.{◌≡◌, length}
use Rattle.cause.specs.Decided.{Stacks}
use Rattle.cause.proofs.deciding.stacks.Given as goal

abbrev pub invariant-loop-i : goal.invariant-loop-i
invariant-loop-i l = (length l.stacks ≡ 256) × Stacks l.i l.fn.context l.stacks
