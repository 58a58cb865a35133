-- `deciding::rooms` meets its contract. The invariant: the first i pairs are told.
use Rattle.std.proofs.Common.{◌≡◌, length}
use Rattle.cause.specs.Decided.{Rooms}
use Rattle.cause.proofs.deciding.rooms.Given as goal

abbrev pub invariant-loop-i : goal.invariant-loop-i
invariant-loop-i l = (length l.rooms ≡ 256) × Rooms l.i l.fn.context l.rooms
