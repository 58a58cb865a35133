-- `deciding::cargo_kept` meets its contract. The invariant: the sum of those of the first j that are kept, in order from +0.
use Rattle.std.proofs.Common.{◌≡◌}
use lib.ListN.{take}
use Rattle.parts.specs.Parts.{chosen}
use Rattle.cause.specs.Decided.{stowed}
use Rattle.cause.proofs.deciding.cargo_kept.Given as goal

abbrev pub invariant-loop-j : goal.invariant-loop-j
invariant-loop-j l = l.used ≡ stowed (chosen (take l.j l.kept) (take l.j l.rooms))
