-- `Catalogue::slots_of` meets its contract. The invariant: what is found is the last mark of the links so far.
use mathlib.Core.Path.{◌≡◌}
use Rattle.catalogue.proofs.Walking.{last_to}
use Rattle.catalogue.proofs.Catalogue.slots_of.Given as goal

abbrev pub invariant-loop-i : goal.invariant-loop-i
invariant-loop-i l = record {
  rack : l.found.rack ≡ last_to l.self-inside.blocks l.id 1 6 l.i;
  hardpoint : l.found.hardpoint ≡ last_to l.self-inside.blocks l.id 7 8 l.i;
}
