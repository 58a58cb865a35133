-- `item::ids_of` meets its contract. The invariant: the ids of the rows passed stand in their places.
use mathlib.Core.Path.{◌≡◌}
use mathlib.Core.List.{map}
use lib.ListN.{length, take}
use Rattle.catalogue.specs.Catalogue.{catalogue_of}
use Rattle.catalogue.specs.Lookups.{name_id}
use Rattle.item.proofs.ids_of.Given as goal

abbrev pub invariant-loop-k : goal.invariant-loop-k
invariant-loop-k g l =
    (length l.ids ≡ length l.rows) × (take l.k l.ids ≡ map (name_id (catalogue_of l.catalogue).names) (take l.k l.rows))
