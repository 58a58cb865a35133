-- Racks and hardpoints: what is reported of each.
use Prim.Native.Nat.{ℕ}
use mathlib.Core.Path.{◌≡◌}
use mathlib.Core.List.{List, []}
use Rattle.std.specs.Prelude.{None, Some}
use lib.Dec.{ltb}
use Rattle.words.specs.Words.{◌>>=◌, when, when_above}
use Rattle.floats.specs.Floats.{to_u}
use Rattle.catalogue.specs.Catalogue.{Id, catalogue_of}
use Rattle.catalogue.specs.Lookups.{name_id}
use Rattle.fit.specs.Fit.{fit_of, result_of}
use Rattle.fit.specs.Lookups.{amount}
use Rattle.numbers.specs.declared.SlotKind.{SlotKind}
use Rattle.entry.specs.declared.Entry.{Entry}
use Rattle.entry.specs.declared.Rule.TheVariants.{Slots}
use Rattle.entry.specs.Entries.{on_ship}
use Rattle.context.specs.Context.{context}
use Rattle.context.specs.Gathered.{context_of}
use Rattle.racks.specs.Racks.{slots}

module _ (catalogue fit : List ℕ) (slot : SlotKind) (name used : ℕ) where
  -- what is reported of a row and a count
  abbrev reported : List Entry
  reported = slots (context_of catalogue fit) slot name used

  -- the attribute is there
  pub slots-is : (id : Id) (available : ℕ) → name_id (catalogue_of catalogue).names name ≡ Some id
      → available ≡ to_u 32 (amount (result_of fit 0) id)
      → when (ltb available used) (on_ship (Slots slot used available)) ≡ reported
  unfolding slots when_above context_of context fit_of ◌>>=◌
  slots-is id available e q = rw (e, q)

  -- it is not
  pub slots-none : name_id (catalogue_of catalogue).names name ≡ None → [] ≡ reported
  unfolding slots context_of context ◌>>=◌
  slots-none e = rw e
