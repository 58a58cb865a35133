-- validate/slot.rs, the racks and the hardpoints of a ship: `RACKS`, `HARDPOINTS`, their two loops and `report`.
use Rattle.std.specs.Prelude.{ℕ, Bool, true, false, ◌&&◌, List, [], ◌∷◌, ◌++◌, eqb}
use Rattle.words.specs.Words.{◌>>=◌, each, when_above, count_of, given}
use Rattle.numbers.specs.Names as Names
use Rattle.numbers.specs.declared.SlotKind.{SlotKind}
use Rattle.numbers.specs.declared.SlotKind.TheVariants.{High, Medium, Low, Rig, Subsystem, Service, Turret, Launcher}
use Rattle.numbers.specs.Slots.{number}
use Rattle.floats.specs.Floats.{to_u}
use Rattle.catalogue.specs.Lookups.{name_id}
use Rattle.fit.specs.Lookups.{amount}
use Rattle.entry.specs.declared.Entry.{Entry}
use Rattle.entry.specs.declared.Rule.TheVariants.{Slots}
use Rattle.entry.specs.Entries.{on_ship}
use Rattle.context.specs.Context.{Pair, Context, is_fitted, is_in}

-- a slot, the name of the ship's number of them
abbrev pub RACKS : List (SlotKind × ℕ)
RACKS =
    (High, Names.hi_slots)
    ∷ (Medium, Names.med_slots)
    ∷ (Low, Names.low_slots)
    ∷ (Rig, Names.rig_slots)
    ∷ (Subsystem, Names.max_sub_systems)
    ∷ (Service, Names.service_slots)
    ∷ []

abbrev pub HARDPOINTS : List (SlotKind × ℕ)
HARDPOINTS = (Turret, Names.turret_slots_left) ∷ (Launcher, Names.launcher_slots_left) ∷ []

unfoldable pub takes_hardpoint : SlotKind → Pair → Bool
takes_hardpoint slot p = is_fitted p && given p.hardpoint false (λ h. eqb h (number slot))

-- `report`: more items in a rack or on a hardpoint than the ship has of them
unfoldable pub slots : Context → SlotKind → ℕ → ℕ → List Entry
slots x slot name used = do
  id ← name_id x.names name
  let available = to_u 32 (amount x.ship_result id) in
      when_above true used available λ n. on_ship (Slots slot n available)

module _ (x : Context) (ps : List Pair) where
  -- what is reported of one rack
  abbrev pub in_rack : SlotKind × ℕ → List Entry
  in_rack row = slots x row.0 row.1 (count_of (is_in (number row.0)) ps)

  unfoldable pub racks : List Entry
  racks = each RACKS in_rack

  -- what is reported of one kind of hardpoint
  abbrev pub on_hardpoint : SlotKind × ℕ → List Entry
  on_hardpoint row = slots x row.0 row.1 (count_of (takes_hardpoint row.0) ps)

  unfoldable pub hardpoints : List Entry
  hardpoints = each HARDPOINTS on_hardpoint

  -- `validate`, as far as it looks at the ship
  abbrev pub racks_and_hardpoints : List Entry
  racks_and_hardpoints = racks ++ hardpoints
