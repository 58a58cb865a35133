-- validate/slot.rs, the eight checks of an item. The racks and the hardpoints of the ship, which the Rust counts before, stand in `racks`.
use Rattle.std.specs.Prelude.{ℕ, Bool, false, not, ◌&&◌, ◌||◌, cond, List, ◌++◌, eqb, Float}
use Rattle.std.specs.Prelude.{Option, None, Some}
use Rattle.std.specs.Float.Ieee.{eq}
use Rattle.words.specs.Words.{◌>>=◌, each, when, when_any, given, same}
use Rattle.numbers.specs.Names as Names
use Rattle.numbers.specs.Slots as Slots
use Rattle.numbers.specs.Categories as Categories
use Rattle.floats.specs.Floats.{to_u}
use Rattle.catalogue.specs.Catalogue.{Id}
use Rattle.catalogue.specs.Lookups.{name_id}
use Rattle.fit.specs.Lookups.{value}
use Rattle.entry.specs.declared.Entry.{Entry}
use Rattle.entry.specs.declared.Rule.TheVariants.{WrongSlot, NotAModule, NotADrone, NotAFighter, NotAnImplant}
use Rattle.entry.specs.declared.Rule.TheVariants.{SlotTaken, WrongSlotIndex, SubsystemTaken}
use Rattle.context.specs.Context.{Pair, Context, is_fitted, is_in, is_fighter_slot, is_other, is_module_category, on}

-- ---- checks that look at one item
-- the name of an implant's or a booster's own slot number
unfoldable pub slot_number_name : Pair → Option ℕ
slot_number_name p = cond (is_in Slots.implant p) (Some Names.implantness) (cond (is_in Slots.booster p) (Some Names.boosterness) None)

module _ (x : Context) (p : Pair) where
  unfoldable pub wrong_slot : List Entry
  -- each rack that a type asks for has a kind: `rack_kind` in proofs/Placing.antt
  wrong_slot = do
    rack ← p.rack
    expected ← Slots.kind_of rack
    when (is_fitted p && not (is_in rack p)) (on p (WrongSlot expected))

  unfoldable pub not_a_module : List Entry
  not_a_module = when (is_fitted p && not (is_module_category p.category)) (on p NotAModule)

  unfoldable pub not_a_drone : List Entry
  not_a_drone = when (is_in Slots.drone_bay p && not (same p.category Categories.drone)) (on p NotADrone)

  unfoldable pub not_a_fighter : List Entry
  not_a_fighter = when (is_fighter_slot p && not (same p.category Categories.fighter)) (on p NotAFighter)

  unfoldable pub not_an_implant : List Entry
  not_an_implant =
      when ((is_in Slots.implant p || is_in Slots.booster p) && not (same p.category Categories.implant)) (on p NotAnImplant)

  unfoldable pub wrong_slot_index : List Entry
  wrong_slot_index = do
    name ← slot_number_name p
    id ← name_id x.names name
    v ← value p.result id
    when (not (eqb (to_u 16 v) p.index)) (on p (WrongSlotIndex (to_u 16 v)))

-- ---- checks that look at the others too
-- `holds_one`: a bay holds as many as fit in it
unfoldable pub holds_one : Pair → Bool
holds_one p = not (is_in Slots.drone_bay p || is_in Slots.fighter_bay p || is_in Slots.cargo p)

-- `shares_slot`: another item, in the same slot
unfoldable pub shares_slot : Pair → Pair → Bool
shares_slot p o = is_other p o && (eqb o.slot p.slot && eqb o.index p.index)

-- `subsystem_taken`: another subsystem, for the same part of the ship
unfoldable pub shares_part : Id → Float → Pair → Pair → Bool
shares_part id part p o = is_other p o && (is_in Slots.subsystem o && given (value o.result id) false (λ v. eq v part))

module _ (x : Context) (ps : List Pair) (p : Pair) where
  unfoldable pub slot_taken : List Entry
  slot_taken = when_any (holds_one p) (shares_slot p) ps (on p SlotTaken)

  unfoldable pub subsystem_taken : List Entry
  subsystem_taken = do
    id ← name_id x.names Names.sub_system_slot
    part ← value p.result id
    when_any (is_in Slots.subsystem p) (shares_part id part p) ps (on p SubsystemTaken)

  unfoldable pub slot_checks : List Entry
  slot_checks =
      wrong_slot x p ++ not_a_module x p ++ not_a_drone x p ++ not_a_fighter x p ++ not_an_implant x p
      ++ slot_taken ++ wrong_slot_index x p ++ subsystem_taken

-- `validate`, as far as it looks at the items one by one
abbrev pub slot_rules : Context → List Pair → List Entry
slot_rules x ps = each ps (slot_checks x ps)
