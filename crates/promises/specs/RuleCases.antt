-- Cases of every rule: where it is listed, and where it is not. Each outcome is worked out by hand from the Rust, rule by rule.
-- Slots: 0 High, 1 Medium, 2 Low, 3 Rig, 4 Subsystem, 5 Service, 6 FighterTube, 7 FighterBay, 8 Implant, 9 Booster, 10 DroneBay, 11 Cargo.
use Rattle.std.specs.Prelude.{ℕ, ◌+◌, true, false, List, [], ◌∷◌, ◌++◌, map, pos, negsuc, Float}
use Rattle.std.specs.Float.{nan, inf, fin, binary32, binary64}
use Rattle.std.specs.Float.Ieee.{of_bits}
use Rattle.words.specs.Words.{each, from}
use Rattle.numbers.specs.Names.{cpu_load, max_active_drones, capacity, hi_slots, turret_slots_left, launcher_slots_left, implantness, boosterness}
use Rattle.numbers.specs.Names.{sub_system_slot, rig_size, fits_to_ship_type, can_fit_ship_type12, can_fit_ship_group01, can_fit_ship_group20, volume}
use Rattle.numbers.specs.Names.{is_capital_size, fighter_squadron_is_standup_light, fighter_squadron_is_standup_support}
use Rattle.numbers.specs.Names.{fighter_squadron_is_standup_heavy, max_group_fitted, max_group_online, max_group_active, max_type_fitted}
use Rattle.floats.specs.Floats.{zero_f, of_nat}
use Rattle.catalogue.specs.Catalogue.{Id, Catalogue}
use Rattle.fit.specs.Fit.{Attribute, Fit}
use Rattle.numbers.specs.declared.Resource.{Resource as Kind}
use Rattle.numbers.specs.declared.Resource.TheVariants.{Cpu, Powergrid, Calibration, DroneBay, DroneBandwidth, LaunchedDrones}
use Rattle.numbers.specs.declared.Resource.TheVariants.{FighterBay, FighterTubes, LightFighterTubes, SupportFighterTubes, HeavyFighterTubes, CargoBay}
use Rattle.numbers.specs.declared.SlotKind.{SlotKind}
use Rattle.numbers.specs.declared.SlotKind.TheVariants.{High, Medium, Low, Rig, Subsystem, Service, Turret, Launcher}
use Rattle.numbers.specs.declared.GroupLimit.TheVariants.{Fitted, Online, Active}
use Rattle.entry.specs.declared.Entry.{Entry}
use Rattle.entry.specs.declared.Rule.TheVariants.{Resource, Slots, WrongSlot, NotAModule, NotADrone, NotAFighter, NotAnImplant, SlotTaken}
use Rattle.entry.specs.declared.Rule.TheVariants.{WrongSlotIndex, SubsystemTaken, RigSize, ShipRestricted, CapitalItem, StructureItem}
use Rattle.entry.specs.declared.Rule.TheVariants.{ShipItem, MaxGroup, MaxType, NotAHull, NotAMode, NotASkill, UnknownType}
use Rattle.entry.specs.Entries.{on_ship, on_item}
use Rattle.promises.specs.Cases.{ship, structure, gun, plate, shield, relay, turret, launcher, part, standup_gun, rifle, hybrid, drone, squadron}
use Rattle.promises.specs.Cases.{hardwiring, stance, gunnery, ore, ghost, vast, parcel, unknown, known, has, result, Thing, stack, one, fit_with}
use Rattle.promises.specs.Cases.{fit, Unsigned, Signed, Over, Fitted, Number, Integer, Holds, Entries, Case}

-- n halves, n being odd
abbrev halves : ℕ → Float
halves n = fin false n (negsuc 0)

-- a fit under the names that are known, and its list
abbrev lists : List ℕ → Fit → List Entry → Case
lists names f es = (Fitted (known names) f, Entries es)

-- two things of a type
abbrev pair : Thing → Thing → List Thing
pair a b = a ∷ b ∷ []

abbrev alone : Thing → List Thing
alone a = a ∷ []

-- ---- mod.rs
-- a mode flag, a mode and skill ids on the ship
abbrev kinds : ℕ → Id → List Id → Fit
kinds flag mode ids = record {
  frame = record { ship = ship; mode_flag = flag; mode = mode; ship_result = result 0 []; character_result = result 0 [] };
  skills = ids;
  levels = map (λ _. 5) ids;
  items = [];
  results = [];
}

-- two items in High slots that are no modules, and one result
abbrev unpaired : Fit
unpaired = record {
  frame = record { ship = ship; mode_flag = 0; mode = pos 0; ship_result = result 0 []; character_result = result 0 [] };
  skills = [];
  levels = [];
  items = (one drone 0 0 []).0 ∷ (one drone 0 1 []).0 ∷ [];
  results = result 1 [] ∷ [];
}

abbrev pub KINDS : List Case
KINDS =
    -- `is_hull`: category 6 or 65, or one of four groups; of any other ship nothing else is listed
    lists [] (fit ship [] []) []
    ∷ lists [] (fit structure [] []) []
    ∷ lists [] (fit (pos 3) [] []) []
    ∷ lists [] (fit (pos 4) [] []) []
    ∷ lists [] (fit (pos 5) [] []) []
    ∷ lists [] (fit (pos 6) [] []) []
    ∷ lists [] (fit (pos 7) [] []) (on_ship NotAHull ∷ [])
    ∷ lists [] (fit unknown [] (alone (one drone 0 0 []))) (on_ship NotAHull ∷ [])
    -- `is_mode`: group 1306; no mode is none that is wrong
    ∷ lists [] (kinds 1 stance []) []
    ∷ lists [] (kinds 1 gun []) (on_ship NotAMode ∷ [])
    ∷ lists [] (kinds 1 unknown []) (on_ship NotAMode ∷ [])
    ∷ lists [] (kinds 0 (pos 0) []) []
    ∷ lists [] (kinds 1 (pos 0) []) (on_ship NotAMode ∷ [])
    -- `is_skill`: category 16; behind the mode, by ascending id
    ∷ lists [] (kinds 1 gun (negsuc 4 ∷ gun ∷ gunnery ∷ [])) (on_ship NotAMode ∷ on_ship (NotASkill (negsuc 4)) ∷ on_ship (NotASkill gun) ∷ [])
    -- an item without a result is no pair
    ∷ lists [] unpaired (on_item 0 NotAModule ∷ [])
    ∷ []

-- ---- resource.rs
-- load k is a + k, output k is b + k
abbrev loads_of : ℕ → ℕ → List Attribute
loads_of a b = each (from 0 10) λ k. has (k + k) (of_nat (a + k)) ∷ has (k + k + 1) (of_nat (b + k)) ∷ []

abbrev drones : List Thing
drones = stack 3 drone 10 0 2 [] ∷ stack 100 drone 10 0 1 [] ∷ stack 2 drone 10 0 3 [] ∷ stack 50 ore 11 0 2 [] ∷ []

-- over 32 bits, two stacks of them active
abbrev hangar : List Thing
hangar = stack 4294967295 drone 10 0 2 [] ∷ stack 5 drone 10 0 1 [] ∷ stack 1 drone 10 0 3 [] ∷ []

-- as many as a fit can hold
abbrev full_hangar : List Thing
full_hangar = map (λ _. stack 4294967295 drone 10 0 2 []) (from 0 256)

-- drones whose character leads so many
abbrev led : Float → List Thing → List Entry → Case
led most things es = lists (max_active_drones ∷ []) (fit_with ship [] (has max_active_drones most ∷ []) things) es

abbrev hold : List Thing
hold = stack 3 ore 11 0 0 [] ∷ stack 9 ghost 11 0 0 [] ∷ stack 9 unknown 11 0 0 [] ∷ []

-- the last of them is not in the catalogue
abbrev unheld : List Entry
unheld = on_item 2 (UnknownType unknown) ∷ []

-- two stacks in the hold of a ship, each of a type of its own with a volume
abbrev hauled : Float → Float → Catalogue
hauled a b = record {
  names = (known (capacity ∷ [])).names;
  effects = [];
  types =
      record { id = ship; group = pos 25; category = pos 6; volume_flag = 0; volume = zero_f }
      ∷ record { id = pos 2; group = pos 450; category = pos 25; volume_flag = 1; volume = a }
      ∷ record { id = pos 3; group = pos 450; category = pos 25; volume_flag = 1; volume = b } ∷ [];
  links = [];
  bases = [];
}

-- a stack in the hold, and no result
abbrev unloaded : Fit
unloaded = record {
  frame = record { ship = ship; mode_flag = 0; mode = pos 0; ship_result = result 0 []; character_result = result 0 [] };
  skills = [];
  levels = [];
  items = (stack 3 ore 11 0 0 []).0 ∷ [];
  results = [];
}

abbrev uses : Kind → ℕ → ℕ → Entry
uses kind used available = on_ship (Resource kind (of_nat used) (of_nat available))

abbrev pub RESOURCES : List Case
RESOURCES =
    -- `LOADS`, each resource with its own load and output
    lists (from 0 20) (fit ship (loads_of 20 10) [])
    (uses Cpu 20 10 ∷ uses Powergrid 21 11 ∷ uses Calibration 22 12 ∷ uses DroneBay 23 13 ∷ uses DroneBandwidth 24 14 ∷ uses FighterBay 25 15 ∷ uses FighterTubes 26 16 ∷ uses LightFighterTubes 27 17 ∷ uses SupportFighterTubes 28 18 ∷ uses HeavyFighterTubes 29 19 ∷ [])
    ∷ lists (from 0 20) (fit ship (loads_of 20 20) []) []
    -- an amount that is not there is 0; a name without an id skips its line
    ∷ lists (from 0 2) (fit ship (has cpu_load (of_nat 5) ∷ []) []) (uses Cpu 5 0 ∷ [])
    ∷ lists (from 0 1) (fit ship (has cpu_load (of_nat 5) ∷ []) []) []
    -- `launched_drones`: DroneBay at state 2 or above, against the character's limit
    ∷ lists (max_active_drones ∷ []) (fit_with ship (has max_active_drones (of_nat 100) ∷ []) (has max_active_drones (of_nat 4) ∷ []) drones) (uses LaunchedDrones 5 4 ∷ [])
    ∷ lists (max_active_drones ∷ []) (fit_with ship [] (has max_active_drones (of_nat 5) ∷ []) drones) []
    ∷ lists [] (fit ship [] drones) []
    -- a squadron in a tube is no drone
    ∷ lists (max_active_drones ∷ []) (fit ship [] (alone (stack 3 squadron 6 0 2 []))) []
    -- added up without loss: 2 ^ 32, and 2 ^ 40 - 256
    ∷ led (of_nat 5) hangar (on_ship (Resource LaunchedDrones (fin false 1 (pos 32)) (of_nat 5)) ∷ [])
    ∷ led (of_nat 4294967291) hangar (on_ship (Resource LaunchedDrones (fin false 1 (pos 32)) (of_nat 4294967291)) ∷ [])
    ∷ led (of_nat 5) full_hangar (on_ship (Resource LaunchedDrones (fin false 4294967295 (pos 8)) (of_nat 5)) ∷ [])
    -- within the slack of the limit, below a limit that is larger, and no limit to be over
    ∷ led (of_nat 4294967292) hangar []
    ∷ led (fin false 4294967295 (pos 8)) full_hangar []
    ∷ led (inf false) hangar []
    ∷ led (inf true) hangar []
    ∷ led nan hangar []
    -- `cargo`: volume times quantity, of the hold alone; no volume is 0
    ∷ lists (capacity ∷ []) (fit ship (has capacity (of_nat 7) ∷ []) hold) (on_ship (Resource CargoBay (halves 15) (of_nat 7)) ∷ unheld)
    ∷ lists (capacity ∷ []) (fit ship (has capacity (halves 15) ∷ []) hold) unheld
    ∷ lists (capacity ∷ []) (fit ship [] (alone (one ore 0 0 []))) (on_item 0 NotAModule ∷ [])
    ∷ lists [] (fit ship [] hold) unheld
    ∷ lists (capacity ∷ []) unloaded []
    -- summed in the items' order: each 1 is lost behind 2 ^ 53, and would not be before it
    ∷ lists (capacity ∷ []) (fit ship [] (one vast 11 0 [] ∷ one parcel 11 0 [] ∷ one parcel 11 0 [] ∷ [])) (on_ship (Resource CargoBay (fin false 1 (pos 53)) (of_nat 0)) ∷ [])
    ∷ lists (capacity ∷ []) (fit ship [] (one parcel 11 0 [] ∷ one parcel 11 0 [] ∷ one vast 11 0 [] ∷ [])) (on_ship (Resource CargoBay (fin false 4503599627370497 (pos 1)) (of_nat 0)) ∷ [])
    -- product and sum are rounded each for itself: together they would give one less in the last bit
    ∷ (
      Fitted (hauled (of_bits binary32 0x3C2C5998) (of_bits binary32 0x3DA649C1))
          (fit ship [] (stack 2755385480 (pos 2) 11 0 0 [] ∷ stack 3520945500 (pos 3) 11 0 0 [] ∷ [])),
      Entries (on_ship (Resource CargoBay (of_bits binary64 0x41B2C486DB5A132F) (of_nat 0)) ∷ []),
    )
    -- `over`: so is its limit; with one rounding the first would not be over, with it or with 1e-9 as an f32 the second would be
    ∷ (Over (of_bits binary64 0x40882C9BA8EE64DF) (of_bits binary64 0x40882C9BA8869100), Holds true)
    ∷ (Over (of_bits binary64 0x408E7AEB57B31E48) (of_bits binary64 0x408E7AEB573034FF), Holds false)
    -- a NaN is never over, nor is anything over it; infinity is over any number but itself
    ∷ (Over nan (of_nat 5), Holds false)
    ∷ (Over (of_nat 5) nan, Holds false)
    ∷ (Over (inf false) (of_nat 5), Holds true)
    ∷ (Over (inf false) (inf false), Holds false)
    ∷ []

-- ---- slot.rs
-- two in each rack
abbrev doubled : List Thing
doubled = each (from 0 6) λ slot. one gun slot 0 [] ∷ one gun slot 1 [] ∷ []

-- the ship's number of slots in each rack
abbrev room : Float → List Attribute
room v = map (λ n. has n v) (from hi_slots 6)

abbrev weapons : List Thing
weapons = one turret 0 0 [] ∷ one turret 0 1 [] ∷ one launcher 0 2 [] ∷ one turret 11 0 [] ∷ []

-- a part of the ship that a subsystem covers
abbrev covers : ℕ → ℕ → Float → Thing
covers slot index v = one part slot index (has sub_system_slot v ∷ [])

-- the gun has an effect with a mark
abbrev marked : ℕ → Catalogue
marked mark = record {
  names = [];
  effects = (known []).effects;
  types = (known []).types;
  links = record { type = gun; effect = pos (200 + mark) } ∷ [];
  bases = [];
}

-- the gun in a rack, where that is another one than its mark says
abbrev misplaced : (mark slot : ℕ) (expected : SlotKind) → Case
misplaced mark slot expected = (Fitted (marked mark) (fit ship [] (alone (one gun slot 0 []))), Entries (on_item 0 (WrongSlot expected) ∷ []))

abbrev pub SLOTS : List Case
SLOTS =
    -- `RACKS`: more than the ship's amount, which is cast; one that is not there is 0
    lists (from hi_slots 6) (fit ship (room (halves 3)) doubled)
    (on_ship (Slots High 2 1) ∷ on_ship (Slots Medium 2 1) ∷ on_ship (Slots Low 2 1) ∷ on_ship (Slots Rig 2 1) ∷ on_ship (Slots Subsystem 2 1) ∷ on_ship (Slots Service 2 1) ∷ [])
    ∷ lists (from hi_slots 6) (fit ship (room (of_nat 2)) doubled) []
    ∷ lists (hi_slots ∷ []) (fit ship [] (alone (one gun 0 0 []))) (on_ship (Slots High 1 0) ∷ [])
    ∷ lists [] (fit ship [] doubled) []
    -- `HARDPOINTS`: of what is fitted
    ∷ lists (turret_slots_left ∷ launcher_slots_left ∷ []) (fit ship (has turret_slots_left (of_nat 1) ∷ has launcher_slots_left (of_nat 1) ∷ []) weapons)
    (on_ship (Slots Turret 2 1) ∷ [])
    ∷ lists (turret_slots_left ∷ launcher_slots_left ∷ []) (fit ship (has turret_slots_left (of_nat 2) ∷ []) weapons) (on_ship (Slots Launcher 1 0) ∷ [])
    ∷ lists (turret_slots_left ∷ launcher_slots_left ∷ []) (fit ship (has turret_slots_left (of_nat 2) ∷ has launcher_slots_left (of_nat 1) ∷ []) weapons) []
    -- of two marks the last wins
    ∷ lists (turret_slots_left ∷ launcher_slots_left ∷ []) (fit ship [] (alone (one hybrid 0 0 []))) (on_ship (Slots Launcher 1 0) ∷ [])
    -- WrongSlot: a fitted item in another rack than the last of its marks says
    ∷ lists [] (fit ship [] (alone (one shield 0 0 []))) (on_item 0 (WrongSlot Medium) ∷ [])
    ∷ lists [] (fit ship [] (alone (one shield 1 0 []))) []
    ∷ lists [] (fit ship [] (alone (one shield 11 0 []))) []
    ∷ lists [] (fit ship [] (alone (one relay 0 0 []))) (on_item 0 (WrongSlot Low) ∷ [])
    ∷ lists [] (fit ship [] (alone (one relay 2 0 []))) []
    -- each mark of a rack is that of its own; 0, 7 and 8 are of none
    ∷ misplaced 1 5 High
    ∷ misplaced 2 0 Medium
    ∷ misplaced 3 1 Low
    ∷ misplaced 4 2 Rig
    ∷ misplaced 5 3 Subsystem
    ∷ misplaced 6 4 Service
    ∷ (Fitted (marked 0) (fit ship [] (alone (one gun 5 0 []))), Entries [])
    ∷ (Fitted (marked 7) (fit ship [] (alone (one gun 5 0 []))), Entries [])
    ∷ (Fitted (marked 8) (fit ship [] (alone (one gun 5 0 []))), Entries [])
    -- NotAModule: categories 7, 32 and 66 are modules
    ∷ lists [] (fit ship [] (pair (one drone 5 0 []) (one unknown 0 0 []))) (on_item 0 NotAModule ∷ on_item 1 NotAModule ∷ on_item 1 (UnknownType unknown) ∷ [])
    ∷ lists [] (fit ship [] (pair (one gun 0 0 []) (one part 4 0 []))) []
    ∷ lists [] (fit structure [] (alone (one standup_gun 0 0 []))) []
    ∷ lists [] (fit ship [] (alone (one drone 11 0 []))) []
    -- NotADrone: category 18 in DroneBay
    ∷ lists [] (fit ship [] (alone (one gun 10 0 []))) (on_item 0 NotADrone ∷ [])
    ∷ lists [] (fit ship [] (alone (one drone 10 0 []))) []
    -- NotAFighter: category 87 in FighterTube and FighterBay
    ∷ lists [] (fit ship [] (pair (one gun 6 0 []) (one drone 7 0 []))) (on_item 0 NotAFighter ∷ on_item 1 NotAFighter ∷ [])
    ∷ lists [] (fit ship [] (pair (one squadron 6 0 []) (one squadron 7 0 []))) []
    -- NotAnImplant: category 20 in Implant and Booster
    ∷ lists [] (fit ship [] (pair (one gun 8 1 []) (one gunnery 9 1 []))) (on_item 0 NotAnImplant ∷ on_item 1 NotAnImplant ∷ [])
    ∷ lists [] (fit ship [] (pair (one hardwiring 8 1 []) (one hardwiring 9 1 []))) []
    -- SlotTaken: the same kind and index, both of them; not in a bay or the hold
    ∷ lists [] (fit ship [] (pair (one gun 0 3 []) (one plate 0 3 []))) (on_item 0 SlotTaken ∷ on_item 1 SlotTaken ∷ [])
    ∷ lists [] (fit ship [] (pair (one gun 0 3 []) (one gun 0 4 []))) []
    ∷ lists [] (fit ship [] (pair (one gun 0 3 []) (one gun 1 3 []))) []
    ∷ lists [] (fit ship [] (pair (one squadron 6 2 []) (one squadron 6 2 []))) (on_item 0 SlotTaken ∷ on_item 1 SlotTaken ∷ [])
    ∷ lists [] (fit ship [] (pair (one gun 3 2 []) (one gun 3 2 []))) (on_item 0 SlotTaken ∷ on_item 1 SlotTaken ∷ [])
    ∷ lists [] (fit ship [] (pair (one squadron 7 0 []) (one squadron 7 0 []))) []
    ∷ lists [] (fit ship [] (pair (one drone 10 0 []) (one drone 10 0 []))) []
    ∷ lists [] (fit ship [] (pair (one ore 11 0 []) (one ore 11 0 []))) []
    ∷ lists [] (fit ship [] (pair (one hardwiring 8 5 []) (one hardwiring 8 5 []))) (on_item 0 SlotTaken ∷ on_item 1 SlotTaken ∷ [])
    -- WrongSlotIndex: an implant's or a booster's own number, cast to u16
    ∷ lists (implantness ∷ boosterness ∷ []) (fit ship [] (alone (one hardwiring 8 3 (has implantness (of_nat 4) ∷ has boosterness (of_nat 3) ∷ []))))
    (on_item 0 (WrongSlotIndex 4) ∷ [])
    ∷ lists (implantness ∷ boosterness ∷ []) (fit ship [] (alone (one hardwiring 8 4 (has implantness (halves 9) ∷ [])))) []
    ∷ lists (implantness ∷ boosterness ∷ []) (fit ship [] (alone (one hardwiring 8 3 (has implantness (of_nat 70000) ∷ []))))
    (on_item 0 (WrongSlotIndex 65535) ∷ [])
    ∷ lists (implantness ∷ boosterness ∷ [])
    (fit ship [] (alone (one hardwiring 9 300 (has implantness (of_nat 300) ∷ has boosterness (of_nat 11) ∷ []))))
    (on_item 0 (WrongSlotIndex 11) ∷ [])
    ∷ lists (implantness ∷ boosterness ∷ []) (fit ship [] (alone (one hardwiring 9 300 (has boosterness (of_nat 300) ∷ [])))) []
    ∷ lists (implantness ∷ boosterness ∷ []) (fit ship [] (alone (one hardwiring 8 3 []))) []
    ∷ lists [] (fit ship [] (alone (one hardwiring 8 3 (has implantness (of_nat 4) ∷ [])))) []
    -- SubsystemTaken: the same part of the ship; a NaN equals nothing, the two zeros each other
    ∷ lists (sub_system_slot ∷ []) (fit ship [] (pair (covers 4 0 (of_nat 125)) (covers 4 1 (of_nat 125)))) (on_item 0 SubsystemTaken ∷ on_item 1 SubsystemTaken ∷ [])
    ∷ lists (sub_system_slot ∷ []) (fit ship [] (pair (covers 4 0 (of_nat 125)) (covers 4 1 (of_nat 126)))) []
    ∷ lists (sub_system_slot ∷ []) (fit ship [] (pair (covers 4 0 nan) (covers 4 1 nan))) []
    ∷ lists (sub_system_slot ∷ []) (fit ship [] (pair (covers 4 0 (fin false 0 (pos 0))) (covers 4 1 (fin true 0 (pos 0)))))
    (on_item 0 SubsystemTaken ∷ on_item 1 SubsystemTaken ∷ [])
    ∷ lists (sub_system_slot ∷ []) (fit ship [] (pair (covers 4 0 (of_nat 125)) (covers 0 1 (of_nat 125)))) []
    ∷ lists [] (fit ship [] (pair (covers 4 0 (of_nat 125)) (covers 4 1 (of_nat 125)))) []
    ∷ []

-- ---- item.rs
-- a rig of a size
abbrev rigged : Float → List Thing
rigged v = alone (one gun 3 0 (has rig_size v ∷ []))

-- a gun in a High slot with some attributes
abbrev high : List Attribute → List Thing
high attributes = alone (one gun 0 0 attributes)

-- a gun in a High slot, in a state
abbrev in_state : ℕ → ℕ → List Attribute → Thing
in_state index state attributes = stack 1 gun 0 index state attributes

abbrev pub ITEMS : List Case
ITEMS =
    -- RigSize: unequal before the cast, shown after it; both have one
    lists (rig_size ∷ []) (fit ship (has rig_size (of_nat 1) ∷ []) (rigged (of_nat 2))) (on_item 0 (RigSize 1 2) ∷ [])
    ∷ lists (rig_size ∷ []) (fit ship (has rig_size (of_nat 1) ∷ []) (rigged (halves 3))) (on_item 0 (RigSize 1 1) ∷ [])
    ∷ lists (rig_size ∷ []) (fit ship (has rig_size (of_nat 1) ∷ []) (rigged nan)) (on_item 0 (RigSize 1 0) ∷ [])
    ∷ lists (rig_size ∷ []) (fit ship (has rig_size (of_nat 1) ∷ []) (rigged (of_nat 1))) []
    -- over 255 it is shown as 255, below 0 as 0
    ∷ lists (rig_size ∷ []) (fit ship (has rig_size (of_nat 257) ∷ []) (rigged (of_nat 258))) (on_item 0 (RigSize 255 255) ∷ [])
    ∷ lists (rig_size ∷ []) (fit ship (has rig_size (inf false) ∷ []) (rigged (fin true 1 (pos 0)))) (on_item 0 (RigSize 255 0) ∷ [])
    ∷ lists (rig_size ∷ []) (fit ship [] (rigged (of_nat 2))) []
    ∷ lists (rig_size ∷ []) (fit ship (has rig_size (of_nat 1) ∷ []) (alone (one gun 3 0 []))) []
    ∷ lists (rig_size ∷ []) (fit ship (has rig_size (of_nat 1) ∷ []) (high (has rig_size (of_nat 2) ∷ []))) []
    ∷ lists [] (fit ship (has rig_size (of_nat 1) ∷ []) (rigged (of_nat 2))) []
    -- ShipRestricted: lists types or groups, and neither the ship's
    ∷ lists (from fits_to_ship_type 33) (fit ship [] (high (has fits_to_ship_type (of_nat 7) ∷ []))) (on_item 0 ShipRestricted ∷ [])
    ∷ lists (from fits_to_ship_type 33) (fit ship [] (high (has fits_to_ship_type (of_nat 7) ∷ has can_fit_ship_type12 (halves 3) ∷ []))) []
    ∷ lists (from fits_to_ship_type 33) (fit ship [] (high (has can_fit_ship_group01 (of_nat 26) ∷ []))) (on_item 0 ShipRestricted ∷ [])
    ∷ lists (from fits_to_ship_type 33) (fit ship [] (high (has can_fit_ship_group01 (of_nat 26) ∷ has can_fit_ship_group20 (of_nat 25) ∷ []))) []
    ∷ lists (from fits_to_ship_type 33) (fit ship [] (high (has fits_to_ship_type (of_nat 7) ∷ has can_fit_ship_group01 (of_nat 25) ∷ []))) []
    ∷ lists (from fits_to_ship_type 33) (fit ship [] (high [])) []
    -- a listed 0 and a negative one are listed; -1.5 is cast to -1
    ∷ lists (from fits_to_ship_type 33) (fit ship [] (high (has fits_to_ship_type (of_nat 0) ∷ []))) (on_item 0 ShipRestricted ∷ [])
    ∷ lists (from fits_to_ship_type 33) (fit ship [] (high (has can_fit_ship_group01 (fin true 3 (negsuc 0)) ∷ []))) (on_item 0 ShipRestricted ∷ [])
    -- so is a NaN, as 0; 2 ^ 32 + 1 is cast to 2 ^ 31 - 1 and not to 1, the ship
    ∷ lists (from fits_to_ship_type 33) (fit ship [] (high (has fits_to_ship_type nan ∷ []))) (on_item 0 ShipRestricted ∷ [])
    ∷ lists (from fits_to_ship_type 33) (fit ship [] (high (has fits_to_ship_type (of_nat 4294967297) ∷ []))) (on_item 0 ShipRestricted ∷ [])
    ∷ lists (from fits_to_ship_type 33) (fit ship [] (alone (one gun 11 0 (has fits_to_ship_type (of_nat 7) ∷ [])))) []
    ∷ lists [] (fit ship [] (high (has fits_to_ship_type (of_nat 7) ∷ []))) []
    -- CapitalItem: not on a capital or a structure, not a rig, not in the hold
    ∷ lists (volume ∷ is_capital_size ∷ []) (fit ship (has is_capital_size (of_nat 0) ∷ []) (high (has volume (of_nat 4000) ∷ []))) (on_item 0 CapitalItem ∷ [])
    ∷ lists (volume ∷ is_capital_size ∷ []) (fit ship (has is_capital_size (of_nat 1) ∷ []) (high (has volume (of_nat 4000) ∷ []))) []
    ∷ lists (volume ∷ is_capital_size ∷ []) (fit structure [] (alone (one standup_gun 0 0 (has volume (of_nat 4000) ∷ [])))) []
    ∷ lists (volume ∷ is_capital_size ∷ []) (fit ship [] (alone (one gun 3 0 (has volume (of_nat 4000) ∷ [])))) []
    ∷ lists (volume ∷ is_capital_size ∷ []) (fit ship [] (alone (one gun 11 0 (has volume (of_nat 4000) ∷ [])))) []
    ∷ lists (volume ∷ []) (fit ship [] (high (has volume (of_nat 4000) ∷ []))) []
    -- a capital's mark is any number but 0: a NaN and a negative one are marks
    ∷ lists (volume ∷ is_capital_size ∷ []) (fit ship (has is_capital_size nan ∷ []) (high (has volume (of_nat 4000) ∷ []))) []
    ∷ lists (volume ∷ is_capital_size ∷ []) (fit ship (has is_capital_size (fin true 1 (pos 0)) ∷ []) (high (has volume (of_nat 4000) ∷ []))) []
    -- StructureItem and ShipItem: category 66, or a mark of a squadron; what the hull has to accept
    ∷ lists (from fighter_squadron_is_standup_light 3) (fit ship [] (alone (one standup_gun 0 0 []))) (on_item 0 StructureItem ∷ [])
    ∷ lists (from fighter_squadron_is_standup_light 3)
    (fit ship []
    (pair (one squadron 6 0 (has fighter_squadron_is_standup_light (of_nat 1) ∷ [])) (one squadron 7 0 (has fighter_squadron_is_standup_heavy (of_nat 1) ∷ []))))
    (on_item 0 StructureItem ∷ on_item 1 StructureItem ∷ [])
    ∷ lists (from fighter_squadron_is_standup_light 3) (fit ship [] (alone (one squadron 6 0 (has fighter_squadron_is_standup_support (of_nat 0) ∷ [])))) []
    ∷ lists (from fighter_squadron_is_standup_light 3) (fit structure [] (pair (one gun 0 0 []) (one squadron 6 0 []))) (on_item 0 ShipItem ∷ on_item 1 ShipItem ∷ [])
    ∷ lists (from fighter_squadron_is_standup_light 3)
    (fit structure [] (pair (one standup_gun 0 0 []) (one squadron 6 0 (has fighter_squadron_is_standup_support (of_nat 1) ∷ []))))
    []
    ∷ lists (from fighter_squadron_is_standup_light 3) (fit structure [] (pair (one gun 11 0 []) (one drone 10 0 []))) []
    ∷ lists [] (fit ship [] (pair (one standup_gun 0 0 []) (one squadron 6 0 (has fighter_squadron_is_standup_light (of_nat 1) ∷ [])))) (on_item 0 StructureItem ∷ [])
    -- and so is a squadron's
    ∷ lists (from fighter_squadron_is_standup_light 3)
    (fit ship []
    (pair (one squadron 6 0 (has fighter_squadron_is_standup_light nan ∷ [])) (one squadron 7 0 (has fighter_squadron_is_standup_heavy (fin true 1 (pos 0)) ∷ []))))
    (on_item 0 StructureItem ∷ on_item 1 StructureItem ∷ [])
    -- MaxGroup: fitted, online, active; each pair by its own limit; limit by limit, then pair by pair
    ∷ lists (from max_group_fitted 3)
    (fit ship [] (in_state 0 1 (has max_group_fitted (of_nat 1) ∷ []) ∷ in_state 1 0 [] ∷ one plate 1 0 [] ∷ one gun 11 0 [] ∷ []))
    (on_item 0 (MaxGroup (pos 50) Fitted 2 1) ∷ [])
    ∷ lists (from max_group_fitted 3) (fit ship [] (pair (in_state 0 1 (has max_group_online (of_nat 0) ∷ [])) (in_state 1 0 [])))
    (on_item 0 (MaxGroup (pos 50) Online 1 0) ∷ [])
    ∷ lists (from max_group_fitted 3) (fit ship [] (in_state 0 2 (has max_group_active (of_nat 1) ∷ []) ∷ in_state 1 3 [] ∷ in_state 2 1 [] ∷ []))
    (on_item 0 (MaxGroup (pos 50) Active 2 1) ∷ [])
    ∷ lists (from max_group_fitted 3)
    (fit ship [] (pair (in_state 0 1 (has max_group_fitted (of_nat 1) ∷ has max_group_online (of_nat 0) ∷ [])) (in_state 1 1 (has max_group_fitted (halves 1) ∷ []))))
    (on_item 0 (MaxGroup (pos 50) Fitted 2 1) ∷ on_item 1 (MaxGroup (pos 50) Fitted 2 0) ∷ on_item 0 (MaxGroup (pos 50) Online 2 0) ∷ [])
    ∷ lists (from max_group_fitted 3) (fit ship [] (pair (in_state 0 1 (has max_group_fitted (of_nat 2) ∷ [])) (in_state 1 1 []))) []
    ∷ lists (from max_group_fitted 3) (fit ship [] (alone (one gun 11 0 (has max_group_fitted (of_nat 0) ∷ [])))) []
    -- two types of one group count together; a pair that is not counted itself; a type that is not there is of group 0
    ∷ lists (from max_group_fitted 3) (fit ship [] (pair (in_state 0 1 (has max_group_fitted (of_nat 1) ∷ [])) (one rifle 0 1 [])))
    (on_item 0 (MaxGroup (pos 50) Fitted 2 1) ∷ [])
    ∷ lists (from max_group_fitted 3) (fit ship [] (pair (in_state 0 1 (has max_group_active (of_nat 0) ∷ [])) (in_state 1 2 [])))
    (on_item 0 (MaxGroup (pos 50) Active 1 0) ∷ [])
    ∷ lists (from max_group_fitted 3) (fit ship [] (alone (one unknown 0 0 (has max_group_fitted (of_nat 0) ∷ []))))
    (on_item 0 NotAModule ∷ on_item 0 (MaxGroup (pos 0) Fitted 1 0) ∷ on_item 0 (UnknownType unknown) ∷ [])
    ∷ lists [] (fit ship [] (alone (in_state 0 1 (has max_group_fitted (of_nat 0) ∷ [])))) []
    -- MaxType: fitted, of the same type
    ∷ lists (max_type_fitted ∷ [])
    (fit ship [] (in_state 0 1 (has max_type_fitted (of_nat 1) ∷ []) ∷ in_state 1 0 [] ∷ one plate 1 0 [] ∷ one gun 11 0 [] ∷ []))
    (on_item 0 (MaxType gun 2 1) ∷ [])
    ∷ lists (max_type_fitted ∷ []) (fit ship [] (in_state 0 1 (has max_type_fitted (of_nat 1) ∷ []) ∷ one plate 1 0 [] ∷ one gun 11 0 [] ∷ [])) []
    ∷ lists (max_type_fitted ∷ []) (fit ship [] (alone (one gun 11 0 (has max_type_fitted (of_nat 0) ∷ [])))) []
    -- another type of the same group does not count
    ∷ lists (max_type_fitted ∷ []) (fit ship [] (pair (in_state 0 1 (has max_type_fitted (of_nat 1) ∷ [])) (one rifle 0 1 []))) []
    ∷ lists [] (fit ship [] (alone (in_state 0 1 (has max_type_fitted (of_nat 0) ∷ [])))) []
    ∷ []

-- ---- the widths of amounts
-- a gun with limits of its group and its type, in one of as many slots; behind it so many others in the same slot
abbrev crowded : ℕ → Float → Fit
crowded others v =
    fit ship (has hi_slots v ∷ [])
    (one gun 0 0 (has max_group_fitted v ∷ has max_type_fitted v ∷ []) ∷ map (λ _. one gun 0 0 []) (from 0 others))

-- one gun alone, where an amount is too small for it: shown as 0
abbrev allows_none : Float → Case
allows_none v =
    lists (hi_slots ∷ max_group_fitted ∷ max_type_fitted ∷ []) (crowded 0 v)
    (on_ship (Slots High 1 0) ∷ on_item 0 (MaxGroup (pos 50) Fitted 1 0) ∷ on_item 0 (MaxType gun 1 0) ∷ [])

-- where it is large enough
abbrev allows_one : Float → Case
allows_one v = lists (hi_slots ∷ max_group_fitted ∷ max_type_fitted ∷ []) (crowded 0 v) []

-- each of 256 pairs shares its slot
abbrev crammed : List Entry
crammed = map (λ i. on_item i SlotTaken) (from 0 256)

abbrev pub CROWDS : List Case
CROWDS =
    -- 256 pairs, which 8 bits do not count
    lists (hi_slots ∷ max_group_fitted ∷ max_type_fitted ∷ []) (crowded 255 (of_nat 256)) crammed
    ∷ lists (hi_slots ∷ max_group_fitted ∷ max_type_fitted ∷ []) (crowded 255 (of_nat 255))
    (on_ship (Slots High 256 255) ∷ crammed ++ (on_item 0 (MaxGroup (pos 50) Fitted 256 255) ∷ on_item 0 (MaxType gun 256 255) ∷ []))
    -- amounts whose lowest 8, 16 and 32 bits are 0, and the ends of u32
    ∷ allows_one (of_nat 256)
    ∷ allows_one (of_nat 65536)
    ∷ allows_one (of_nat 4294967295)
    ∷ allows_one (of_nat 4294967296)
    ∷ allows_one (inf false)
    -- truncated, stopped at 0, a NaN as 0
    ∷ allows_none (halves 1)
    ∷ allows_none (fin true 1 (pos 0))
    ∷ allows_none (inf true)
    ∷ allows_none nan
    -- the ends of each width
    ∷ (Unsigned 8 (of_nat 255), Number 255)
    ∷ (Unsigned 16 (of_nat 65535), Number 65535)
    ∷ (Unsigned 16 (halves 131071), Number 65535)
    ∷ (Unsigned 16 (of_nat 65536), Number 65535)
    ∷ (Unsigned 16 nan, Number 0)
    ∷ (Unsigned 32 (of_nat 4294967295), Number 4294967295)
    ∷ (Unsigned 32 (of_nat 4294967296), Number 4294967295)
    ∷ (Unsigned 32 (inf false), Number 4294967295)
    ∷ (Unsigned 32 (inf true), Number 0)
    ∷ (Unsigned 32 nan, Number 0)
    ∷ (Signed (of_nat 2147483647), Integer (pos 2147483647))
    ∷ (Signed (of_nat 2147483648), Integer (pos 2147483647))
    ∷ (Signed (fin true 1 (pos 31)), Integer (negsuc 2147483647))
    ∷ (Signed (fin true 2147483649 (pos 0)), Integer (negsuc 2147483647))
    ∷ (Signed (inf true), Integer (negsuc 2147483647))
    ∷ (Signed (inf false), Integer (pos 2147483647))
    ∷ (Signed nan, Integer (pos 0))
    ∷ []

-- ---- all at once: the order of `validate`, of its files and of the eight slot checks
abbrev manifest : List Thing
manifest =
    stack 1 gun 0 0 2
    (has fits_to_ship_type (of_nat 7) ∷ has volume (of_nat 4000)
    ∷ has max_group_fitted (of_nat 0) ∷ has max_group_online (of_nat 0) ∷ has max_group_active (of_nat 0) ∷ has max_type_fitted (of_nat 0) ∷ [])
    ∷ one turret 0 0 []
    ∷ one shield 3 0 (has rig_size (of_nat 2) ∷ [])
    ∷ stack 2 drone 10 0 2 []
    ∷ stack 2 ore 11 0 0 []
    ∷ one gun 8 3 (has implantness (of_nat 4) ∷ [])
    ∷ covers 4 0 (of_nat 125)
    ∷ covers 4 1 (of_nat 125)
    ∷ one standup_gun 5 0 []
    ∷ one drone 0 1 []
    ∷ one gun 10 0 []
    ∷ one gun 7 0 []
    ∷ []

abbrev broken : Fit
broken = record {
  frame = record {
    ship = ship;
    mode_flag = 1;
    mode = gun;
    ship_result = result 0 (has cpu_load (of_nat 5) ∷ has rig_size (of_nat 1) ∷ []);
    character_result = result 0 (has max_active_drones (of_nat 1) ∷ []);
  };
  skills = gun ∷ [];
  levels = 5 ∷ [];
  items = map (λ t. t.0) manifest;
  results = map (λ t. t.1) manifest;
}

abbrev pub ORDER : List Case
ORDER =
    lists (from 0 88) broken
    (on_ship NotAMode ∷ on_ship (NotASkill gun)
    ∷ uses Cpu 5 0 ∷ uses LaunchedDrones 2 1 ∷ uses CargoBay 5 0
    ∷ on_ship (Slots High 3 0) ∷ on_ship (Slots Rig 1 0) ∷ on_ship (Slots Subsystem 2 0) ∷ on_ship (Slots Service 1 0)
    ∷ on_ship (Slots Turret 1 0)
    ∷ on_item 0 SlotTaken
    ∷ on_item 1 SlotTaken
    ∷ on_item 2 (WrongSlot Medium)
    ∷ on_item 5 NotAnImplant ∷ on_item 5 (WrongSlotIndex 4)
    ∷ on_item 6 SubsystemTaken
    ∷ on_item 7 SubsystemTaken
    ∷ on_item 9 NotAModule
    ∷ on_item 10 NotADrone
    ∷ on_item 11 NotAFighter
    ∷ on_item 2 (RigSize 1 2)
    ∷ on_item 0 ShipRestricted
    ∷ on_item 0 CapitalItem
    ∷ on_item 8 StructureItem
    ∷ on_item 0 (MaxGroup (pos 50) Fitted 1 0) ∷ on_item 0 (MaxGroup (pos 50) Online 1 0) ∷ on_item 0 (MaxGroup (pos 50) Active 1 0)
    ∷ on_item 0 (MaxType gun 1 0) ∷ [])
    -- pairs that fail several of the eight checks
    ∷ lists (from implantness 3) (fit ship [] (pair (one ore 9 1 (has boosterness (of_nat 2) ∷ [])) (one ore 9 1 [])))
    (on_item 0 NotAnImplant ∷ on_item 0 SlotTaken ∷ on_item 0 (WrongSlotIndex 2) ∷ on_item 1 NotAnImplant ∷ on_item 1 SlotTaken ∷ [])
    ∷ lists (sub_system_slot ∷ []) (fit ship [] (pair (one shield 4 0 (has sub_system_slot (of_nat 1) ∷ [])) (one drone 4 0 (has sub_system_slot (of_nat 1) ∷ []))))
    (on_item 0 (WrongSlot Medium) ∷ on_item 0 SlotTaken ∷ on_item 0 SubsystemTaken ∷ on_item 1 NotAModule ∷ on_item 1 SlotTaken ∷ on_item 1 SubsystemTaken ∷ [])
    ∷ []
