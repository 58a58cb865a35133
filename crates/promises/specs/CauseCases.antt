-- Cases of document 02, P9: which pairs are kept for an entry, of each kind of rule, and what refuses the call. The kept pairs are worked
-- out by hand: from the last pair to the first, each is dropped where the Rust would still list the entry without it.
use Rattle.std.specs.Prelude.{ℕ, ◌+◌, ◌*◌, true, false, List, [], ◌∷◌, ◌++◌, map, pos, negsuc, drop, length, replicate, Float}
use Rattle.std.specs.Float.{nan, inf, fin}
use Rattle.words.specs.Words.{each, from}
use Rattle.numbers.specs.Names.{hi_slots, max_active_drones, capacity, turret_slots_left, launcher_slots_left, implantness}
use Rattle.numbers.specs.Names.{sub_system_slot, rig_size, fits_to_ship_type, volume, is_capital_size}
use Rattle.numbers.specs.Names.{max_group_fitted, max_group_online, max_group_active, max_type_fitted}
use Rattle.floats.specs.Floats.{zero_f, of_nat}
use Rattle.catalogue.specs.Catalogue.{Id, Catalogue}
use Rattle.fit.specs.Fit.{Attribute, Result, Fit}
use Rattle.promises.specs.Cases.{ship, structure, gun, plate, shield, turret, launcher, part, rifle, hybrid, standup_gun, drone, squadron}
use Rattle.promises.specs.Cases.{hardwiring, ore, ghost, vast, parcel, unknown, typed, known, has, result, Thing, stack, one, fit_with, fit}
use Rattle.promises.specs.Cases.{CauseRefusal, Causes, CauseCall, Number, InBytes, Returns, Case}
use Rattle.promises.specs.CallCases.{words, small}

-- n halves, n being odd; below zero
abbrev pub halves : ℕ → Float
halves n = fin false n (negsuc 0)

abbrev pub minus : ℕ → Float
minus n = fin true n (pos 0)

-- ---- kept pairs
-- on a ship with these attributes, where these names have ids, the entry at a position keeps pairs of these numbers
abbrev keeps : (names : List ℕ) → List Attribute → List Thing → (position : ℕ) → (kept : List ℕ) → Case
keeps names attributes things position kept = (Causes (known names) (fit ship attributes things) position, InBytes (words kept))

-- ---- rules that look at no pair, or at their own alone
-- load k of the ship is 2 and its output 1, beside a gun; each of the ten has an entry
abbrev loaded : List Attribute
loaded = each (from 0 10) λ k. has (k + k) (of_nat 2) ∷ has (k + k + 1) (of_nat 1) ∷ []

abbrev load_keeps_none : (position : ℕ) → Case
load_keeps_none position = keeps (from 0 20) loaded (one gun 0 0 [] ∷ []) position []

-- a gun, beside a mode that is none and a listed skill that is none
abbrev pub unskilled : Fit
unskilled = record {
  frame = record { ship = ship; mode_flag = 1; mode = gun; ship_result = result 0 []; character_result = result 0 [] };
  skills = gun ∷ plate ∷ [];
  levels = 1 ∷ 1 ∷ [];
  items = map (λ t. t.0) (one gun 0 0 [] ∷ []);
  results = result 1 [] ∷ [];
}

-- two things that each have one entry, with a gun between them that has none: the second entry keeps the second
abbrev own : (names : List ℕ) → List Attribute → (ℕ → Thing) → Case
own names attributes thing = keeps names attributes (thing 0 ∷ one gun 2 9 [] ∷ thing 1 ∷ []) 1 (2 ∷ [])

abbrev pub CAUSED : List Case
CAUSED =
    -- the loads of the ship, the first and the last; a ship that is no hull, a mode that is none, each of two listed skills that are none
    load_keeps_none 0
    ∷ load_keeps_none 9
    ∷ (Causes (known []) (fit (pos 7) [] (one gun 0 0 [] ∷ one gun 0 0 [] ∷ [])) 0, InBytes [])
    ∷ (Causes (known []) unskilled 0, InBytes [])
    ∷ (Causes (known []) unskilled 1, InBytes [])
    ∷ (Causes (known []) unskilled 2, InBytes [])
    -- WrongSlot, NotAModule, NotADrone, NotAFighter, NotAnImplant, WrongSlotIndex
    ∷ own [] [] (λ i. one shield 0 i [])
    ∷ own [] [] (λ i. one ore 0 i [])
    ∷ own [] [] (λ i. one gun 10 0 [])
    ∷ own [] [] (λ i. one gun 6 i [])
    ∷ own [] [] (λ i. one gun 8 i [])
    ∷ own (implantness ∷ []) [] (λ i. one hardwiring 8 i (has implantness (of_nat 7) ∷ []))
    -- RigSize, ShipRestricted, CapitalItem, StructureItem; ShipItem; UnknownType, in the hold
    ∷ own (rig_size ∷ []) (has rig_size (of_nat 1) ∷ []) (λ i. one gun 3 i (has rig_size (of_nat 2) ∷ []))
    ∷ own (fits_to_ship_type ∷ []) [] (λ i. one gun 0 i (has fits_to_ship_type (of_nat 7) ∷ []))
    ∷ own (volume ∷ is_capital_size ∷ []) (has is_capital_size (of_nat 0) ∷ []) (λ i. one gun 0 i (has volume (of_nat 4000) ∷ []))
    ∷ own [] [] (λ i. one standup_gun 0 i [])
    ∷ (Causes (known []) (fit structure [] (one gun 0 0 [] ∷ one standup_gun 0 1 [] ∷ one gun 0 2 [] ∷ [])) 1, InBytes (words (2 ∷ [])))
    ∷ own [] [] (λ i. one unknown 11 0 [])
    -- two entries about one pair, of two rules
    ∷ keeps [] [] (one gun 0 0 [] ∷ one unknown 0 1 [] ∷ []) 0 (1 ∷ [])
    ∷ keeps [] [] (one gun 0 0 [] ∷ one unknown 0 1 [] ∷ []) 1 (1 ∷ [])
    ∷ []

-- ---- rules that count other pairs
abbrev one_high : List Attribute
one_high = has hi_slots (of_nat 1) ∷ []

-- three in a rack of which the ship has so many slots, and one in another rack between them
abbrev racked : (slot other : ℕ) → Float → (kept : List ℕ) → Case
racked slot other v kept =
    keeps ((hi_slots + slot) ∷ []) (has (hi_slots + slot) v ∷ [])
    (one gun slot 0 [] ∷ one gun other 0 [] ∷ one gun slot 1 [] ∷ one gun slot 2 [] ∷ []) 0 kept

-- three turrets, beside a launcher, a turret in the hold and one in a rack that it is not marked for; the ship has so many hardpoints
abbrev armed : Float → (kept : List ℕ) → Case
armed v kept =
    keeps (turret_slots_left ∷ []) (has turret_slots_left v ∷ [])
    (one turret 0 0 [] ∷ one launcher 0 1 [] ∷ one turret 0 2 [] ∷ one turret 11 0 [] ∷ one turret 2 0 [] ∷ []) 0 kept

-- three launchers, one of them by the last of its marks, and a turret
abbrev launching : Float → (kept : List ℕ) → Case
launching v kept =
    keeps (launcher_slots_left ∷ []) (has launcher_slots_left v ∷ [])
    (one launcher 0 0 [] ∷ one hybrid 0 1 [] ∷ one turret 0 2 [] ∷ one launcher 0 3 [] ∷ []) 0 kept

-- a launcher and a turret in High slots, of which the ship has neither slots nor hardpoints: High, then turrets, then launchers
abbrev unarmed : (position : ℕ) (kept : List ℕ) → Case
unarmed position kept =
    keeps (hi_slots ∷ turret_slots_left ∷ launcher_slots_left ∷ []) [] (one launcher 0 0 [] ∷ one turret 0 1 [] ∷ []) position kept

-- on a ship with one High slot
abbrev rackful : List Thing → List Result → Fit
rackful things results = record {
  frame = record { ship = ship; mode_flag = 0; mode = pos 0; ship_result = result 0 one_high; character_result = result 0 [] };
  skills = [];
  levels = [];
  items = map (λ t. t.0) things;
  results = results;
}

-- three guns, of which two have results; two, of which each has one, and a result more
abbrev pub unpaired : Fit
unpaired = rackful (one gun 0 0 [] ∷ one gun 0 1 [] ∷ one gun 0 2 [] ∷ []) (result 1 [] ∷ result 1 [] ∷ [])

abbrev pub spare : Fit
spare = rackful (one gun 0 0 [] ∷ one gun 0 1 [] ∷ []) (result 1 [] ∷ result 1 [] ∷ result 1 [] ∷ [])

-- a plate first, and an item without a result: what is left of the two others still has its own results
abbrev uneven : Fit
uneven =
    rackful (one plate 1 0 [] ∷ one gun 0 0 [] ∷ one gun 0 1 (has max_type_fitted (of_nat 1) ∷ []) ∷ one gun 0 2 [] ∷ [])
    (result 1 [] ∷ result 1 [] ∷ result 1 (has max_type_fitted (of_nat 1) ∷ []) ∷ [])

-- a gun in a High slot, in a state
abbrev in_state : (index state : ℕ) → List Attribute → Thing
in_state index state attributes = stack 1 gun 0 index state attributes

-- the second has a limit of its group, fitted: the first, itself, and another type, offline; not the plate, nor a gun in the hold
abbrev fitted_limit : Float → (kept : List ℕ) → Case
fitted_limit v kept =
    keeps (max_group_fitted ∷ []) []
    (in_state 0 0 [] ∷ in_state 1 1 (has max_group_fitted v ∷ []) ∷ one plate 1 0 [] ∷ stack 1 rifle 0 2 0 [] ∷ one gun 11 0 [] ∷ []) 0 kept

-- online: not the first
abbrev online_limit : Float → (kept : List ℕ) → Case
online_limit v kept =
    keeps (max_group_online ∷ []) []
    (in_state 0 0 [] ∷ in_state 1 1 (has max_group_online v ∷ []) ∷ in_state 2 2 [] ∷ in_state 3 3 [] ∷ []) 0 kept

-- the first, which is offline, has the limit and does not count for it; nor does the last
abbrev offline_owner : Float → (kept : List ℕ) → Case
offline_owner v kept =
    keeps (max_group_online ∷ []) []
    (in_state 0 0 (has max_group_online v ∷ []) ∷ in_state 1 1 [] ∷ in_state 2 2 [] ∷ in_state 3 0 [] ∷ []) 0 kept

-- active: not the second
abbrev active_limit : Float → (kept : List ℕ) → Case
active_limit v kept =
    keeps (max_group_active ∷ []) []
    (in_state 0 2 [] ∷ in_state 1 1 [] ∷ in_state 2 3 (has max_group_active v ∷ []) ∷ in_state 3 2 [] ∷ []) 0 kept

-- the third, which is online, has the limit and does not count for it
abbrev idle_owner : Float → (kept : List ℕ) → Case
idle_owner v kept =
    keeps (max_group_active ∷ []) []
    (in_state 0 2 [] ∷ in_state 1 2 [] ∷ in_state 2 1 (has max_group_active v ∷ []) ∷ in_state 3 3 [] ∷ []) 0 kept

-- the limit of a type: the first, the third and the last; not another type of its group, nor one in the hold
abbrev type_limited : Float → (kept : List ℕ) → Case
type_limited v kept =
    keeps (max_type_fitted ∷ []) []
    (in_state 0 0 [] ∷ one rifle 0 1 [] ∷ in_state 2 1 (has max_type_fitted v ∷ []) ∷ one gun 11 0 [] ∷ in_state 3 3 [] ∷ []) 0 kept

-- two guns of which the first has a limit of its group, fitted and active
abbrev twice_limited : (position : ℕ) (kept : List ℕ) → Case
twice_limited position kept =
    keeps (max_group_fitted ∷ max_group_active ∷ []) []
    (in_state 0 2 (has max_group_fitted (of_nat 1) ∷ has max_group_active (of_nat 0) ∷ []) ∷ in_state 1 2 [] ∷ []) position kept

-- an idle gun and an active one, each with a limit of none active
abbrev both_limited : (position : ℕ) (kept : List ℕ) → Case
both_limited position kept =
    keeps (max_group_active ∷ []) []
    (in_state 0 1 (has max_group_active (of_nat 0) ∷ []) ∷ in_state 1 2 (has max_group_active (of_nat 0) ∷ []) ∷ []) position kept

-- two types that are missing, of group 0, the first with a limit of one: NotAModule of both, the limit, UnknownType of both
abbrev lost : (position : ℕ) (kept : List ℕ) → Case
lost position kept =
    keeps (max_group_fitted ∷ []) [] (one unknown 0 0 (has max_group_fitted (of_nat 1) ∷ []) ∷ one (pos 98) 0 1 [] ∷ []) position kept

abbrev pub COUNTED : List Case
COUNTED =
    -- one more than the ship has: of none, of one, of two; each rack
    racked 0 1 (of_nat 0) (0 ∷ [])
    ∷ racked 0 1 (of_nat 1) (0 ∷ 2 ∷ [])
    ∷ racked 0 1 (of_nat 2) (0 ∷ 2 ∷ 3 ∷ [])
    ∷ racked 1 2 (of_nat 1) (0 ∷ 2 ∷ [])
    ∷ racked 2 3 (of_nat 1) (0 ∷ 2 ∷ [])
    ∷ racked 3 4 (of_nat 1) (0 ∷ 2 ∷ [])
    ∷ racked 4 5 (of_nat 1) (0 ∷ 2 ∷ [])
    ∷ racked 5 0 (of_nat 1) (0 ∷ 2 ∷ [])
    -- the amount is cast: a NaN, one below zero and a half are 0, one and a half is 1; one that is not there is 0
    ∷ racked 0 1 nan (0 ∷ [])
    ∷ racked 0 1 (minus 1) (0 ∷ [])
    ∷ racked 0 1 (halves 1) (0 ∷ [])
    ∷ racked 0 1 (halves 3) (0 ∷ 2 ∷ [])
    ∷ keeps (hi_slots ∷ []) [] (one plate 1 0 [] ∷ one gun 0 0 [] ∷ one gun 0 1 [] ∷ []) 0 (1 ∷ [])
    -- hardpoints
    ∷ armed (of_nat 0) (0 ∷ [])
    ∷ armed (of_nat 1) (0 ∷ 2 ∷ [])
    ∷ armed (of_nat 2) (0 ∷ 2 ∷ 4 ∷ [])
    ∷ armed nan (0 ∷ [])
    ∷ launching (of_nat 0) (0 ∷ [])
    ∷ launching (of_nat 1) (0 ∷ 1 ∷ [])
    ∷ launching (of_nat 2) (0 ∷ 1 ∷ 3 ∷ [])
    ∷ unarmed 0 (0 ∷ [])
    ∷ unarmed 1 (1 ∷ [])
    ∷ unarmed 2 (0 ∷ [])
    -- an item without a result, and a result without an item, are in no pair
    ∷ (Causes (known (hi_slots ∷ [])) unpaired 0, InBytes (words (0 ∷ 1 ∷ [])))
    ∷ (Causes (known (hi_slots ∷ [])) spare 0, InBytes (words (0 ∷ 1 ∷ [])))
    ∷ (Causes (known (hi_slots ∷ [])) uneven 0, InBytes (words (1 ∷ 2 ∷ [])))
    ∷ (Causes (known (max_type_fitted ∷ [])) uneven 0, InBytes (words (1 ∷ 2 ∷ [])))
    -- MaxGroup, fitted, online and active: of none, of one, of two; where the pair itself does not count
    ∷ fitted_limit (of_nat 0) (1 ∷ [])
    ∷ fitted_limit (of_nat 1) (0 ∷ 1 ∷ [])
    ∷ fitted_limit (of_nat 2) (0 ∷ 1 ∷ 3 ∷ [])
    ∷ fitted_limit nan (1 ∷ [])
    ∷ fitted_limit (minus 1) (1 ∷ [])
    ∷ fitted_limit (halves 3) (0 ∷ 1 ∷ [])
    ∷ online_limit (of_nat 0) (1 ∷ [])
    ∷ online_limit (of_nat 1) (1 ∷ 2 ∷ [])
    ∷ online_limit (of_nat 2) (1 ∷ 2 ∷ 3 ∷ [])
    ∷ offline_owner (of_nat 0) (0 ∷ 1 ∷ [])
    ∷ offline_owner (of_nat 1) (0 ∷ 1 ∷ 2 ∷ [])
    ∷ offline_owner nan (0 ∷ 1 ∷ [])
    ∷ active_limit (of_nat 0) (2 ∷ [])
    ∷ active_limit (of_nat 1) (0 ∷ 2 ∷ [])
    ∷ active_limit (of_nat 2) (0 ∷ 2 ∷ 3 ∷ [])
    ∷ idle_owner (of_nat 0) (0 ∷ 2 ∷ [])
    ∷ idle_owner (of_nat 1) (0 ∷ 1 ∷ 2 ∷ [])
    ∷ idle_owner (of_nat 2) (0 ∷ 1 ∷ 2 ∷ 3 ∷ [])
    ∷ twice_limited 0 (0 ∷ 1 ∷ [])
    ∷ twice_limited 1 (0 ∷ [])
    ∷ both_limited 0 (0 ∷ 1 ∷ [])
    ∷ both_limited 1 (1 ∷ [])
    ∷ lost 2 (0 ∷ 1 ∷ [])
    ∷ lost 3 (0 ∷ [])
    ∷ lost 4 (1 ∷ [])
    -- MaxType
    ∷ type_limited (of_nat 0) (2 ∷ [])
    ∷ type_limited (of_nat 1) (0 ∷ 2 ∷ [])
    ∷ type_limited (of_nat 2) (0 ∷ 2 ∷ 4 ∷ [])
    ∷ type_limited nan (2 ∷ [])
    ∷ []

-- ---- as many pairs as a fit can have
-- so many guns in one slot, with these attributes each, on a ship with these
abbrev pub thronged : (attributes own : List Attribute) → ℕ → Fit
thronged attributes own n = record {
  frame = record { ship = ship; mode_flag = 0; mode = pos 0; ship_result = result 0 attributes; character_result = result 0 [] };
  skills = [];
  levels = [];
  items = replicate n (one gun 0 0 []).0;
  results = replicate n (result 1 own);
}

-- one more than 255 allowed, in a rack, of a group and of a type, the latter behind what is said of their slot: all are kept
abbrev pub THRONGED : List Case
THRONGED =
    (Causes (known (hi_slots ∷ [])) (thronged (has hi_slots (of_nat 255) ∷ []) [] 256) 0, InBytes (words (from 0 256)))
    ∷ (Causes (known (max_group_fitted ∷ [])) (thronged [] (has max_group_fitted (of_nat 255) ∷ []) 256) 256, InBytes (words (from 0 256)))
    ∷ (Causes (known (max_type_fitted ∷ [])) (thronged [] (has max_type_fitted (of_nat 255) ∷ []) 256) 256, InBytes (words (from 0 256)))
    ∷ []

-- ---- rules that look for another pair
-- a slot and an index
abbrev sharing : (slot : ℕ) → Id → List Thing
sharing slot type = one type slot 3 [] ∷ one type slot 4 [] ∷ one type slot 3 [] ∷ one type slot 3 [] ∷ []

-- a part of the ship that a subsystem covers
abbrev covers : (slot index : ℕ) → Float → Thing
covers slot index v = one part slot index (has sub_system_slot v ∷ [])

abbrev covered : List Thing → (position : ℕ) (kept : List ℕ) → Case
covered things position kept = keeps (sub_system_slot ∷ []) [] things position kept

abbrev pub SHARED : List Case
SHARED =
    -- the pair and the first that shares its slot
    keeps [] [] (sharing 0 gun) 0 (0 ∷ 2 ∷ [])
    ∷ keeps [] [] (sharing 0 gun) 1 (0 ∷ 2 ∷ [])
    ∷ keeps [] [] (sharing 0 gun) 2 (0 ∷ 3 ∷ [])
    ∷ keeps [] [] (sharing 5 gun) 2 (0 ∷ 3 ∷ [])
    ∷ keeps [] [] (sharing 6 squadron) 2 (0 ∷ 3 ∷ [])
    ∷ keeps [] [] (sharing 8 hardwiring) 1 (0 ∷ 2 ∷ [])
    ∷ keeps [] [] (sharing 9 hardwiring) 0 (0 ∷ 2 ∷ [])
    -- not the same index in another rack; another type is as good
    ∷ keeps [] [] (one gun 0 3 [] ∷ one gun 1 3 [] ∷ one plate 0 3 [] ∷ []) 0 (0 ∷ 2 ∷ [])
    -- the pair and the first for its part of the ship; not another part, nor one in the hold; the two zeros are equal, a NaN equals none
    ∷ covered (covers 4 0 (of_nat 125) ∷ covers 4 1 (of_nat 126) ∷ covers 4 2 (of_nat 125) ∷ covers 4 3 (of_nat 125) ∷ []) 0 (0 ∷ 2 ∷ [])
    ∷ covered (covers 4 0 (of_nat 125) ∷ covers 4 1 (of_nat 126) ∷ covers 4 2 (of_nat 125) ∷ covers 4 3 (of_nat 125) ∷ []) 2 (0 ∷ 3 ∷ [])
    ∷ covered (covers 11 0 (of_nat 125) ∷ one part 4 1 [] ∷ covers 4 2 (of_nat 125) ∷ covers 4 3 (of_nat 125) ∷ []) 1 (2 ∷ 3 ∷ [])
    ∷ covered (covers 4 0 (fin true 0 (pos 0)) ∷ covers 4 1 nan ∷ covers 4 2 (fin false 0 (pos 0)) ∷ covers 4 3 nan ∷ []) 0 (0 ∷ 2 ∷ [])
    -- what another two share has an entry of the same rule; what is no module in its slot has one of another rule beside it
    ∷ keeps [] [] (one gun 0 3 [] ∷ one gun 1 4 [] ∷ one gun 1 4 [] ∷ one gun 0 3 [] ∷ []) 0 (0 ∷ 3 ∷ [])
    ∷ keeps [] [] (one ore 0 3 [] ∷ one gun 0 3 [] ∷ []) 1 (0 ∷ 1 ∷ [])
    ∷ []

-- ---- rules that add up
-- the character leads so many drones
abbrev leads : Float → List Thing → (kept : List ℕ) → Case
leads most things kept =
    (Causes (known (max_active_drones ∷ [])) (fit_with ship [] (has max_active_drones most ∷ []) things) 0, InBytes (words kept))

-- stacks of active drones
abbrev stacks : List ℕ → List Thing
stacks quantities = map (λ n. stack n drone 10 0 2 []) quantities

-- one more than so many
abbrev led_past : ℕ → Case
led_past n = leads (of_nat n) (stacks (n ∷ 1 ∷ [])) (0 ∷ 1 ∷ [])

-- the hold of the ship has a capacity
abbrev hold : Float → List Thing → (kept : List ℕ) → Case
hold v things kept = keeps (capacity ∷ []) (has capacity v ∷ []) things 0 kept

-- stacks of a volume of 1 each
abbrev parcels : List ℕ → List Thing
parcels quantities = map (λ n. stack n parcel 11 0 0 []) quantities

abbrev filled_past : ℕ → Case
filled_past n = hold (of_nat n) (parcels (n ∷ 1 ∷ [])) (0 ∷ 1 ∷ [])

-- 2 ^ 53, and so many
abbrev heap : Thing
heap = stack 1 vast 11 0 0 []

abbrev crate : ℕ → Thing
crate n = stack n parcel 11 0 0 []

-- with the slack of its limit, a hold of this capacity takes 2 ^ 53 and no more
abbrev brim : Float
brim = of_nat 9007199245733793

-- types 2 and 3 have volumes
abbrev stocked : (two three : Float) → Catalogue
stocked two three = record {
  names = (known (capacity ∷ [])).names;
  effects = [];
  types =
      typed 1 25 6
      ∷ record { id = pos 2; group = pos 450; category = pos 25; volume_flag = 1; volume = two }
      ∷ record { id = pos 3; group = pos 450; category = pos 25; volume_flag = 1; volume = three } ∷ [];
  links = [];
  bases = [];
}

-- of load 0 the ship has 2 and an output of 1: that has the first entry, whatever the pairs are
abbrev overloaded : (name : ℕ) → List Thing → (kept : List ℕ) → Case
overloaded name things kept = keeps (0 ∷ 1 ∷ name ∷ []) (has 0 (of_nat 2) ∷ has 1 (of_nat 1) ∷ has name (of_nat 1) ∷ []) things 1 kept

abbrev pub SUMMED : List Case
SUMMED =
    -- six drones of three: one is dropped, then neither two nor three of the five can be
    leads (of_nat 3) (stacks (2 ∷ 3 ∷ 1 ∷ [])) (0 ∷ 1 ∷ [])
    -- of none; a stack of none is none; all of them are needed; the first alone is enough
    ∷ leads (of_nat 0) (stacks (0 ∷ 5 ∷ 1 ∷ [])) (1 ∷ [])
    ∷ leads (of_nat 5) (stacks (2 ∷ 2 ∷ 0 ∷ 2 ∷ [])) (0 ∷ 1 ∷ 3 ∷ [])
    ∷ leads (of_nat 1) (stacks (2 ∷ 1 ∷ 1 ∷ [])) (0 ∷ [])
    -- the last alone would be enough, but is dropped first
    ∷ leads (of_nat 1) (stacks (1 ∷ 1 ∷ 2 ∷ [])) (0 ∷ 1 ∷ [])
    -- below zero, no drone is too many; a half
    ∷ leads (minus 1) (stacks (1 ∷ [])) []
    ∷ leads (halves 1) (stacks (1 ∷ 1 ∷ [])) (0 ∷ [])
    -- idle ones and those in the hold are not led, whatever is in the bay is
    ∷ leads (of_nat 1) (stack 9 drone 10 0 1 [] ∷ stack 2 gun 10 0 2 [] ∷ stack 9 drone 11 0 2 [] ∷ stack 1 drone 10 0 3 [] ∷ []) (1 ∷ [])
    ∷ led_past 255
    ∷ led_past 256
    ∷ led_past 65535
    ∷ led_past 65536
    -- 4,294,967,299 are within the slack of the limit
    ∷ leads (of_nat 4294967295) (stacks (4294967295 ∷ 4 ∷ 1 ∷ [])) (0 ∷ 1 ∷ 2 ∷ [])
    ∷ leads (of_nat 4294967295) (stacks (4294967295 ∷ 4294967295 ∷ 1 ∷ [])) (0 ∷ 1 ∷ [])
    -- 11.5 in a hold of 5: 4 are dropped, 2.5 are not, 2 are, 3 are not
    ∷ hold (of_nat 5) (crate 3 ∷ crate 2 ∷ stack 1 ore 11 0 0 [] ∷ crate 4 ∷ []) (0 ∷ 2 ∷ [])
    -- of none; what has no volume is none; all are needed; the first alone is enough
    ∷ hold (of_nat 0) (stack 9 ghost 11 0 0 [] ∷ crate 0 ∷ crate 1 ∷ crate 1 ∷ []) (2 ∷ [])
    ∷ hold (of_nat 5) (parcels (2 ∷ 2 ∷ 0 ∷ 2 ∷ [])) (0 ∷ 1 ∷ 3 ∷ [])
    ∷ hold (of_nat 1) (parcels (2 ∷ 1 ∷ 1 ∷ [])) (0 ∷ [])
    ∷ hold (of_nat 1) (parcels (1 ∷ 1 ∷ 2 ∷ [])) (0 ∷ 1 ∷ [])
    -- a capacity that is not there is 0; below zero, an empty hold is too full
    ∷ keeps (capacity ∷ []) [] (parcels (1 ∷ 1 ∷ [])) 0 (0 ∷ [])
    ∷ hold (minus 1) (parcels (1 ∷ [])) []
    -- not what is in a slot or in a bay
    ∷ hold (of_nat 0) (one gun 0 0 [] ∷ stack 9 parcel 7 0 0 [] ∷ crate 1 ∷ []) (2 ∷ [])
    ∷ filled_past 255
    ∷ filled_past 256
    ∷ filled_past 65535
    ∷ filled_past 65536
    ∷ hold (of_nat 4294967295) (parcels (4294967295 ∷ 4 ∷ 1 ∷ [])) (0 ∷ 1 ∷ 2 ∷ [])
    -- each 1 is lost behind 2 ^ 53, 2 is not: in order, from 0, over what is kept
    ∷ hold brim (crate 1 ∷ crate 1 ∷ heap ∷ []) (0 ∷ 1 ∷ 2 ∷ [])
    ∷ hold brim (heap ∷ crate 1 ∷ crate 1 ∷ crate 2 ∷ []) (0 ∷ 3 ∷ [])
    ∷ hold brim (crate 2 ∷ heap ∷ crate 1 ∷ crate 1 ∷ []) (0 ∷ 1 ∷ [])
    ∷ hold brim (crate 1 ∷ heap ∷ crate 3 ∷ []) (1 ∷ 2 ∷ [])
    ∷ hold brim (crate 1 ∷ crate 1 ∷ crate 1 ∷ heap ∷ []) (0 ∷ 1 ∷ 3 ∷ [])
    -- beside a load of the ship: another sum, and a rack with the load's number
    ∷ overloaded capacity (parcels (2 ∷ 1 ∷ [])) (0 ∷ [])
    ∷ overloaded hi_slots (one gun 0 0 [] ∷ one gun 0 1 [] ∷ one gun 0 2 [] ∷ []) (0 ∷ 1 ∷ [])
    -- -0 is a volume, and none; a volume of a half
    ∷ (
      Causes (stocked (fin true 0 (pos 0)) (halves 1))
          (fit ship [] (stack 3 (pos 2) 11 0 0 [] ∷ stack 1 (pos 3) 11 0 0 [] ∷ stack 1 (pos 2) 11 0 0 [] ∷ [])) 0,
      InBytes (words (1 ∷ [])),
    )
    ∷ (
      Causes (stocked (fin true 0 (pos 0)) (halves 1))
          (fit ship (has capacity (of_nat 1) ∷ [])
          (stack 2 (pos 3) 11 0 0 [] ∷ stack 3 (pos 2) 11 0 0 [] ∷ stack 1 (pos 3) 11 0 0 [] ∷ [])) 0,
      InBytes (words (0 ∷ 2 ∷ [])),
    )
    ∷ []

-- ---- 14 and 15
-- a ship and type 25, whose volume has a flag
abbrev weighing : (flag : ℕ) → Float → Catalogue
weighing flag volume = record {
  names = [];
  effects = [];
  types = typed 1 25 6 ∷ record { id = pos 25; group = pos 450; category = pos 25; volume_flag = flag; volume = volume } ∷ [];
  links = [];
  bases = [];
}

-- so many of it in a slot, and of a type that is missing, so that there is an entry
abbrev laden_with : (quantity : ℕ) → Id → (slot : ℕ) → Fit
laden_with quantity hull slot = fit hull [] (stack quantity ore slot 0 0 [] ∷ stack 1 unknown 11 0 0 [] ∷ [])

abbrev laden : Id → (slot : ℕ) → Fit
laden hull slot = laden_with 1 hull slot

-- the missing type, and behind it the other one in the hold, with so many results
abbrev trailing : (results : ℕ) → Fit
trailing n = record {
  frame = record { ship = ship; mode_flag = 0; mode = pos 0; ship_result = result 0 []; character_result = result 0 [] };
  skills = [];
  levels = [];
  items = map (λ t. t.0) (stack 1 unknown 11 0 0 [] ∷ stack 1 ore 11 0 0 [] ∷ []);
  results = replicate n (result 0 []);
}

-- a mode that is none and a listed skill that is none, beside it in the hold
abbrev learned : Fit
learned = record {
  frame = record { ship = ship; mode_flag = 1; mode = pos 9; ship_result = result 0 []; character_result = result 0 [] };
  skills = pos 9 ∷ [];
  levels = 1 ∷ [];
  items = map (λ t. t.0) (one ore 11 0 [] ∷ []);
  results = result 0 [] ∷ [];
}

-- names that have ids, and a volume of NaN
abbrev weighed_under : (names : List ℕ) → Catalogue
weighed_under names = record { names = (known names).names; effects = []; types = (weighing 1 nan).types; links = []; bases = [] }

-- the first entry is on the ship, which has these attributes, and its character those
abbrev beside_it : (names : List ℕ) (attributes most : List Attribute) → List Thing → Case
beside_it names attributes most things =
    (CauseRefusal (weighed_under names) (fit_with ship attributes most (one ore 11 0 [] ∷ things)) 0, Number 15)

abbrev volume_is : (flag : ℕ) → Float → (n : ℕ) → Case
volume_is flag volume n = (CauseRefusal (weighing flag volume) (laden ship 11) 0, Number n)

abbrev pub UNCAUSED : List Case
UNCAUSED =
    -- three entries: the last, one more, and the highest position; none
    (CauseRefusal (known []) (fit ship [] (sharing 0 gun)) 2, Number 0)
    ∷ (CauseRefusal (known []) (fit ship [] (sharing 0 gun)) 3, Number 14)
    ∷ (CauseRefusal (known []) (fit ship [] (sharing 0 gun)) 4294967295, Number 14)
    ∷ (CauseRefusal (known []) (fit ship [] []) 0, Number 14)
    -- the list is an officer's: skills that are none have entries in it
    ∷ (CauseRefusal (known []) unskilled 2, Number 0)
    ∷ (CauseRefusal (known []) unskilled 3, Number 14)
    -- below zero, infinite, NaN; 0 with either sign; no volume
    ∷ volume_is 1 (minus 1) 15
    ∷ volume_is 1 (fin true 1 (negsuc 148)) 15
    ∷ volume_is 1 (inf false) 15
    ∷ volume_is 1 (inf true) 15
    ∷ volume_is 1 nan 15
    ∷ volume_is 1 (fin true 0 (pos 0)) 0
    ∷ volume_is 1 zero_f 0
    ∷ volume_is 1 (fin false 1 (negsuc 148)) 0
    ∷ volume_is 1 (of_nat 1) 0
    ∷ volume_is 1 (fin false 16777215 (pos 104)) 0
    ∷ volume_is 0 nan 0
    -- none of it in the hold is a pair all the same; in a slot and in the bays it is asked of nothing
    ∷ (CauseRefusal (weighing 1 nan) (laden_with 0 ship 11) 0, Number 15)
    ∷ (CauseRefusal (weighing 1 nan) (laden ship 0) 0, Number 0)
    ∷ (CauseRefusal (weighing 1 nan) (laden ship 7) 0, Number 0)
    ∷ (CauseRefusal (weighing 1 nan) (laden ship 10) 0, Number 0)
    -- in the last pair, and without a result, which is no pair
    ∷ (CauseRefusal (weighing 1 nan) (trailing 2) 0, Number 15)
    ∷ (CauseRefusal (weighing 1 nan) (trailing 1) 0, Number 0)
    -- on a ship that is no hull; 14 comes first
    ∷ (CauseRefusal (weighing 1 nan) (laden (pos 9) 11) 0, Number 15)
    ∷ (CauseRefusal (weighing 1 nan) (laden (pos 9) 11) 1, Number 14)
    ∷ (CauseRefusal (weighing 1 nan) (trailing 2) 1, Number 14)
    -- none of what is below zero is a pair with it all the same
    ∷ (CauseRefusal (weighing 1 (minus 1)) (laden_with 0 ship 11) 0, Number 15)
    -- whatever the entry is of: a mode, a skill, and there are no more; a load, a rack, drones
    ∷ (CauseRefusal (weighing 1 nan) learned 0, Number 15)
    ∷ (CauseRefusal (weighing 1 nan) learned 1, Number 15)
    ∷ (CauseRefusal (weighing 1 nan) learned 2, Number 14)
    ∷ beside_it (0 ∷ 1 ∷ []) (has 0 (of_nat 2) ∷ has 1 (of_nat 1) ∷ []) [] []
    ∷ beside_it (hi_slots ∷ []) [] [] (one gun 0 0 [] ∷ [])
    ∷ beside_it (max_active_drones ∷ []) [] [] (stack 1 gun 10 0 2 [] ∷ [])
    -- each other slot
    ∷ (CauseRefusal (weighing 1 nan) (laden ship 1) 0, Number 0)
    ∷ (CauseRefusal (weighing 1 nan) (laden ship 2) 0, Number 0)
    ∷ (CauseRefusal (weighing 1 nan) (laden ship 3) 0, Number 0)
    ∷ (CauseRefusal (weighing 1 nan) (laden ship 4) 0, Number 0)
    ∷ (CauseRefusal (weighing 1 nan) (laden ship 5) 0, Number 0)
    ∷ (CauseRefusal (weighing 1 nan) (laden ship 6) 0, Number 0)
    ∷ (CauseRefusal (weighing 1 nan) (laden ship 8) 0, Number 0)
    ∷ (CauseRefusal (weighing 1 nan) (laden ship 9) 0, Number 0)
    -- a position is all of its number
    ∷ (CauseRefusal (known []) (fit ship [] (sharing 0 gun)) 256, Number 14)
    ∷ (CauseRefusal (known []) (fit ship [] (sharing 0 gun)) 65536, Number 14)
    ∷ []

-- ---- in bytes
-- ship 1 with one High slot and three items of type 9, which is marked for Medium slots, in High slots
abbrev pub THREE : List ℕ
THREE =
    words (0 ∷ 3 ∷ 3 ∷ 1 ∷ 1 ∷ 0 ∷ 0 ∷ [])
    ++ words (9 ∷ 1 ∷ 0 ∷ 9 ∷ 1 ∷ 0x10000 ∷ 9 ∷ 1 ∷ 0x20000 ∷ [])
    ++ words (0x10000 ∷ 0 ∷ 0 ∷ 0 ∷ 0 ∷ [])
    ++ words (7 ∷ [])
    ++ words (0 ∷ 0x3FF00000 ∷ [])

-- so many bytes are lent; those behind the numbers stay
abbrev gives : (lent position : ℕ) (kept : List ℕ) → Case
gives lent position kept =
    (CauseCall small THREE position (replicate lent 7), Returns (4 * length kept) (words kept ++ drop (4 * length kept) (replicate lent 7)))

abbrev refuses : (catalogue fit : List ℕ) (lent position n : ℕ) → Case
refuses catalogue fit lent position n = (CauseCall catalogue fit position (replicate lent 7), Returns (n * 4294967296) (replicate lent 7))

-- an effect with a mark, and two types: a ship, and one that is no module, of a volume by its bits
abbrev pub hull : ℕ × List ℕ
hull = (1, 25 ∷ 6 ∷ 0 ∷ 0 ∷ [])

abbrev pub goods : (volume : ℕ) → ℕ × List ℕ
goods volume = (9, 450 ∷ 25 ∷ 1 ∷ volume ∷ [])

abbrev pub stock : (mark : ℕ) → List (ℕ × List ℕ) → List ℕ
stock mark types = words (0 ∷ 1 ∷ length types ∷ 0 ∷ 0 ∷ 3 ∷ mark ∷ []) ++ words (map (λ t. t.0) types) ++ words (each types λ t. t.1)

-- a volume of 1, and one below zero
abbrev pub fair : List ℕ
fair = stock 2 (hull ∷ goods 0x3F800000 ∷ [])

abbrev foul : ℕ × List ℕ
foul = goods 0xBF800000

abbrev pub unfair : List ℕ
unfair = stock 2 (hull ∷ foul ∷ [])

-- ship 1 under a mode flag, with listed skills and two of type 9: in a High slot, where it is no module, and in the hold. The entries are
-- those of the skills, which are none, and behind them the first item's
abbrev pub shipped : (flag : ℕ) (skills : List ℕ) → List ℕ
shipped flag skills =
    words (length skills ∷ 2 ∷ 2 ∷ 0 ∷ 1 ∷ flag ∷ 0 ∷ []) ++ words skills ++ replicate (length skills) 0
    ++ words (9 ∷ 1 ∷ 0 ∷ 9 ∷ 1 ∷ 11 ∷ []) ++ replicate 16 0

abbrev pub sent : List ℕ
sent = shipped 0 []

abbrev pub ASKED : List Case
ASKED =
    -- the rack's; those of each pair
    gives 9 0 (0 ∷ 1 ∷ [])
    ∷ gives 9 1 (0 ∷ [])
    ∷ gives 9 2 (1 ∷ [])
    ∷ gives 4 3 (2 ∷ [])
    -- 10: a byte less than the kept pairs take
    ∷ gives 8 0 (0 ∷ 1 ∷ [])
    ∷ refuses small THREE 7 0 10
    ∷ refuses small THREE 3 3 10
    -- 14, where nothing is lent and where much is
    ∷ refuses small THREE 0 4 14
    ∷ refuses small THREE 9 4 14
    ∷ refuses small THREE 9 4294967295 14
    ∷ (CauseCall fair sent 0 (replicate 5 7), Returns 4 (0 ∷ 0 ∷ 0 ∷ 0 ∷ 7 ∷ []))
    ∷ (CauseCall fair (shipped 0 (4 ∷ 9 ∷ [])) 1 [], Returns 0 [])
    ∷ (CauseCall fair (shipped 0 (4 ∷ 9 ∷ [])) 2 (replicate 4 7), Returns 4 (0 ∷ 0 ∷ 0 ∷ 0 ∷ []))
    ∷ refuses fair sent 5 1 14
    ∷ refuses fair sent 3 0 10
    -- 15 alone, beside 10, and behind 14
    ∷ refuses unfair sent 5 0 15
    ∷ refuses unfair sent 3 0 15
    ∷ refuses unfair sent 5 1 14
    -- 1 to 6, each with 15 and 10, and with 14 and 15
    ∷ refuses (unfair ++ (0 ∷ [])) sent 3 0 1
    ∷ refuses (unfair ++ (0 ∷ [])) sent 3 1 1
    ∷ refuses (stock 2 (foul ∷ hull ∷ [])) sent 3 0 2
    ∷ refuses (stock 2 (foul ∷ hull ∷ [])) sent 3 1 2
    ∷ refuses (stock 9 (hull ∷ foul ∷ [])) sent 3 0 3
    ∷ refuses (stock 9 (hull ∷ foul ∷ [])) sent 3 1 3
    ∷ refuses unfair (sent ++ (0 ∷ [])) 3 0 4
    ∷ refuses unfair (sent ++ (0 ∷ [])) 3 1 4
    ∷ refuses unfair (shipped 0 (9 ∷ 4 ∷ [])) 3 2 5
    ∷ refuses unfair (shipped 0 (9 ∷ 4 ∷ [])) 3 3 5
    ∷ refuses unfair (shipped 2 []) 3 1 6
    ∷ refuses unfair (shipped 2 []) 3 2 6
    -- no bytes at all
    ∷ refuses [] [] 9 0 1
    ∷ refuses small [] 9 0 4
    ∷ []
