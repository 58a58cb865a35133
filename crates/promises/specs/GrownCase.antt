-- Document 01, "Two fits compared": an old and a new fit, in bytes, that meet every premise of demand 3, and what the calls list of them.
use Rattle.std.specs.Prelude.{ℕ, ◌+◌, ◌≡◌, true, false, List, [], ◌∷◌, ◌++◌, map, pos, negsuc, length, take, drop, replicate, Float}
use Rattle.std.specs.Float.{nan, inf, fin, binary32}
use Rattle.std.specs.Float.Ieee.{to_bits}
use Rattle.words.specs.Words.{each}
use Rattle.numbers.specs.Names.{capacity, hi_slots, max_group_fitted, max_type_fitted, required_skill1, required_skill1_level}
use Rattle.numbers.specs.Slots as Slots
use Rattle.image.specs.Bytes.{bits32, le}
use Rattle.floats.specs.Floats.{zero_f, of_nat, f64_bits}
use Rattle.catalogue.specs.Catalogue.{Id, TypeData, Catalogue, catalogue_of}
use Rattle.fit.specs.Fit.{Item, Result, Fit, all_results, fit_of}
use Rattle.numbers.specs.declared.Resource.TheVariants.{DroneBay, CargoBay}
use Rattle.numbers.specs.declared.SlotKind.TheVariants.{High}
use Rattle.numbers.specs.declared.GroupLimit.TheVariants.{Fitted}
use Rattle.entry.specs.declared.Entry.{Entry}
use Rattle.entry.specs.declared.Rule.TheVariants.{Resource, Slots, NotAnImplant, SlotTaken, Skill, MaxGroup, MaxType, NotASkill, Banned, Points, UnknownType}
use Rattle.entry.specs.declared.Rule.TheVariants.{Numbers}
use Rattle.entry.specs.Entries.{on_ship, on_item, entry_bytes}
use Rattle.lists.specs.Terms.{Terms, terms, limited, read_by, main}
use Rattle.calls.specs.Answers.{Refused, Listed}
use Rattle.fitcheck.specs.Calls.{list_call, skill_call}
use Rattle.promises.specs.Answers.{outcome, fit_conditions, None}
use Rattle.promises.specs.Compare.{Bytes, Grown, AddedVolumes, Apart}
use Rattle.promises.specs.Hauls.{Hauled, outside_hold, in_hold}
use Rattle.promises.specs.Cases.{ship, gun, gunnery, ore, ghost, unknown, attribute, has, result, Thing, stack, one}
use Rattle.promises.specs.CallCases.{words}

-- a fit with other levels, and with items and results behind its own
abbrev pub grown_by : Fit → (levels : List ℕ) → List Item → List Result → Fit
grown_by f levels items results =
    record { frame = f.frame; skills = f.skills; levels = levels; items = f.items ++ items; results = f.results ++ results }

-- ---- images: document 01's "Records", from left to right
abbrev id_bytes : Id → List ℕ
id_bytes t = le 4 (bits32 t)

abbrev catalogue_bytes : Catalogue → List ℕ
catalogue_bytes c =
    words (length c.names ∷ length c.effects ∷ length c.types ∷ length c.links ∷ length c.bases ∷ [])
    ++ each c.names (λ x. le 4 x.number) ++ each c.names (λ x. id_bytes x.id)
    ++ each c.effects (λ x. id_bytes x.id) ++ each c.effects (λ x. le 4 x.mark)
    ++ each c.types (λ x. id_bytes x.id)
    ++ each c.types (λ x. id_bytes x.group ++ id_bytes x.category ++ words (x.volume_flag ∷ to_bits binary32 x.volume ∷ []))
    ++ each c.links (λ x. id_bytes x.type) ++ each c.links (λ x. id_bytes x.effect)
    ++ each c.bases (λ x. id_bytes x.type) ++ each c.bases (λ x. id_bytes x.attribute ++ le 8 (f64_bits x.value))

abbrev fit_bytes : Fit → List ℕ
fit_bytes f =
    let rs = all_results f in
    let attributes = each rs (λ r. r.attributes) in
    words (length f.skills ∷ length f.items ∷ length f.results ∷ length attributes ∷ [])
    ++ id_bytes f.frame.ship ++ le 4 f.frame.mode_flag ++ id_bytes f.frame.mode
    ++ each f.skills id_bytes ++ f.levels
    ++ each f.items (λ i. id_bytes i.type ++ le 4 i.quantity ++ (i.slot ∷ i.reserved ∷ le 2 i.index))
    ++ each rs (λ r. r.state ∷ r.reserved ∷ le 2 (length r.attributes))
    ++ each attributes (λ a. id_bytes a.id) ++ each attributes (λ a. le 8 (f64_bits a.value))

-- ---- a catalogue and two fits
-- what is not in the catalogue, beside `unknown`
abbrev lost : Id
lost = negsuc 98

-- what has a volume below zero
abbrev scrap : Id
scrap = pos 27

abbrev typed : Id → ℕ → ℕ → ℕ → Float → TypeData
typed id group category flag volume = record { id = id; group = pos group; category = pos category; volume_flag = flag; volume = volume }

-- guns of an infinite volume, ore of 2.5, scrap of -1, and ghosts with none, as their flag is 0. The pilot's skill is not in it.
abbrev pub CATALOGUE : List ℕ
CATALOGUE = catalogue_bytes (record {
  names =
      map (λ n. record { number = n; id = attribute n })
      (capacity ∷ hi_slots ∷ max_group_fitted ∷ max_type_fitted ∷ required_skill1 ∷ required_skill1_level ∷ []);
  effects = [];
  types =
      typed ship 25 6 0 zero_f
      ∷ typed gun 50 7 1 (inf false)
      ∷ typed ore 450 25 1 (fin false 5 (negsuc 0))
      ∷ typed ghost 450 25 0 nan
      ∷ typed scrap 450 25 1 (fin true 1 (pos 0))
      ∷ [];
  links = [];
  bases = [];
})

-- two guns in one slot, of which the first allows one of its group and one of its type, and wants the skill at 5; 5 less 1 in the hold, and
-- an implant that is not in the catalogue
abbrev things : List Thing
things =
    one gun Slots.high 0
    (has max_group_fitted (of_nat 1) ∷ has max_type_fitted (of_nat 1) ∷ has required_skill1 (of_nat 24) ∷ has required_skill1_level (of_nat 5) ∷ [])
    ∷ one gun Slots.high 0 []
    ∷ stack 2 ore Slots.cargo 0 0 []
    ∷ stack 1 scrap Slots.cargo 0 0 []
    ∷ one lost Slots.implant 0 []
    ∷ []

-- on a ship with a hold of 1 and one High slot, by a pilot with the skill at 3
abbrev old : Fit
old = record {
  frame = record {
    ship = ship;
    mode_flag = 0;
    mode = pos 0;
    ship_result = result 0 (has capacity (of_nat 1) ∷ has hi_slots (of_nat 1) ∷ []);
    character_result = result 0 [];
  };
  skills = gunnery ∷ [];
  levels = 3 ∷ [];
  items = map (λ t. t.0) things;
  results = map (λ t. t.1) things;
}

-- a third gun; cargo with a volume, with none as its flag is 0, and with none as it is not in the catalogue
abbrev added : List Thing
added =
    one gun Slots.high 1 (has max_group_fitted (of_nat 1) ∷ [])
    ∷ stack 1 ore Slots.cargo 0 0 []
    ∷ stack 1 ghost Slots.cargo 0 0 []
    ∷ stack 1 unknown Slots.cargo 0 0 []
    ∷ []

-- a fourth gun, without a result
abbrev spare : Item
spare = (one gun Slots.high 2 []).0

-- five items and four results more, and a lower level
abbrev new : Fit
new = grown_by old (1 ∷ []) (map (λ t. t.0) added ++ (spare ∷ [])) (map (λ t. t.1) added)

abbrev pub OLD : List ℕ
OLD = fit_bytes old

abbrev pub NEW : List ℕ
NEW = fit_bytes new

-- ---- what the calls list
abbrev pub OLD_LIST : List Entry
OLD_LIST =
    on_ship (NotASkill gunnery)
    ∷ on_ship (Resource CargoBay (of_nat 4) (of_nat 1))
    ∷ on_ship (Slots High 2 1)
    ∷ on_item 0 SlotTaken
    ∷ on_item 1 SlotTaken
    ∷ on_item 4 NotAnImplant
    ∷ on_item 0 (MaxGroup (pos 50) Fitted 2 1)
    ∷ on_item 0 (MaxType gun 2 1)
    ∷ []

-- 6.5 in the hold, three guns, and an entry between the others
abbrev pub NEW_LIST : List Entry
NEW_LIST =
    on_ship (NotASkill gunnery)
    ∷ on_ship (Resource CargoBay (fin false 13 (negsuc 0)) (of_nat 1))
    ∷ on_ship (Slots High 3 1)
    ∷ on_item 0 SlotTaken
    ∷ on_item 1 SlotTaken
    ∷ on_item 4 NotAnImplant
    ∷ on_item 0 (MaxGroup (pos 50) Fitted 3 1)
    ∷ on_item 5 (MaxGroup (pos 50) Fitted 3 1)
    ∷ on_item 0 (MaxType gun 3 1)
    ∷ []

-- the first gun's skill
abbrev pub lacks : ℕ → List Entry
lacks level = on_item 0 (Skill gunnery 5 level) ∷ []

-- a league that bans guns; one that prices them at 3, and allows 5
abbrev pub BANNING : Terms
BANNING = terms (words (1 ∷ 50 ∷ 4294967295 ∷ [])) 5

abbrev pub PRICING : Terms
PRICING = terms (words (1 ∷ 50 ∷ 3 ∷ [])) 5

-- it on a page that takes the old fit's five pairs and no more, and one wanted skill; and on one for the new fit's nine
abbrev pub NARROW : Terms
NARROW = limited 5 1 PRICING

abbrev pub WIDER : Terms
WIDER = limited 9 2 PRICING

-- a ban of the guns at these positions
abbrev pub bans : List ℕ → List Entry
bans positions = map (λ i. on_item i (Banned (pos 50))) positions

-- the types that are missing: an implant, and in the new fit one in the hold
abbrev pub OLD_LAST : List Entry
OLD_LAST = on_item 4 (UnknownType lost) ∷ []

abbrev pub NEW_LAST : List Entry
NEW_LAST = on_item 4 (UnknownType lost) ∷ on_item 8 (UnknownType unknown) ∷ []

-- P14: the old fit by a pilot who lists another skill before it, at another level
abbrev retrained : Fit
retrained = record { frame = old.frame; skills = gun ∷ gunnery ∷ []; levels = 4 ∷ 5 ∷ []; items = old.items; results = old.results }

abbrev pub RETRAINED : List ℕ
RETRAINED = fit_bytes retrained

-- what a guest is told of both
abbrev pub GUESTS_LIST : List Entry
GUESTS_LIST = drop 1 OLD_LIST ++ (on_ship (Points 6 5) ∷ OLD_LAST)

-- P7: cargo behind the old fit with a volume, with none as its flag is 0, and with none as it is not in the catalogue; the last has no result
abbrev loaded : Fit
loaded =
    let cargo = stack 1 ore Slots.cargo 0 0 [] ∷ stack 1 ghost Slots.cargo 0 0 [] ∷ stack 1 unknown Slots.cargo 0 0 [] ∷ [] in
    grown_by old old.levels (map (λ t. t.0) cargo ++ ((stack 1 ore Slots.cargo 0 0 []).0 ∷ [])) (map (λ t. t.1) cargo)

-- five of a volume below zero; a gun, which is no cargo
abbrev lightened : Fit
lightened = let scraps = stack 5 scrap Slots.cargo 0 0 [] in grown_by old old.levels (scraps.0 ∷ []) (scraps.1 ∷ [])

abbrev armed : Fit
armed = let third = one gun Slots.high 1 [] in grown_by old old.levels (third.0 ∷ []) (third.1 ∷ [])

-- entries of which the last two are the hold's and a missing type's; the second has the hold's sub under another rule
abbrev pub SORTS : List Entry
SORTS =
    on_ship (Resource DroneBay (of_nat 4) (of_nat 1))
    ∷ on_ship (Numbers 2 11 3 1 0 0)
    ∷ on_item 1 (Banned (pos 50))
    ∷ on_ship (Points 6 5)
    ∷ on_ship (Resource CargoBay (of_nat 4) (of_nat 1))
    ∷ on_item 7 (UnknownType unknown)
    ∷ []

abbrev pub LOADED : List ℕ
LOADED = fit_bytes loaded

abbrev pub LIGHTENED : List ℕ
LIGHTENED = fit_bytes lightened

abbrev pub ARMED : List ℕ
ARMED = fit_bytes armed

-- room for all of them
abbrev pub ROOM : List ℕ
ROOM = replicate 336 7

-- the images are these fits; they meet the premises, though unequal numbers are added; and of every rule with a number that may change, and
-- of each of document 02's, the old lists have an entry
pub record Example : Type 0 where
  pub old_fit : fit_of OLD ≡ old
  pub new_fit : fit_of NEW ≡ new
  pub items : length new.items ≡ length old.items + 5
  pub results : length new.results ≡ length old.results + 4
  -- the premises
  pub bytes : Bytes NEW
  pub grown : Grown (fit_of OLD) (fit_of NEW)
  pub volumes : AddedVolumes (catalogue_of CATALOGUE) (fit_of OLD) (fit_of NEW)
  -- all calls are answered
  pub old_list : list_call main CATALOGUE OLD ROOM ≡ Listed (OLD_LIST ++ OLD_LAST)
  pub new_list : list_call main CATALOGUE NEW ROOM ≡ Listed (NEW_LIST ++ NEW_LAST)
  pub old_bans : list_call BANNING CATALOGUE OLD ROOM ≡ Listed (OLD_LIST ++ bans (0 ∷ 1 ∷ []) ++ OLD_LAST)
  pub new_bans : list_call BANNING CATALOGUE NEW ROOM ≡ Listed (NEW_LIST ++ bans (0 ∷ 1 ∷ 5 ∷ []) ++ NEW_LAST)
  pub old_points : list_call PRICING CATALOGUE OLD ROOM ≡ Listed (OLD_LIST ++ (on_ship (Points 6 5) ∷ OLD_LAST))
  pub new_points : list_call PRICING CATALOGUE NEW ROOM ≡ Listed (NEW_LIST ++ (on_ship (Points 9 5) ∷ NEW_LAST))
  pub old_skills : skill_call main CATALOGUE OLD 2 ROOM ≡ Listed (lacks 3)
  pub new_skills : skill_call main CATALOGUE NEW 2 ROOM ≡ Listed (lacks 1)
  -- so are those on two pages, of which the old one does not take the new fit
  pub old_narrow : list_call NARROW CATALOGUE OLD ROOM ≡ list_call PRICING CATALOGUE OLD ROOM
  pub new_narrow : list_call NARROW CATALOGUE NEW ROOM ≡ Refused 13
  pub new_wider : list_call WIDER CATALOGUE NEW ROOM ≡ list_call PRICING CATALOGUE NEW ROOM
  pub old_narrow_skills : skill_call NARROW CATALOGUE OLD 2 ROOM ≡ Listed (lacks 3)
  pub new_wider_skills : skill_call WIDER CATALOGUE NEW 2 ROOM ≡ Listed (lacks 1)

-- two images that meet the premises of P14, one five bytes longer: a guest's lists are one list, an officer's and a pilot's are not; and a
-- guest's list grows as theirs does
pub record GuestExample : Type 0 where
  pub retrained_fit : fit_of RETRAINED ≡ retrained
  pub longer : length RETRAINED ≡ length OLD + 5
  pub apart : Apart (fit_of OLD) (fit_of RETRAINED)
  pub old_fine : None (fit_conditions OLD)
  pub retrained_fine : None (fit_conditions RETRAINED)
  pub guests_old : list_call (read_by 0 PRICING) CATALOGUE OLD ROOM ≡ Listed GUESTS_LIST
  pub guests_retrained : list_call (read_by 0 PRICING) CATALOGUE RETRAINED ROOM ≡ Listed GUESTS_LIST
  pub officers_retrained : list_call PRICING CATALOGUE RETRAINED ROOM
      ≡ Listed ((on_ship (NotASkill gun) ∷ OLD_LIST) ++ (on_ship (Points 6 5) ∷ OLD_LAST))
  pub pilots_old : list_call (read_by 1 PRICING) CATALOGUE OLD ROOM ≡ Listed (OLD_LIST ++ (on_ship (Points 6 5) ∷ OLD_LAST))
  pub guests_new : list_call (read_by 0 PRICING) CATALOGUE NEW ROOM ≡ Listed (drop 1 NEW_LIST ++ (on_ship (Points 9 5) ∷ NEW_LAST))
  pub guests_skills : skill_call (read_by 0 main) CATALOGUE OLD 2 ROOM ≡ Refused 20
  pub pilots_skills : skill_call (read_by 1 main) CATALOGUE OLD 2 ROOM ≡ Listed (lacks 3)

-- P7: images that meet its premises. 6.5 in the hold where there were 4; nothing listed of it, as what was added is below zero, so that the
-- premise on volumes is needed; and with a gun in the place of cargo entries outside the hold are others, so that they have to be cargo
pub record HaulExample : Type 0 where
  pub loaded_fit : fit_of LOADED ≡ loaded
  pub lightened_fit : fit_of LIGHTENED ≡ lightened
  pub items : length loaded.items ≡ length old.items + 4
  pub results : length loaded.results ≡ length old.results + 3
  pub bytes : Bytes LOADED
  pub lightened_bytes : Bytes LIGHTENED
  pub loads : Hauled (fit_of OLD) (fit_of LOADED)
  pub volumes : AddedVolumes (catalogue_of CATALOGUE) (fit_of OLD) (fit_of LOADED)
  pub lightens : Hauled (fit_of OLD) (fit_of LIGHTENED)
  pub loaded_list : list_call main CATALOGUE LOADED ROOM
      ≡ Listed ((on_ship (NotASkill gunnery) ∷ on_ship (Resource CargoBay (fin false 13 (negsuc 0)) (of_nat 1)) ∷ drop 2 OLD_LIST)
      ++ (on_item 4 (UnknownType lost) ∷ on_item 7 (UnknownType unknown) ∷ []))
  pub lightened_list : list_call main CATALOGUE LIGHTENED ROOM ≡ Listed ((on_ship (NotASkill gunnery) ∷ drop 2 OLD_LIST) ++ OLD_LAST)
  pub loaded_skills : skill_call main CATALOGUE LOADED 2 ROOM ≡ Listed (lacks 3)
  -- what the calls left outside the hold, and in it
  pub outside : outside_hold (outcome ROOM (list_call main CATALOGUE LOADED ROOM)) ≡ map entry_bytes (on_ship (NotASkill gunnery) ∷ drop 2 OLD_LIST)
  pub outside_bans : outside_hold (outcome ROOM (list_call BANNING CATALOGUE LOADED ROOM))
      ≡ map entry_bytes ((on_ship (NotASkill gunnery) ∷ drop 2 OLD_LIST) ++ bans (0 ∷ 1 ∷ []))
  pub outside_points : outside_hold (outcome ROOM (list_call (read_by 0 PRICING) CATALOGUE LOADED ROOM))
      ≡ map entry_bytes (drop 2 OLD_LIST ++ (on_ship (Points 6 5) ∷ []))
  -- CargoBay and rule 26 are taken out of entries that a call might have left, and no other
  pub kept : outside_hold (record { word = 6; buffer = each SORTS entry_bytes }) ≡ map entry_bytes (take 4 SORTS)
  pub held : in_hold (outcome ROOM (list_call main CATALOGUE OLD ROOM)) ≡ entry_bytes (on_ship (Resource CargoBay (of_nat 4) (of_nat 1))) ∷ []
  pub gone : in_hold (outcome ROOM (list_call main CATALOGUE LIGHTENED ROOM)) ≡ []
  pub armed_fit : fit_of ARMED ≡ armed
  pub armed_grows : Grown (fit_of OLD) (fit_of ARMED)
  pub armed_list : list_call main CATALOGUE ARMED ROOM
      ≡ Listed (take 2 OLD_LIST
      ++ (on_ship (Slots High 3 1) ∷ on_item 0 SlotTaken ∷ on_item 1 SlotTaken ∷ on_item 4 NotAnImplant ∷ [])
      ++ (on_item 0 (MaxGroup (pos 50) Fitted 3 1) ∷ on_item 0 (MaxType gun 3 1) ∷ [])
      ++ OLD_LAST)
