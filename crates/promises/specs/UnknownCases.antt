-- Cases of document 02, P5: types that the catalogue lacks, in every kind of slot and beside types that are there with group 0 and category 0.
use Rattle.std.specs.Prelude.{ℕ, ◌*◌, List, [], ◌∷◌, ◌++◌, map, pos, negsuc, replicate}
use Rattle.catalogue.specs.Catalogue.{Id, Link, Catalogue}
use Rattle.fit.specs.Fit.{Fit}
use Rattle.numbers.specs.declared.SlotKind.TheVariants.{Medium}
use Rattle.entry.specs.declared.Entry.{Entry}
use Rattle.entry.specs.declared.Rule.TheVariants.{WrongSlot, NotAModule, NotADrone, NotAFighter, NotAnImplant, SlotTaken, NotAHull, NotAMode}
use Rattle.entry.specs.declared.Rule.TheVariants.{NotASkill, Banned, Points, UnknownType}
use Rattle.entry.specs.Entries.{on_ship, on_item}
use Rattle.lists.specs.Terms.{terms}
use Rattle.promises.specs.Cases.{typed, ship, structure, gun, ore, unknown, known, base, result, Thing, stack, one, fit}
use Rattle.promises.specs.Cases.{Fitted, InLeague, ListCall, HallCall, Number, Entries, Returns, Case}
use Rattle.promises.specs.CallCases.{words, small}
use Rattle.promises.specs.LeagueCases.{profile, ban}

-- things on the ship
abbrev lists : List Thing → List Entry → Case
lists things es = (Fitted (known []) (fit ship [] things), Entries es)

-- one of a type that is not there, in a kind of slot; what its rule says of it, and that it is unknown
abbrev lost : ℕ → List Entry → Case
lost slot es = lists (one unknown slot 0 [] ∷ []) (es ++ (on_item 0 (UnknownType unknown) ∷ []))

-- type 0 of group 0 and category 0, the ship, and what links there are
abbrev plain : List Link → Catalogue
plain links = record {
  names = [];
  effects = (known []).effects;
  types = typed 0 0 0 ∷ typed 1 25 6 ∷ [];
  links = links;
  bases = [];
}

-- a missing type with a base value, marked as a turret
abbrev based : Catalogue
based = record {
  names = [];
  effects = (known []).effects;
  types = typed 1 25 6 ∷ [];
  links = record { type = unknown; effect = pos 207 } ∷ [];
  bases = base 99 0 1 ∷ [];
}

-- a mode, skills, and things of which the last has no result
abbrev partly : Id → List Id → List Thing → Thing → Fit
partly mode skills things last = record {
  frame = record { ship = ship; mode_flag = 1; mode = mode; ship_result = result 0 []; character_result = result 0 [] };
  skills = skills;
  levels = map (λ _. 5) skills;
  items = map (λ t. t.0) things ++ (last.0 ∷ []);
  results = map (λ t. t.1) things;
}

-- the ends of i32
abbrev lowest : Id
lowest = negsuc 2147483647

abbrev highest : Id
highest = pos 2147483647

abbrev pub UNKNOWNS : List Case
UNKNOWNS =
    -- each kind of slot, behind what the slot's own rule lists
    lost 0 (on_item 0 NotAModule ∷ [])
    ∷ lost 1 (on_item 0 NotAModule ∷ [])
    ∷ lost 2 (on_item 0 NotAModule ∷ [])
    ∷ lost 3 (on_item 0 NotAModule ∷ [])
    ∷ lost 4 (on_item 0 NotAModule ∷ [])
    ∷ lost 5 (on_item 0 NotAModule ∷ [])
    ∷ lost 6 (on_item 0 NotAFighter ∷ [])
    ∷ lost 7 (on_item 0 NotAFighter ∷ [])
    ∷ lost 8 (on_item 0 NotAnImplant ∷ [])
    ∷ lost 9 (on_item 0 NotAnImplant ∷ [])
    ∷ lost 10 (on_item 0 NotADrone ∷ [])
    ∷ lost 11 []
    -- a type that is there is known, whatever its group and category
    ∷ (Fitted (plain []) (fit ship [] (one (pos 0) 11 0 [] ∷ [])), Entries [])
    ∷ (Fitted (plain []) (fit ship [] (one (pos 0) 0 0 [] ∷ [])), Entries (on_item 0 NotAModule ∷ []))
    ∷ lists (one gun 11 0 [] ∷ one ore 11 0 [] ∷ []) []
    -- and only its own id is: next to those that are there, and at the ends of i32
    ∷ (
      Fitted (plain []) (fit ship [] (one (negsuc 0) 11 0 [] ∷ one (pos 0) 11 0 [] ∷ one (pos 2) 11 0 [] ∷ [])),
      Entries (on_item 0 (UnknownType (negsuc 0)) ∷ on_item 2 (UnknownType (pos 2)) ∷ []),
    )
    ∷ lists (one lowest 11 0 [] ∷ one highest 11 0 [] ∷ one (pos 65546) 11 0 [] ∷ [])
    (on_item 0 (UnknownType lowest) ∷ on_item 1 (UnknownType highest) ∷ on_item 2 (UnknownType (pos 65546)) ∷ [])
    -- one entry a pair, in the order of the pairs, whatever the quantity and the state
    ∷ lists (stack 0 unknown 11 0 0 [] ∷ one gun 0 0 [] ∷ stack 4294967295 unknown 11 0 3 [] ∷ one (pos 98) 11 0 [] ∷ [])
    (on_item 0 (UnknownType unknown) ∷ on_item 2 (UnknownType unknown) ∷ on_item 3 (UnknownType (pos 98)) ∷ [])
    -- its links stand by its id: marked for a Medium slot, and unknown all the same
    ∷ (
      Fitted (plain (record { type = unknown; effect = pos 202 } ∷ [])) (fit ship [] (one unknown 0 0 [] ∷ [])),
      Entries (on_item 0 (WrongSlot Medium) ∷ on_item 0 NotAModule ∷ on_item 0 (UnknownType unknown) ∷ []),
    )
    -- behind all else of every pair
    ∷ lists (one unknown 0 0 [] ∷ one gun 0 0 [] ∷ [])
    (on_item 0 NotAModule ∷ on_item 0 SlotTaken ∷ on_item 1 SlotTaken ∷ on_item 0 (UnknownType unknown) ∷ [])
    -- behind bans and points
    ∷ (
      InLeague (terms (profile ((0, ban) ∷ (50, 4) ∷ [])) 3) (known []) (fit ship [] (one unknown 11 0 [] ∷ one unknown 0 0 [] ∷ one gun 0 1 [] ∷ [])),
      Entries
          (on_item 1 NotAModule ∷ on_item 1 (Banned (pos 0)) ∷ on_ship (Points 4 3) ∷ on_item 0 (UnknownType unknown) ∷ on_item 1 (UnknownType unknown) ∷ []),
    )
    -- a mode and a skill that are missing have their own rules; an item without a result has none
    ∷ (
      Fitted (known []) (partly unknown (unknown ∷ []) (one gun 0 0 [] ∷ []) (one unknown 11 0 [])),
      Entries (on_ship NotAMode ∷ on_ship (NotASkill unknown) ∷ []),
    )
    -- a ship that is missing is no hull, and nothing stands behind that
    ∷ (Fitted (known []) (fit unknown [] (one unknown 11 0 [] ∷ [])), Entries (on_ship NotAHull ∷ []))
    ∷ (Fitted (known []) (fit gun [] (one unknown 11 0 [] ∷ [])), Entries (on_ship NotAHull ∷ []))
    -- type 0, where the catalogue has none
    ∷ lists (one (pos 0) 11 0 [] ∷ []) (on_item 0 (UnknownType (pos 0)) ∷ [])
    -- on a structure and in a container, as on a ship
    ∷ (Fitted (known []) (fit structure [] (one unknown 11 0 [] ∷ [])), Entries (on_item 0 (UnknownType unknown) ∷ []))
    ∷ (Fitted (known []) (fit (pos 3) [] (one unknown 11 0 [] ∷ [])), Entries (on_item 0 (UnknownType unknown) ∷ []))
    -- base values under its id and a turret's mark do not make it known
    ∷ (Fitted based (fit ship [] (one unknown 11 0 [] ∷ [])), Entries (on_item 0 (UnknownType unknown) ∷ []))
    ∷ []

-- ship 1 with one of a type in its hold
abbrev carrying : ℕ → List ℕ
carrying type = words (0 ∷ 1 ∷ 1 ∷ 0 ∷ 1 ∷ 0 ∷ 0 ∷ []) ++ words (type ∷ 1 ∷ 11 ∷ []) ++ replicate 12 0

abbrev pub CARRIED : List Case
CARRIED =
    -- type 9 is there, 77 is not
    (ListCall small (carrying 9) [], Returns 0 [])
    ∷ (ListCall small (carrying 77) (replicate 25 7), Returns 1 (words (0x00001A01 ∷ 0 ∷ 77 ∷ 0 ∷ 0 ∷ 0 ∷ []) ++ (7 ∷ [])))
    -- 10 counts it
    ∷ (ListCall small (carrying 77) (replicate 23 7), Returns (10 * 4294967296) (replicate 23 7))
    -- a hall reads the list with it: one clear, one faulted
    ∷ (HallCall small (words (1 ∷ 52 ∷ []) ++ carrying 9), Number 1)
    ∷ (HallCall small (words (1 ∷ 52 ∷ []) ++ carrying 77), Number 256)
    ∷ (HallCall small (words (2 ∷ 52 ∷ 52 ∷ []) ++ carrying 77 ++ carrying 9), Number 257)
    ∷ []
