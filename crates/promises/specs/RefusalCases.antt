-- Cases of the refusals, document 01, "Records" and "Refusals in their order": each part of a condition at its limit and just past it,
-- and of two conditions at once the first. `CallCases` has the document's examples, but for those of 7 and 9, which stand here.
-- Then zeros: an id, an amount or a level of 0 is one like any other.
use Rattle.std.specs.Prelude.{ℕ, ◌+◌, ◌*◌, ◌-◌, true, false, List, [], ◌∷◌, ◌++◌, map, pos, length, replicate, take}
use Rattle.std.specs.Float.{nan, fin}
use Rattle.words.specs.Words.{each, from}
use Rattle.image.specs.Bytes.{le}
use Rattle.numbers.specs.Names.{fits_to_ship_type, can_fit_ship_group01, max_group_fitted, max_type_fitted, required_skill1, required_skill1_level}
use Rattle.floats.specs.Floats.{of_nat}
use Rattle.catalogue.specs.Catalogue.{Id, Name, Base, Catalogue}
use Rattle.fit.specs.Fit.{Result, Fit}
use Rattle.numbers.specs.declared.SlotKind.TheVariants.{Medium}
use Rattle.numbers.specs.declared.GroupLimit.TheVariants.{Fitted}
use Rattle.entry.specs.declared.Rule.TheVariants.{WrongSlot, NotAModule, Skill, ShipRestricted, MaxGroup, MaxType, NotAHull, NotASkill, UnknownType}
use Rattle.entry.specs.Entries.{on_ship, on_item}
use Rattle.lists.specs.Terms.{main}
use Rattle.promises.specs.Cases.{attribute, typed, ship, gun, unknown, base, tree, has, result, asks_for, asks, Thing, one, fit}
use Rattle.promises.specs.Cases.{Fitted, Wants, Skilled, BadLength, BadSize, SkillRefusal, TrimRefusal}
use Rattle.promises.specs.Cases.{ListCall, SkillCall, HallCall, ListBefore}
use Rattle.promises.specs.Cases.{Number, Holds, Entries, Demands, Returns, Case}
use Rattle.promises.specs.CallCases.{words, bare, small, empty, fitted, types_at, holding, list_refuses, list_gives}

-- ---- 1: the catalogue's length
-- so many names, effects, types, links, bases, and so many bytes of zeros behind the sizes
abbrev blocks : (n e t l b : ℕ) → ℕ → List ℕ
blocks n e t l b bytes = words (n ∷ e ∷ t ∷ l ∷ b ∷ []) ++ replicate bytes 0

-- a size asks for so many bytes, no more and no fewer
abbrev exactly : (ℕ → List ℕ) → ℕ → List Case
exactly image bytes =
    list_refuses (image (bytes - 1)) empty 1
    ∷ list_gives (image bytes) empty
    ∷ list_refuses (image (bytes + 1)) empty 1
    ∷ []

abbrev pub LENGTHS : List Case
LENGTHS =
    list_refuses [] empty 1
    ∷ list_refuses (replicate 19 0) empty 1
    -- 8 for a name, 8 for an effect, 20 for a type, 8 for a link, 16 for a base
    ∷ exactly (blocks 1 0 0 0 0) 8
    ++ exactly (blocks 0 1 0 0 0) 8
    ++ exactly (blocks 0 0 1 0 0) 20
    ++ exactly (blocks 0 0 0 1 0) 8
    ++ exactly (blocks 0 0 0 0 1) 16
    -- 536,870,912 names are 4,294,967,296 bytes, and not none
    ++ list_refuses (blocks 536870912 0 0 0 0 0) empty 1
    ∷ []

-- ---- 2: the catalogue's keys
-- two of a block, by their keys; all else is 0
abbrev names : ℕ → ℕ → List ℕ
names a b = words (2 ∷ 0 ∷ 0 ∷ 0 ∷ 0 ∷ a ∷ b ∷ []) ++ replicate 8 0

abbrev effects : ℕ → ℕ → List ℕ
effects a b = words (0 ∷ 2 ∷ 0 ∷ 0 ∷ 0 ∷ a ∷ b ∷ []) ++ replicate 8 0

abbrev links : ℕ → ℕ → List ℕ
links a b = words (0 ∷ 0 ∷ 0 ∷ 2 ∷ 0 ∷ a ∷ b ∷ []) ++ replicate 8 0

abbrev bases : ℕ → ℕ → List ℕ
bases a b = words (0 ∷ 0 ∷ 0 ∷ 0 ∷ 2 ∷ a ∷ b ∷ []) ++ replicate 24 0

abbrev pub KEYS : List Case
KEYS =
    -- names ascend strictly
    list_gives (names 5 6) empty
    ∷ list_refuses (names 5 5) empty 2
    ∷ list_refuses (names 6 5) empty 2
    -- a name's number is unsigned: 4,294,967,295 stands behind 0, and is over 87
    ∷ list_refuses (names 0 0xFFFFFFFF) empty 3
    ∷ list_refuses (names 0xFFFFFFFF 0) empty 2
    -- effects ascend strictly, -1 before 0
    ∷ list_gives (effects 5 6) empty
    ∷ list_refuses (effects 5 5) empty 2
    ∷ list_refuses (effects 6 5) empty 2
    ∷ list_gives (effects 0xFFFFFFFF 0) empty
    ∷ list_refuses (effects 0 0xFFFFFFFF) empty 2
    -- so do types; the least id stands before the greatest
    ∷ list_refuses (types_at 6 5) empty 2
    ∷ list_gives (types_at 0x80000000 0x7FFFFFFF) empty
    ∷ list_refuses (types_at 0x7FFFFFFF 0x80000000) empty 2
    -- links never descend
    ∷ list_gives (links 5 6) empty
    ∷ list_gives (links 5 5) empty
    ∷ list_refuses (links 6 5) empty 2
    ∷ list_gives (links 0xFFFFFFFF 0) empty
    ∷ list_refuses (links 0 0xFFFFFFFF) empty 2
    -- nor do bases
    ∷ list_gives (bases 5 6) empty
    ∷ list_gives (bases 5 5) empty
    ∷ list_refuses (bases 6 5) empty 2
    ∷ list_gives (bases 0xFFFFFFFF 0) empty
    ∷ list_refuses (bases 0 0xFFFFFFFF) empty 2
    -- the second key and the third
    ∷ list_refuses (words (0 ∷ 0 ∷ 3 ∷ 0 ∷ 0 ∷ 1 ∷ 3 ∷ 2 ∷ []) ++ replicate 48 0) empty 2
    ∷ list_refuses (words (0 ∷ 0 ∷ 0 ∷ 3 ∷ 0 ∷ 1 ∷ 3 ∷ 2 ∷ []) ++ replicate 12 0) empty 2
    -- what stands beside a key has no order: the ids of names, marks, a link's effects and a base's attributes
    ∷ list_gives (words (2 ∷ 0 ∷ 0 ∷ 0 ∷ 0 ∷ 5 ∷ 6 ∷ 9 ∷ 9 ∷ [])) empty
    ∷ list_gives (words (0 ∷ 2 ∷ 0 ∷ 0 ∷ 0 ∷ 5 ∷ 6 ∷ 8 ∷ 0 ∷ [])) empty
    ∷ list_gives (words (0 ∷ 0 ∷ 0 ∷ 2 ∷ 0 ∷ 5 ∷ 5 ∷ 9 ∷ 4 ∷ [])) empty
    ∷ list_gives (words (0 ∷ 0 ∷ 0 ∷ 0 ∷ 2 ∷ 5 ∷ 5 ∷ 9 ∷ 0 ∷ 0 ∷ 4 ∷ 0 ∷ 0 ∷ [])) empty
    ∷ []

-- ---- 3: the catalogue's fields
-- two types with these volume flags
abbrev flagged : ℕ → ℕ → List ℕ
flagged a b = words (0 ∷ 0 ∷ 2 ∷ 0 ∷ 0 ∷ 5 ∷ 6 ∷ []) ++ words (0 ∷ 0 ∷ a ∷ 0 ∷ []) ++ words (0 ∷ 0 ∷ b ∷ 0 ∷ [])

abbrev pub FIELDS : List Case
FIELDS =
    -- flags 0 and 1, not 2
    list_gives (flagged 0 1) empty
    ∷ list_refuses (flagged 2 0) empty 3
    ∷ list_refuses (flagged 1 2) empty 3
    ∷ list_refuses (flagged 0 0xFFFFFFFF) empty 3
    -- name numbers 87 and 88, marks 8 and 9, the second of two
    ∷ list_gives (names 86 87) empty
    ∷ list_refuses (names 87 88) empty 3
    ∷ list_gives (words (0 ∷ 2 ∷ 0 ∷ 0 ∷ 0 ∷ 5 ∷ 6 ∷ 0 ∷ 8 ∷ [])) empty
    ∷ list_refuses (words (0 ∷ 2 ∷ 0 ∷ 0 ∷ 0 ∷ 5 ∷ 6 ∷ 0 ∷ 9 ∷ [])) empty 3
    ∷ list_refuses (words (0 ∷ 2 ∷ 0 ∷ 0 ∷ 0 ∷ 5 ∷ 6 ∷ 0xFFFFFFFF ∷ 0 ∷ [])) empty 3
    -- ids, groups, categories and bits of floats are any: a NaN's volume under either flag, and a NaN's base value with a payload
    ∷ list_gives
    (words (0 ∷ 0 ∷ 2 ∷ 0 ∷ 0 ∷ 5 ∷ 6 ∷ [])
    ++ words (0xFFFFFFFF ∷ 0xFFFFFFFF ∷ 1 ∷ 0x7FC00000 ∷ [])
    ++ words (0x7FFFFFFF ∷ 0x80000000 ∷ 0 ∷ 0xFFFFFFFF ∷ []))
    empty
    ∷ list_gives (words (0 ∷ 0 ∷ 0 ∷ 0 ∷ 1 ∷ 0xFFFFFFFF ∷ 0xFFFFFFFF ∷ 1 ∷ 0xFFF80000 ∷ [])) empty
    ∷ []

-- ---- 4: the fit's sizes
-- three results with these numbers of attributes, and the attributes' ids; no items
abbrev counted : (ship character item : ℕ) → (ids : List ℕ) → List ℕ
counted ship character item ids =
    words (0 ∷ 0 ∷ 1 ∷ length ids ∷ 0 ∷ 0 ∷ 0 ∷ [])
    ++ (0 ∷ 0 ∷ le 2 ship) ++ (0 ∷ 0 ∷ le 2 character) ++ (0 ∷ 0 ∷ le 2 item)
    ++ words ids ++ replicate (8 * length ids) 0

abbrev pub SIZES : List Case
SIZES =
    -- one byte short, and one too many
    list_refuses bare [] 4
    ∷ list_refuses bare (replicate 35 0) 4
    ∷ list_refuses small (take 80 fitted) 4
    ∷ list_refuses small (fitted ++ (0 ∷ [])) 4
    -- counts of the ship, the character and the items add up to A
    ∷ list_gives bare (counted 1 0 0 (5 ∷ []))
    ∷ list_gives bare (counted 0 1 0 (5 ∷ []))
    ∷ list_gives bare (counted 0 0 1 (5 ∷ []))
    ∷ list_refuses bare (counted 0 0 0 (5 ∷ [])) 4
    ∷ list_refuses bare (counted 1 0 1 (5 ∷ [])) 4
    ∷ list_refuses bare (counted 0 1 0 []) 4
    -- a count has 16 bits
    ∷ list_refuses bare (counted 257 0 0 (5 ∷ [])) 4
    ∷ []

-- ---- 5: the fit's ids
-- two skills, at level 0
abbrev skilled : ℕ → ℕ → List ℕ
skilled a b = words (2 ∷ 0 ∷ 0 ∷ 0 ∷ 0 ∷ 0 ∷ 0 ∷ a ∷ b ∷ []) ++ replicate 10 0

-- ids that ascend strictly, -1 before 0, and that do not
abbrev ascend : (List ℕ → List ℕ) → List Case
ascend image =
    list_gives bare (image (5 ∷ 6 ∷ []))
    ∷ list_refuses bare (image (5 ∷ 5 ∷ [])) 5
    ∷ list_refuses bare (image (6 ∷ 5 ∷ [])) 5
    ∷ list_gives bare (image (0xFFFFFFFF ∷ 0 ∷ []))
    ∷ list_refuses bare (image (0 ∷ 0xFFFFFFFF ∷ [])) 5
    ∷ []

abbrev pub IDS : List Case
IDS =
    -- skills; their levels have no order
    list_refuses bare (skilled 9 9) 5
    ∷ list_gives bare (skilled 0xFFFFFFFF 0)
    ∷ list_refuses bare (skilled 0 0xFFFFFFFF) 5
    ∷ list_refuses bare (words (3 ∷ 0 ∷ 0 ∷ 0 ∷ 0 ∷ 0 ∷ 0 ∷ 1 ∷ 3 ∷ 2 ∷ []) ++ replicate 11 0) 5
    ∷ list_gives bare (words (2 ∷ 0 ∷ 0 ∷ 0 ∷ 0 ∷ 0 ∷ 0 ∷ 4 ∷ 9 ∷ []) ++ (5 ∷ 3 ∷ replicate 8 0))
    -- attributes of the ship, of the character, and of an item's result, which needs no item
    ∷ ascend (counted 2 0 0)
    ++ ascend (counted 0 2 0)
    ++ ascend (counted 0 0 2)
    -- from one result to the next they may repeat and fall
    ++ list_gives bare (counted 1 1 1 (9 ∷ 9 ∷ 4 ∷ []))
    ∷ list_gives bare (counted 2 2 2 (5 ∷ 6 ∷ 5 ∷ 6 ∷ 1 ∷ 9 ∷ []))
    ∷ list_refuses bare (counted 2 2 2 (5 ∷ 6 ∷ 5 ∷ 6 ∷ 9 ∷ 1 ∷ [])) 5
    ∷ []

-- ---- 6: the fit's fields
-- three results, each by its state and the byte behind that; no items, no attributes
abbrev stated : (ship ship_zero character character_zero item item_zero : ℕ) → List ℕ
stated s z s' z' s'' z'' = words (0 ∷ 0 ∷ 1 ∷ 0 ∷ 0 ∷ 0 ∷ 0 ∷ []) ++ (s ∷ z ∷ 0 ∷ 0 ∷ s' ∷ z' ∷ 0 ∷ 0 ∷ s'' ∷ z'' ∷ 0 ∷ 0 ∷ [])

-- a mode flag and a mode
abbrev moded : ℕ → ℕ → List ℕ
moded flag mode = words (0 ∷ 0 ∷ 0 ∷ 0 ∷ 0 ∷ flag ∷ mode ∷ []) ++ replicate 8 0

-- two items in High slots; the second's slot kind, zero byte and index
abbrev second : ℕ → ℕ → ℕ → List ℕ
second slot pad index =
    words (0 ∷ 2 ∷ 0 ∷ 0 ∷ 0 ∷ 0 ∷ 0 ∷ []) ++ replicate 12 0 ++ replicate 8 0 ++ (slot ∷ pad ∷ le 2 index) ++ replicate 8 0

abbrev pub RANGES : List Case
RANGES =
    -- states 0 to 3 of the character and of an item
    list_gives bare (stated 0 0 3 0 3 0)
    ∷ list_refuses bare (stated 0 0 4 0 0 0) 6
    ∷ list_refuses bare (stated 0 0 0 0 4 0) 6
    ∷ list_refuses bare (stated 255 0 0 0 0 0) 6
    -- the byte behind a state
    ∷ list_refuses bare (stated 0 1 0 0 0 0) 6
    ∷ list_refuses bare (stated 0 0 0 1 0 0) 6
    ∷ list_refuses bare (stated 0 0 0 0 0 1) 6
    -- slot kinds 0 to 11, each at index 0
    ∷ map (λ slot. list_gives bare (holding slot 0 0)) (from 0 12)
    ++ list_refuses bare (holding 255 0 0) 6
    -- indices to 255 in racks and tubes, to 65,535 for a booster
    ∷ map (λ slot. list_gives bare (holding slot 0 255)) (from 0 7)
    ++ map (λ slot. list_refuses bare (holding slot 0 256) 6) (from 0 7)
    ++ list_gives bare (holding 9 0 65535)
    -- of a bay and the hold none but 0
    ∷ list_refuses bare (holding 7 0 256) 6
    ∷ list_refuses bare (holding 10 0 256) 6
    ∷ list_refuses bare (holding 11 0 256) 6
    -- the second item's
    ∷ list_gives bare (second 11 0 0)
    ∷ list_refuses bare (second 12 0 0) 6
    ∷ list_refuses bare (second 0 255 0) 6
    ∷ list_refuses bare (second 0 0 256) 6
    -- the mode flag and the mode
    ∷ list_refuses bare (moded 0xFFFFFFFF 0) 6
    ∷ list_refuses bare (moded 0 0xFFFFFFFF) 6
    ∷ list_gives bare (moded 1 0)
    ∷ list_gives bare (moded 1 0xFFFFFFFF)
    -- ids, levels, quantities and bits of f64 are any: ship -1; skill -1 at 255; an item of type -1, none of it and 4,294,967,295; a NaN
    ∷ list_gives bare (words (1 ∷ 0 ∷ 0 ∷ 0 ∷ 0xFFFFFFFF ∷ 0 ∷ 0 ∷ 0xFFFFFFFF ∷ []) ++ (255 ∷ replicate 8 0))
    ∷ list_gives bare
    (words (0 ∷ 2 ∷ 0 ∷ 0 ∷ 0 ∷ 0 ∷ 0 ∷ []) ++ words (0xFFFFFFFF ∷ 0xFFFFFFFF ∷ 0 ∷ 0xFFFFFFFF ∷ 0 ∷ 0 ∷ []) ++ replicate 8 0)
    ∷ list_gives bare
    (words (0 ∷ 0 ∷ 0 ∷ 1 ∷ 0 ∷ 0 ∷ 0 ∷ []) ++ (0 ∷ 0 ∷ 1 ∷ 0 ∷ replicate 4 0) ++ words (0xFFFFFFFF ∷ 0 ∷ 0x7FF80000 ∷ []))
    ∷ []

-- ---- 7, which is given no more: launched drones
-- so many in two stacks in the drone bay of a ship, each in a state; type 9 is no drone
abbrev launching : (ship : ℕ) → (a a_state b b_state : ℕ) → List ℕ
launching ship a s b s' =
    words (0 ∷ 2 ∷ 2 ∷ 0 ∷ ship ∷ 0 ∷ 0 ∷ [])
    ++ words (9 ∷ a ∷ 10 ∷ 9 ∷ b ∷ 10 ∷ [])
    ++ replicate 8 0 ++ (s ∷ 0 ∷ 0 ∷ 0 ∷ s' ∷ 0 ∷ 0 ∷ 0 ∷ [])

-- their list: so many drones of 0, and that neither stack is of drones
abbrev no_drones : List ℕ
no_drones = words (0x00000501 ∷ 0 ∷ 0 ∷ 0 ∷ 0 ∷ 0 ∷ []) ++ words (0x00000501 ∷ 1 ∷ 0 ∷ 0 ∷ 0 ∷ 0 ∷ [])

abbrev launched : (low high : ℕ) → List ℕ
launched low high = words (0x00050100 ∷ 0 ∷ low ∷ high ∷ 0 ∷ 0 ∷ []) ++ no_drones

-- type 1, a ship, type 9, and no names
abbrev nameless : List ℕ
nameless = words (0 ∷ 0 ∷ 2 ∷ 0 ∷ 0 ∷ 1 ∷ 9 ∷ 25 ∷ 6 ∷ 0 ∷ 0 ∷ 50 ∷ 7 ∷ 0 ∷ 0 ∷ [])

abbrev pub DRONES : List Case
DRONES =
    -- two active stacks, 4,294,967,295 and 1: 4,294,967,296.0 of 0; 7 before
    (ListCall small (launching 1 4294967295 2 1 2) (replicate 72 7), Returns 3 (launched 0 0x41F00000))
    ∷ (ListCall small (launching 1 2147483648 3 2147483648 2) (replicate 72 7), Returns 3 (launched 0 0x41F00000))
    ∷ (ListBefore small (launching 1 4294967295 2 1 2) (replicate 72 7), Returns (7 * 4294967296) (replicate 72 7))
    -- a hall counts it as faulted
    ∷ (HallCall small (words (1 ∷ 68 ∷ []) ++ launching 1 4294967295 2 1 2), Number 256)
    -- one less: 4,294,967,295.0 of 0
    ∷ (ListCall small (launching 1 4294967294 2 1 2) (replicate 72 7), Returns 3 (launched 0xFFE00000 0x41EFFFFF))
    ∷ (ListBefore small (launching 1 4294967294 2 1 2) (replicate 72 7), Returns 3 (launched 0xFFE00000 0x41EFFFFF))
    -- a stack that is not active; the name is not there; no hull: 7 was not asked
    ∷ (ListCall small (launching 1 4294967295 2 1 1) (replicate 72 7), Returns 3 (launched 0xFFE00000 0x41EFFFFF))
    ∷ (ListBefore small (launching 1 4294967295 2 1 1) (replicate 72 7), Returns 3 (launched 0xFFE00000 0x41EFFFFF))
    ∷ (ListCall nameless (launching 1 4294967295 2 1 2) (replicate 48 7), Returns 2 no_drones)
    ∷ (ListBefore nameless (launching 1 4294967295 2 1 2) (replicate 48 7), Returns 2 no_drones)
    ∷ list_gives small (launching 0 4294967295 2 1 2)
    ∷ (ListBefore bare (launching 1 4294967295 2 1 2) (replicate 24 7), Returns 1 (0 ∷ 19 ∷ replicate 22 0))
    -- 6 before it, 10 as ever
    ∷ list_refuses small (launching 1 4294967295 4 1 2) 6
    ∷ (ListCall small (launching 1 4294967295 2 1 2) (replicate 71 7), Returns (10 * 4294967296) (replicate 71 7))
    ∷ (ListBefore small (launching 1 4294967295 2 1 2) [], Returns (7 * 4294967296) [])
    -- a skill call launches nothing
    ∷ (SkillCall small (launching 1 4294967295 2 1 2) 0 [], Returns 0 [])
    ∷ []

-- ---- 8: the result number
abbrev skill_refuses : List ℕ → List ℕ → ℕ → ℕ → Case
skill_refuses catalogue fit n number = (SkillCall catalogue fit n (replicate 30 7), Returns (number * 4294967296) (replicate 30 7))

abbrev pub NUMBERS : List Case
NUMBERS =
    -- R = 1
    skill_refuses small fitted 3 8
    ∷ skill_refuses small fitted 4294967295 8
    -- an item without a result has no number
    ∷ skill_refuses bare (holding 0 0 0) 2 8
    -- a result without an item has one
    ∷ (SkillCall bare (stated 0 0 0 0 0 0) 2 [], Returns 0 [])
    ∷ skill_refuses bare (stated 0 0 0 0 0 0) 3 8
    ∷ []

-- ---- 10: the buffer
abbrev pub BUFFERS : List Case
BUFFERS =
    (ListCall bare empty [], Returns (10 * 4294967296) [])
    ∷ (ListCall bare empty (replicate 24 7), Returns 1 (0 ∷ 19 ∷ replicate 22 0))
    -- two entries
    ∷ (ListCall small fitted (replicate 47 7), Returns (10 * 4294967296) (replicate 47 7))
    ∷ (
      ListCall small fitted (replicate 48 7),
      Returns 2 (words (0x00001500 ∷ 0 ∷ 9 ∷ 0 ∷ 0 ∷ 0 ∷ []) ++ words (0x00010301 ∷ 0 ∷ 0 ∷ 0 ∷ 0 ∷ 0 ∷ [])),
    )
    -- a skill call's one entry
    ∷ (SkillCall small fitted 2 (replicate 23 7), Returns (10 * 4294967296) (replicate 23 7))
    ∷ (SkillCall small fitted 2 (replicate 24 7), Returns 1 (words (0x00000B01 ∷ 0 ∷ 8 ∷ 2 ∷ 0 ∷ 0 ∷ [])))
    ∷ []

-- ---- the order: two at once, each with the next
-- 7 stands above with its neighbours, 9 with 10 among the large ones. Where 8 holds there is no result, and neither 9 nor 10 does.
abbrev pub FIRSTS : List Case
FIRSTS =
    -- 1 and 2, 2 and 3, 3 and 4
    list_refuses (types_at 5 5 ++ (0 ∷ [])) empty 1
    ∷ list_refuses (names 88 88) empty 2
    ∷ list_refuses (names 0 88) (replicate 37 0) 3
    -- 4 and 5, 5 and 6
    ∷ list_refuses bare (skilled 9 4 ++ (0 ∷ [])) 4
    ∷ list_refuses bare (words (2 ∷ 0 ∷ 0 ∷ 0 ∷ 0 ∷ 2 ∷ 0 ∷ 9 ∷ 4 ∷ []) ++ replicate 10 0) 5
    -- 6 and 8
    ∷ skill_refuses bare (moded 2 0) 2 6
    -- 1 and 4 of a catalogue and a fit of no bytes, 1 and 8
    ∷ list_refuses [] [] 1
    ∷ skill_refuses [] empty 2 1
    -- 6 and 10
    ∷ (ListCall bare (moded 2 0) [], Returns (6 * 4294967296) [])
    ∷ []

-- ---- the large ones: conditions of images and of walks that are too long to be written out
-- so many links, and one type or none; a catalogue's length is a multiple of 4, so that 16,777,220 is the next above 16,777,216
abbrev pub linked : (links types : ℕ) → List ℕ
linked l t = blocks 0 0 t l 0 (20 * t + 8 * l)

-- the ship has so many attributes
abbrev pub laden : ℕ → List ℕ
laden n = words (0 ∷ 0 ∷ 0 ∷ n ∷ 0 ∷ 0 ∷ 0 ∷ []) ++ (0 ∷ 0 ∷ le 2 n ++ replicate 4 0) ++ replicate (12 * n) 0

-- a chain of so many skills: 0 demands 1 at level 1, and so on
abbrev pub step : ℕ → List Base
step i = base i required_skill1 (i + 1) ∷ base i required_skill1_level 1 ∷ []

abbrev pub chain : ℕ → Catalogue
chain n = tree (each (from 0 (n - 1)) step)

-- the ship's result, and skill ids, all trained to 3
abbrev pub flown : Result → List Id → Fit
flown r ids = record {
  frame = record { ship = ship; mode_flag = 0; mode = pos 0; ship_result = r; character_result = result 0 [] };
  skills = ids;
  levels = map (λ _. 3) ids;
  items = [];
  results = [];
}

-- what the ship, the character and some results want; there is no item
abbrev pub crewed : (ship character : Result) → List Result → Fit
crewed r s rs = record {
  frame = record { ship = ship; mode_flag = 0; mode = pos 0; ship_result = r; character_result = s };
  skills = [];
  levels = [];
  items = [];
  results = rs;
}

abbrev pub LARGE : List Case
LARGE =
    -- 1: 16,777,216 bytes, and 16,777,220
    (BadLength (linked 2097147 1), Holds false)
    ∷ (BadLength (linked 2097150 0), Holds true)
    -- 4: A = 30,000, and 30,001
    ∷ (BadSize (laden 30000), Holds false)
    ∷ (BadSize (laden 30001), Holds true)
    -- 9: a chain of 513, with no buffer; 10: one of 512, whose entries take 12,288 bytes
    ∷ (SkillRefusal main (chain 513) (flown (asks 0 1) []) 0 [], Number 9)
    ∷ (SkillRefusal main (chain 512) (flown (asks 0 1) []) 0 (replicate 12287 7), Number 10)
    ∷ (SkillRefusal main (chain 512) (flown (asks 0 1) []) 0 (replicate 12288 7), Number 0)
    -- 9 of a trim: a chain of 512, wanted by all; one of 513, by the ship, by the character, by a result that no item has
    ∷ (TrimRefusal (chain 512) (crewed (asks 0 1) (asks 0 1) (asks 0 1 ∷ [])), Number 0)
    ∷ (TrimRefusal (chain 513) (crewed (asks 0 1) (result 0 []) []), Number 9)
    ∷ (TrimRefusal (chain 513) (crewed (result 0 []) (asks 0 1) []), Number 9)
    ∷ (TrimRefusal (chain 513) (crewed (result 0 []) (result 0 []) (asks 0 1 ∷ [])), Number 9)
    ∷ []

-- ---- zeros
-- one name has an id
abbrev named : ℕ → List Name
named n = record { number = n; id = attribute n } ∷ []

-- a gun whose attribute of a name is 0
abbrev listing : ℕ → List Thing
listing name = one gun 0 0 (has name (of_nat 0) ∷ []) ∷ []

-- type 0 of group 0 and a category, marked for a Medium slot by effect 0; the ship; the gun
abbrev nought : ℕ → List Name → Catalogue
nought category names = record {
  names = names;
  effects = record { id = pos 0; mark = 2 } ∷ [];
  types = typed 0 0 category ∷ typed 1 25 6 ∷ typed 10 50 7 ∷ [];
  links = record { type = pos 0; effect = pos 0 } ∷ [];
  bases = [];
}

abbrev pub ZEROS : List Case
ZEROS =
    -- `wanted_skills`: an amount of 0 asks for skill 0, and so do -0 and a NaN, which are cast to it; no amount asks for none
    (Wants (tree []) (asks 0 3), Demands ((pos 0, 3) ∷ []))
    ∷ (Wants (tree []) (asks_for (fin true 0 (pos 0)) 3), Demands ((pos 0, 3) ∷ []))
    ∷ (Wants (tree []) (asks_for nan 3), Demands ((pos 0, 3) ∷ []))
    ∷ (Wants (tree []) (result 0 (has required_skill1_level (of_nat 3) ∷ [])), Demands [])
    -- skill 0 is walked, and a base value of 0 asks for it
    ∷ (Wants (tree (base 0 required_skill1 7 ∷ base 0 required_skill1_level 2 ∷ [])) (asks 0 3), Demands ((pos 0, 3) ∷ (pos 7, 2) ∷ []))
    ∷ (Wants (tree (base 7 required_skill1 0 ∷ base 7 required_skill1_level 4 ∷ [])) (asks 7 1), Demands ((pos 7, 1) ∷ (pos 0, 4) ∷ []))
    -- `report`: skill 0 untrained, trained to 3, trained far enough
    ∷ (Skilled (tree []) (flown (asks 0 4) []) 0, Entries (on_ship (Skill (pos 0) 4 0) ∷ []))
    ∷ (Skilled (tree []) (flown (asks 0 4) (pos 0 ∷ [])) 0, Entries (on_ship (Skill (pos 0) 4 3) ∷ []))
    ∷ (Skilled (tree []) (flown (asks 0 3) (pos 0 ∷ [])) 0, Entries [])
    -- a skill wanted at level 0 is not listed, what it demands is
    ∷ (Skilled (tree []) (flown (asks 5 0) []) 0, Entries [])
    ∷ (
      Skilled (tree (base 5 required_skill1 6 ∷ base 5 required_skill1_level 1 ∷ [])) (flown (asks 5 0) []) 0,
      Entries (on_ship (Skill (pos 6) 1 0) ∷ []),
    )
    -- `is_skill` and `is_hull` of type 0
    ∷ (Fitted (nought 16 []) (flown (result 0 []) (pos 0 ∷ [])), Entries [])
    ∷ (Fitted (nought 7 []) (flown (result 0 []) (pos 0 ∷ [])), Entries (on_ship (NotASkill (pos 0)) ∷ []))
    ∷ (Fitted (nought 6 []) (fit (pos 0) [] []), Entries [])
    ∷ (Fitted (nought 7 []) (fit (pos 0) [] []), Entries (on_ship NotAHull ∷ []))
    -- the ship's type 0 and group 0, listed; group 0, which is not that of the other ship
    ∷ (Fitted (nought 6 (named fits_to_ship_type)) (fit (pos 0) [] (listing fits_to_ship_type)), Entries [])
    ∷ (Fitted (nought 6 (named can_fit_ship_group01)) (fit (pos 0) [] (listing can_fit_ship_group01)), Entries [])
    ∷ (Fitted (nought 6 (named can_fit_ship_group01)) (fit ship [] (listing can_fit_ship_group01)), Entries (on_item 0 ShipRestricted ∷ []))
    -- of group 0 are type 0 and a type that is not there
    ∷ (
      Fitted (nought 7 (named max_group_fitted))
          (fit ship [] (one (pos 0) 1 0 (has max_group_fitted (of_nat 1) ∷ []) ∷ one unknown 0 0 [] ∷ [])),
      Entries (on_item 1 NotAModule ∷ on_item 0 (MaxGroup (pos 0) Fitted 2 1) ∷ on_item 1 (UnknownType unknown) ∷ []),
    )
    -- two of type 0; effect 0; attribute 0, whose name has that id
    ∷ (
      Fitted (nought 7 (named max_type_fitted))
          (fit ship [] (one (pos 0) 1 0 (has max_type_fitted (of_nat 1) ∷ []) ∷ one (pos 0) 1 1 [] ∷ [])),
      Entries (on_item 0 (MaxType (pos 0) 2 1) ∷ []),
    )
    ∷ (Fitted (nought 7 []) (fit ship [] (one (pos 0) 0 0 [] ∷ [])), Entries (on_item 0 (WrongSlot Medium) ∷ []))
    ∷ (
      Fitted (nought 7 (record { number = max_type_fitted; id = pos 0 } ∷ []))
          (fit ship [] (one gun 0 0 (record { id = pos 0; value = of_nat 0 } ∷ []) ∷ [])),
      Entries (on_item 0 (MaxType gun 1 0) ∷ []),
    )
    ∷ []
