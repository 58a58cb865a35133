-- Cases of document 02, P1: what the trimming call keeps of a catalogue, byte for byte, and what refuses it.
use Rattle.std.specs.Prelude.{ℕ, ◌+◌, ◌*◌, ◌-◌, cond, List, [], ◌∷◌, ◌++◌, map, eqb, length, drop, set, replicate}
use Rattle.words.specs.Words.{each, sum_of}
use Rattle.promises.specs.Cases.{TrimCall, Returns, Case}
use Rattle.promises.specs.CallCases.{words, bare}

-- ---- images
-- a type and its category; a link's type and effect; a base's type and attribute, and the two halves of its value
abbrev Types : Type 0
Types = List (ℕ × ℕ)

abbrev Links : Type 0
Links = List (ℕ × ℕ)

abbrev Bases : Type 0
Bases = List (ℕ × ℕ × ℕ × ℕ)

-- a category's volume: flag 1 and a NaN with a sign and a payload for ammunition, 8; for every other flag 0, and under it the bits of a NaN
abbrev volume : ℕ → List ℕ
volume category = cond (eqb category 8) (1 ∷ 0xFFC00123 ∷ []) (0 ∷ 0x7FC00001 ∷ [])

-- names 76 and 77, a skill and its level, with the attributes 4 and 5; effect 3, the Medium slot. A type's group is 100 above its category
abbrev pub holding : Types → Links → Bases → List ℕ
holding types links bases =
    words (2 ∷ 1 ∷ length types ∷ length links ∷ length bases ∷ [])
    ++ words (76 ∷ 77 ∷ 4 ∷ 5 ∷ [])
    ++ words (3 ∷ 2 ∷ [])
    ++ words (map (λ t. t.0) types)
    ++ words (each types λ t. (100 + t.1) ∷ t.1 ∷ volume t.1)
    ++ words (map (λ l. l.0) links)
    ++ words (map (λ l. l.1) links)
    ++ words (map (λ x. x.0) bases)
    ++ words (each bases λ x. x.1 ∷ x.2 ∷ x.3 ∷ [])

-- a result's attributes: each id, and the upper half of its value
abbrev Attributes : Type 0
Attributes = List (ℕ × ℕ)

-- ship 1, a mode under its flag, skills at level 0, items with their slots, and the results, of which the first two are the ship's and the
-- character's
abbrev naming : (flag mode : ℕ) (skills : List ℕ) (items : List (ℕ × ℕ)) (results : List Attributes) → List ℕ
naming flag mode skills items results =
    words (length skills ∷ length items ∷ (length results - 2) ∷ sum_of length results ∷ 1 ∷ flag ∷ mode ∷ [])
    ++ words skills ++ replicate (length skills) 0
    ++ each items (λ i. words (i.0 ∷ 1 ∷ i.1 ∷ []))
    ++ each results (λ r. 0 ∷ 0 ∷ length r ∷ 0 ∷ [])
    ++ words (each results λ r. map (λ x. x.0) r)
    ++ words (each results λ r. each r λ x. 0 ∷ x.1 ∷ [])

-- it wants a skill at a level: the upper halves of two f64
abbrev wants : (skill level : ℕ) → Attributes
wants skill level = (4, skill) ∷ (5, level) ∷ []

-- ---- one catalogue
-- what stands under an id is in no order, and stands there twice: links of type 9, of which one names the effect; bases of 20, alike
abbrev pub nine : Links
nine = (9, 4) ∷ (9, 3) ∷ (9, 4) ∷ (9, 4) ∷ []

abbrev pub twenty : Bases
twenty = (20, 6, 2, 3) ∷ (20, 6, 2, 3) ∷ []

-- skill 15, which has no type, wants skill 21 at 5; another of its values, which stands first, is a NaN with a sign and a payload
abbrev pub fifteen : Bases
fifteen = (15, 6, 1, 0xFFF40001) ∷ (15, 4, 0, 0x40350000) ∷ (15, 5, 0, 0x40140000) ∷ []

-- the ship has a link and a base too
abbrev pub WHOLE : List ℕ
WHOLE =
    holding ((0, 7) ∷ (1, 6) ∷ (9, 7) ∷ (12, 8) ∷ (13, 7) ∷ (16, 16) ∷ (20, 16) ∷ (21, 16) ∷ (22, 16) ∷ [])
    (((0, 3) ∷ (1, 4) ∷ []) ++ nine ++ (13, 3) ∷ (15, 3) ∷ [])
    (((0, 4, 0, 0) ∷ (1, 6, 4, 5) ∷ (13, 4, 0, 0) ∷ []) ++ fifteen ++ twenty ++ (22, 6, 0, 0) ∷ [])

-- skill 20 is listed; items 9, in a High slot, and 12, in the hold, of which the first has a result; the ship wants 16 at 0, the character
-- 15 at 1, the item nothing
abbrev pub FLOWN : List ℕ
FLOWN = naming 0 0 (20 ∷ []) ((9, 0) ∷ (12, 11) ∷ []) (wants 0x40300000 0 ∷ wants 0x402E0000 0x3FF00000 ∷ [] ∷ [])

-- what that touches of some types: links and bases of the ship, of 9, of 20, and of 15, by way of which 21 is wanted
abbrev pub touching : Types → List ℕ
touching types = holding types (((1, 4) ∷ []) ++ nine ++ (15, 3) ∷ []) (((1, 6, 4, 5) ∷ []) ++ fifteen ++ twenty)

-- the ship, the items, 16, 20 and 21
abbrev pub SMALL : List ℕ
SMALL = touching ((1, 6) ∷ (9, 7) ∷ (12, 8) ∷ (16, 16) ∷ (20, 16) ∷ (21, 16) ∷ [])

-- the same, but that the ship has no type
abbrev pub SHIPLESS : List ℕ
SHIPLESS = touching ((9, 7) ∷ (12, 8) ∷ (16, 16) ∷ (20, 16) ∷ (21, 16) ∷ [])

-- a ship that is no hull, beside a mode, an item, a skill that is listed and one that is wanted
abbrev MOORED : List ℕ
MOORED = holding ((1, 7) ∷ (9, 7) ∷ (13, 7) ∷ (20, 16) ∷ (22, 16) ∷ []) ((9, 3) ∷ (13, 3) ∷ []) ((20, 6, 2, 3) ∷ (22, 6, 0, 0) ∷ [])

-- ship 1 demands skill 20 at 1, type 9 skill 21 at 1
abbrev demanding : Bases
demanding = (1, 4, 0, 0x40340000) ∷ (1, 5, 0, 0x3FF00000) ∷ (9, 4, 0, 0x40350000) ∷ (9, 5, 0, 0x3FF00000) ∷ []

-- so many bytes are lent; those behind the catalogue stay
abbrev gives : (catalogue fit : List ℕ) (lent : ℕ) (small : List ℕ) → Case
gives catalogue fit lent small =
    (TrimCall catalogue fit (replicate lent 7), Returns (length small) (small ++ drop (length small) (replicate lent 7)))

abbrev refuses : (catalogue fit : List ℕ) (lent n : ℕ) → Case
refuses catalogue fit lent n = (TrimCall catalogue fit (replicate lent 7), Returns (n * 4294967296) (replicate lent 7))

abbrev pub TRIMMED : List Case
TRIMMED =
    -- 308 bytes of 432: 44 of sizes, names and effects, 20 for each of 6 types, 8 for each of 6 links, 16 for each of 6 bases. As many are
    -- enough; and what is trimmed stays as it is
    gives WHOLE FLOWN 400 SMALL
    ∷ gives WHOLE FLOWN 308 SMALL
    ∷ gives SMALL FLOWN 400 SMALL
    -- nothing wanted: the ship and the items, one of them twice; no item has a result
    ∷ gives WHOLE (naming 0 0 [] ((9, 0) ∷ (12, 11) ∷ (9, 1) ∷ []) ([] ∷ [] ∷ [])) 400
    (holding ((1, 6) ∷ (9, 7) ∷ (12, 8) ∷ []) (((1, 4) ∷ []) ++ nine) ((1, 6, 4, 5) ∷ []))
    -- mode 13 under flag 1; mode 0 under flag 1, and under flag 0
    ∷ gives WHOLE (naming 1 13 [] [] ([] ∷ [] ∷ [])) 400
    (holding ((1, 6) ∷ (13, 7) ∷ []) ((1, 4) ∷ (13, 3) ∷ []) ((1, 6, 4, 5) ∷ (13, 4, 0, 0) ∷ []))
    ∷ gives WHOLE (naming 1 0 [] [] ([] ∷ [] ∷ [])) 400
    (holding ((0, 7) ∷ (1, 6) ∷ []) ((0, 3) ∷ (1, 4) ∷ []) ((0, 4, 0, 0) ∷ (1, 6, 4, 5) ∷ []))
    ∷ gives WHOLE (naming 0 0 [] [] ([] ∷ [] ∷ [])) 400 (holding ((1, 6) ∷ []) ((1, 4) ∷ []) ((1, 6, 4, 5) ∷ []))
    -- a listed skill, at level 0; one whose type is no skill
    ∷ gives WHOLE (naming 0 0 (22 ∷ []) [] ([] ∷ [] ∷ [])) 400
    (holding ((1, 6) ∷ (22, 16) ∷ []) ((1, 4) ∷ []) ((1, 6, 4, 5) ∷ (22, 6, 0, 0) ∷ []))
    ∷ gives WHOLE (naming 0 0 (13 ∷ []) [] ([] ∷ [] ∷ [])) 400
    (holding ((1, 6) ∷ (13, 7) ∷ []) ((1, 4) ∷ (13, 3) ∷ []) ((1, 6, 4, 5) ∷ (13, 4, 0, 0) ∷ []))
    -- a skill wanted at 0 by a result that no item has; one that is wanted by way of another; one that nothing in the catalogue is about
    ∷ gives WHOLE (naming 0 0 [] [] ([] ∷ [] ∷ wants 0x40360000 0 ∷ [])) 400
    (holding ((1, 6) ∷ (22, 16) ∷ []) ((1, 4) ∷ []) ((1, 6, 4, 5) ∷ (22, 6, 0, 0) ∷ []))
    ∷ gives WHOLE (naming 0 0 [] [] ([] ∷ [] ∷ wants 0x402E0000 0 ∷ [])) 400
    (holding ((1, 6) ∷ (21, 16) ∷ []) ((1, 4) ∷ (15, 3) ∷ []) (((1, 6, 4, 5) ∷ []) ++ fifteen))
    ∷ gives WHOLE (naming 0 0 [] [] ([] ∷ [] ∷ wants 0x40590000 0x3FF00000 ∷ [])) 400
    (holding ((1, 6) ∷ []) ((1, 4) ∷ []) ((1, 6, 4, 5) ∷ []))
    -- an item without a type, by its link and its bases; the skill that its bases name is nothing that it wants
    ∷ gives WHOLE (naming 0 0 [] ((15, 0) ∷ []) ([] ∷ [] ∷ [])) 400
    (holding ((1, 6) ∷ []) ((1, 4) ∷ (15, 3) ∷ []) (((1, 6, 4, 5) ∷ []) ++ fifteen))
    -- ids below zero stand first: item -2, skill -3
    ∷ gives (holding ((0xFFFFFFFE, 7) ∷ (1, 6) ∷ (2, 7) ∷ []) ((0xFFFFFFFD, 3) ∷ (0xFFFFFFFE, 3) ∷ (2, 3) ∷ []) [])
    (naming 0 0 [] ((0xFFFFFFFE, 0) ∷ []) (wants 0xC0080000 0 ∷ [] ∷ [])) 400
    (holding ((0xFFFFFFFE, 7) ∷ (1, 6) ∷ []) ((0xFFFFFFFD, 3) ∷ (0xFFFFFFFE, 3) ∷ []) [])
    -- no records; none that are touched
    ∷ gives bare FLOWN 20 bare
    ∷ gives (holding ((2, 7) ∷ []) ((2, 3) ∷ []) ((2, 4, 0, 0) ∷ [])) FLOWN 400 (holding [] [] [])
    -- on a ship that has no type, and on one that is no hull, no less is kept
    ∷ gives SHIPLESS FLOWN 400 SHIPLESS
    ∷ gives MOORED (naming 1 13 (20 ∷ []) ((9, 0) ∷ []) (wants 0x40360000 0 ∷ [] ∷ [])) 400 MOORED
    -- 10: a byte less than it takes, none
    ∷ refuses WHOLE FLOWN 307 10
    ∷ refuses bare FLOWN 0 10
    -- the first that holds: 1 of 1, 5 and 10; 2 of 2, 5 and 10; 5 of 5 and 10
    ∷ refuses (replicate 3 0) (naming 0 0 (20 ∷ 20 ∷ []) [] ([] ∷ [] ∷ [])) 0 1
    ∷ refuses (holding ((2, 7) ∷ (1, 6) ∷ []) [] []) (naming 0 0 (20 ∷ 20 ∷ []) [] ([] ∷ [] ∷ [])) 0 2
    ∷ refuses WHOLE (naming 0 0 (20 ∷ 20 ∷ []) [] ([] ∷ [] ∷ [])) 0 5
    -- the skills that the bases of a ship and of an item demand, where no result wants them: neither is kept, though the item has a result
    ∷ gives (holding ((1, 6) ∷ (9, 7) ∷ (20, 16) ∷ (21, 16) ∷ []) [] demanding) (naming 0 0 [] ((9, 0) ∷ []) ([] ∷ [] ∷ [] ∷ [])) 400
    (holding ((1, 6) ∷ (9, 7) ∷ []) [] demanding)
    -- an item of quantity 0, byte 32, that has no result
    ∷ gives WHOLE (set (naming 0 0 [] ((9, 0) ∷ []) ([] ∷ [] ∷ [])) 32 0) 400
    (holding ((1, 6) ∷ (9, 7) ∷ []) (((1, 4) ∷ []) ++ nine) ((1, 6, 4, 5) ∷ []))
    ∷ []
