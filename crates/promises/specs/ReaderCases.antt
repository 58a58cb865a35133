-- Cases of document 02, P14: who reads a list. What guests are not told, and where 19 and 20 stand among the other refusals.
use Rattle.std.specs.Prelude.{ℕ, ◌*◌, List, [], ◌∷◌, ◌++◌, map, replicate, pos}
use Rattle.catalogue.specs.Catalogue.{Id}
use Rattle.fit.specs.Fit.{Fit}
use Rattle.entry.specs.declared.Entry.{Entry}
use Rattle.entry.specs.declared.Rule.TheVariants.{NotAModule, NotAHull, NotAMode, NotASkill, Banned, Points, UnknownType}
use Rattle.entry.specs.Entries.{on_ship, on_item}
use Rattle.lists.specs.Terms.{Terms, terms, limited, read_by, main}
use Rattle.promises.specs.Cases.{ship, structure, gun, unknown, known, result, Thing, one}
use Rattle.promises.specs.Cases.{InLeague, LeagueCall, PageSkillCall, HallCall, Number, Entries, Returns, Case}
use Rattle.promises.specs.CallCases.{words, bare, small, empty, fitted, types_at, marked}
use Rattle.promises.specs.LeagueCases.{profile, ban, bad, dear}

-- ---- lists
-- a ship with a mode and skills that are none, and things
abbrev flown : Id → List Id → List Thing → Fit
flown hull skills things = record {
  frame = record { ship = hull; mode_flag = 1; mode = unknown; ship_result = result 0 []; character_result = result 0 [] };
  skills = skills;
  levels = map (λ _. 5) skills;
  items = map (λ t. t.0) things;
  results = map (λ t. t.1) things;
}

-- what a reader is told of it under a profile that bans group 50 and prices group 0 at 4, and allows 3
abbrev told : (reader : ℕ) → Id → List Id → List Thing → List Entry → Case
told reader hull skills things es =
    (InLeague (read_by reader (terms (profile ((0, 4) ∷ (50, ban) ∷ [])) 3)) (known []) (flown hull skills things), Entries es)

-- a gun, and a type that is missing
abbrev things : List Thing
things = one gun 0 0 [] ∷ one unknown 0 1 [] ∷ []

-- what stands behind the skills
abbrev rest : List Entry
rest = on_item 1 NotAModule ∷ on_item 0 (Banned (pos 50)) ∷ on_ship (Points 4 3) ∷ on_item 1 (UnknownType unknown) ∷ []

-- two skills that are missing
abbrev two : List Id
two = pos 98 ∷ unknown ∷ []

abbrev skills : List Entry
skills = on_ship (NotASkill (pos 98)) ∷ on_ship (NotASkill unknown) ∷ []

abbrev pub TOLD : List Case
TOLD =
    -- rule 21 alone is kept from guests: the mode, bans, points and missing types are not
    told 0 ship two things (on_ship NotAMode ∷ rest)
    ∷ told 1 ship two things ((on_ship NotAMode ∷ skills) ++ rest)
    ∷ told 2 ship two things ((on_ship NotAMode ∷ skills) ++ rest)
    -- whatever the skills are and however many
    ∷ told 0 ship [] things (on_ship NotAMode ∷ rest)
    ∷ told 0 ship (gun ∷ []) things (on_ship NotAMode ∷ rest)
    ∷ told 1 ship (gun ∷ []) things ((on_ship NotAMode ∷ on_ship (NotASkill gun) ∷ []) ++ rest)
    -- on a structure and in a container; a list that is NotAHull alone is all readers'
    ∷ told 0 structure two [] (on_ship NotAMode ∷ [])
    ∷ told 2 structure two [] (on_ship NotAMode ∷ skills)
    ∷ told 0 (pos 3) two [] (on_ship NotAMode ∷ [])
    ∷ told 1 (pos 3) two [] (on_ship NotAMode ∷ skills)
    ∷ told 0 gun two things (on_ship NotAHull ∷ [])
    ∷ told 2 gun two things (on_ship NotAHull ∷ [])
    ∷ []

-- ---- the calls
abbrev largest : ℕ
largest = 4294967295

-- the two entries of `fitted`: its skill, which is none, and its item in a wrong slot
abbrev skill : List ℕ
skill = words (0x00001500 ∷ 0 ∷ 9 ∷ 0 ∷ 0 ∷ 0 ∷ [])

abbrev slot : List ℕ
slot = words (0x00010301 ∷ 0 ∷ 0 ∷ 0 ∷ 0 ∷ 0 ∷ [])

-- it trained otherwise: no skill; skills 4 and 9 at 0 and 5
abbrev untrained : List ℕ
untrained =
    words (0 ∷ 1 ∷ 1 ∷ 2 ∷ 1 ∷ 0 ∷ 0 ∷ [])
    ++ words (9 ∷ 1 ∷ 0 ∷ [])
    ++ (0 ∷ 0 ∷ 1 ∷ 0 ∷ 0 ∷ 0 ∷ 0 ∷ 0 ∷ 1 ∷ 0 ∷ 1 ∷ 0 ∷ [])
    ++ words (7 ∷ 4 ∷ [])
    ++ words (0 ∷ 0x3FF00000 ∷ 0 ∷ 0x40220000 ∷ [])

abbrev trained : List ℕ
trained =
    words (2 ∷ 1 ∷ 1 ∷ 2 ∷ 1 ∷ 0 ∷ 0 ∷ [])
    ++ words (4 ∷ 9 ∷ []) ++ (0 ∷ 5 ∷ [])
    ++ words (9 ∷ 1 ∷ 0 ∷ [])
    ++ (0 ∷ 0 ∷ 1 ∷ 0 ∷ 0 ∷ 0 ∷ 0 ∷ 0 ∷ 1 ∷ 0 ∷ 1 ∷ 0 ∷ [])
    ++ words (7 ∷ 4 ∷ [])
    ++ words (0 ∷ 0x3FF00000 ∷ 0 ∷ 0x40220000 ∷ [])

-- ship 1 with a skill that is none, and nothing else
abbrev learning : List ℕ
learning = words (1 ∷ 0 ∷ 0 ∷ 0 ∷ 1 ∷ 0 ∷ 0 ∷ 9 ∷ []) ++ (5 ∷ []) ++ replicate 8 0

abbrev by : (reader : ℕ) → (fit : List ℕ) → (room count : ℕ) → (after : List ℕ) → Case
by reader fit room count after = (LeagueCall (read_by reader main) small fit (replicate room 7), Returns count after)

abbrev refuses : Terms → (catalogue fit : List ℕ) → ℕ → Case
refuses t catalogue fit n = (LeagueCall t catalogue fit (replicate 30 7), Returns (n * 4294967296) (replicate 30 7))

abbrev skill_refuses : Terms → (catalogue fit : List ℕ) → (result number : ℕ) → Case
skill_refuses t catalogue fit n number = (PageSkillCall t catalogue fit n (replicate 30 7), Returns (number * 4294967296) (replicate 30 7))

-- its one skill that is trained too low
abbrev lacking : List ℕ
lacking = words (0x00000B01 ∷ 0 ∷ 8 ∷ 2 ∷ 0 ∷ 0 ∷ [])

-- nobody, and a guest, on a page that takes no pair
abbrev nobody : Terms
nobody = limited 0 0 (read_by 3 (terms bad 0))

abbrev guest : Terms
guest = limited 0 0 (read_by 0 (terms bad 0))

-- with skills 9, 4; in a slot of kind 12
abbrev unsorted : List ℕ
unsorted = words (2 ∷ 1 ∷ 1 ∷ 0 ∷ 0 ∷ 0 ∷ 0 ∷ 9 ∷ 4 ∷ []) ++ replicate 26 0

abbrev misplaced : List ℕ
misplaced = words (0 ∷ 1 ∷ 1 ∷ 0 ∷ 0 ∷ 0 ∷ 0 ∷ 0 ∷ 0 ∷ 12 ∷ []) ++ replicate 12 0

abbrev pub READERS : List Case
READERS =
    -- a guest, a pilot, an officer
    by 0 fitted 50 1 (slot ++ replicate 26 7)
    ∷ by 1 fitted 50 2 (skill ++ slot ++ (7 ∷ 7 ∷ []))
    ∷ by 2 fitted 50 2 (skill ++ slot ++ (7 ∷ 7 ∷ []))
    -- 10 counts what the reader gets
    ∷ by 0 fitted 24 1 slot
    ∷ by 0 fitted 23 (10 * 4294967296) (replicate 23 7)
    ∷ by 1 fitted 24 (10 * 4294967296) (replicate 24 7)
    ∷ by 2 fitted 47 (10 * 4294967296) (replicate 47 7)
    ∷ by 2 fitted 48 2 (skill ++ slot)
    ∷ by 0 learning 0 0 []
    ∷ by 1 learning 0 (10 * 4294967296) []
    ∷ by 2 learning 24 1 skill
    -- other skills, more and none: a guest's calls leave the same, an officer's do not
    ∷ by 0 untrained 50 1 (slot ++ replicate 26 7)
    ∷ by 0 trained 50 1 (slot ++ replicate 26 7)
    ∷ by 0 trained 23 (10 * 4294967296) (replicate 23 7)
    ∷ by 2 untrained 50 1 (slot ++ replicate 26 7)
    ∷ by 2 trained 50 (10 * 4294967296) (replicate 50 7)
    -- 19: nobody's numbers, above each width
    ∷ by 3 fitted 50 (19 * 4294967296) (replicate 50 7)
    ∷ by 4 fitted 50 (19 * 4294967296) (replicate 50 7)
    ∷ by 255 fitted 50 (19 * 4294967296) (replicate 50 7)
    ∷ by 256 fitted 50 (19 * 4294967296) (replicate 50 7)
    ∷ by 257 fitted 50 (19 * 4294967296) (replicate 50 7)
    ∷ by 258 fitted 50 (19 * 4294967296) (replicate 50 7)
    ∷ by 65536 fitted 50 (19 * 4294967296) (replicate 50 7)
    ∷ by 65538 fitted 50 (19 * 4294967296) (replicate 50 7)
    ∷ by 2147483648 fitted 50 (19 * 4294967296) (replicate 50 7)
    ∷ by largest fitted 50 (19 * 4294967296) (replicate 50 7)
    -- before all others: 1 to 6, 13, 11, 12 and 10
    ∷ refuses nobody (replicate 3 0) fitted 19
    ∷ refuses nobody (types_at 5 5) fitted 19
    ∷ refuses nobody (marked 9) fitted 19
    ∷ refuses nobody bare (empty ++ (0 ∷ [])) 19
    ∷ refuses nobody bare unsorted 19
    ∷ refuses nobody bare misplaced 19
    ∷ refuses nobody small fitted 19
    ∷ refuses (read_by 3 (terms bad 0)) small fitted 19
    ∷ refuses (read_by 3 (terms dear 0)) small fitted 19
    ∷ (LeagueCall (read_by 3 main) small fitted [], Returns (19 * 4294967296) [])
    -- a guest's list call is refused by those as an officer's is
    ∷ refuses guest (replicate 3 0) fitted 1
    ∷ refuses guest (types_at 5 5) fitted 2
    ∷ refuses guest (marked 9) fitted 3
    ∷ refuses guest bare (empty ++ (0 ∷ [])) 4
    ∷ refuses guest bare unsorted 5
    ∷ refuses guest bare misplaced 6
    ∷ refuses guest small fitted 13
    ∷ refuses (read_by 0 (terms bad 0)) small fitted 11
    ∷ refuses (read_by 0 (terms dear 0)) small fitted 12
    -- the skill call: a guest, a pilot, an officer, nobody
    ∷ skill_refuses (read_by 0 main) small fitted 2 20
    ∷ (PageSkillCall (read_by 1 main) small fitted 2 (replicate 25 7), Returns 1 (lacking ++ (7 ∷ [])))
    ∷ (PageSkillCall (read_by 2 main) small fitted 2 (replicate 25 7), Returns 1 (lacking ++ (7 ∷ [])))
    ∷ skill_refuses (read_by 3 main) small fitted 2 19
    ∷ skill_refuses (read_by 256 main) small fitted 2 19
    ∷ skill_refuses (read_by 257 main) small fitted 2 19
    ∷ skill_refuses (read_by 65536 main) small fitted 2 19
    ∷ skill_refuses (read_by largest main) small fitted 2 19
    -- 20 whatever a guest asks about: the ship, the character, a result that wants nothing
    ∷ skill_refuses (read_by 0 main) small fitted 0 20
    ∷ skill_refuses (read_by 0 main) bare empty 1 20
    -- before all but 19: 1 to 6, 13 for pairs, 8, 13 for skills and 10
    ∷ skill_refuses guest (replicate 3 0) fitted 2 20
    ∷ skill_refuses guest (types_at 5 5) fitted 2 20
    ∷ skill_refuses guest (marked 9) fitted 2 20
    ∷ skill_refuses guest bare (empty ++ (0 ∷ [])) 0 20
    ∷ skill_refuses guest bare unsorted 0 20
    ∷ skill_refuses guest bare misplaced 0 20
    ∷ skill_refuses guest small fitted 2 20
    ∷ skill_refuses (read_by 0 main) small fitted 3 20
    ∷ skill_refuses (limited 1 0 (read_by 0 main)) small fitted 2 20
    ∷ (PageSkillCall (read_by 0 main) small fitted 2 [], Returns (20 * 4294967296) [])
    -- and 19 likewise
    ∷ skill_refuses nobody (replicate 3 0) fitted 2 19
    ∷ skill_refuses nobody (types_at 5 5) fitted 2 19
    ∷ skill_refuses nobody (marked 9) fitted 2 19
    ∷ skill_refuses nobody bare (empty ++ (0 ∷ [])) 0 19
    ∷ skill_refuses nobody bare unsorted 0 19
    ∷ skill_refuses nobody bare misplaced 0 19
    ∷ skill_refuses nobody small fitted 2 19
    ∷ skill_refuses (read_by 3 main) small fitted 3 19
    ∷ skill_refuses (limited 1 0 (read_by 3 main)) small fitted 2 19
    ∷ (PageSkillCall (read_by 3 main) small fitted 2 [], Returns (19 * 4294967296) [])
    -- a hall is the officer's: a skill that is none makes a fit faulted
    ∷ (HallCall small (words (1 ∷ 41 ∷ []) ++ learning), Number 256)
    ∷ []
