-- Cases of pages: how many pairs and how many wanted skills a limit takes, and where 13 stands among the other refusals.
use Rattle.std.specs.Prelude.{ℕ, ◌*◌, Bool, true, false, List, [], ◌∷◌, ◌++◌, replicate, pos}
use Rattle.numbers.specs.Names.{required_skill1}
use Rattle.fit.specs.Fit.{Fit}
use Rattle.lists.specs.Terms.{Terms, terms, limited, main}
use Rattle.promises.specs.Cases.{ship, gun, ore, tree, base, asks, result, one, fit}
use Rattle.promises.specs.Cases.{OverPairs, OverSkills, SkillRefusal, ListCall, LeagueCall, PageSkillCall, HallCall, Number, Holds, Returns, Case}
use Rattle.promises.specs.CallCases.{words, bare, small, empty, fitted, types_at, marked, sized}
use Rattle.promises.specs.RefusalCases.{chain, flown}
use Rattle.promises.specs.LeagueCases.{profile, ban, bad, dear}

-- the largest limit that a call can bring
abbrev largest : ℕ
largest = 4294967295

-- ---- 13 for pairs
-- so many items and so many results
abbrev paired : (items results : ℕ) → Fit
paired items results = record {
  frame = record { ship = ship; mode_flag = 0; mode = pos 0; ship_result = result 0 []; character_result = result 0 [] };
  skills = [];
  levels = [];
  items = replicate items (one gun 0 0 []).0;
  results = replicate results (result 0 []);
}

-- on a page that takes so many pairs, and any number of skills
abbrev over : (items results limit : ℕ) → Bool → Case
over items results limit b = (OverPairs (limited limit largest main) (tree []) (paired items results), Holds b)

abbrev pub PAIRS : List Case
PAIRS =
    -- 0 is a limit: no pair, one
    over 0 0 0 false
    ∷ over 1 1 0 true
    ∷ over 256 256 0 true
    -- as many as the limit, one more, one less
    ∷ over 1 1 1 false
    ∷ over 2 2 1 true
    ∷ over 0 0 1 false
    ∷ over 63 63 63 false
    ∷ over 64 64 63 true
    ∷ over 63 63 64 false
    ∷ over 64 64 64 false
    ∷ over 65 65 64 true
    ∷ over 64 64 65 false
    ∷ over 65 65 65 false
    ∷ over 66 66 65 true
    ∷ over 254 254 255 false
    ∷ over 255 255 255 false
    ∷ over 256 256 255 true
    -- the main page's limit and those above it
    ∷ over 255 255 256 false
    ∷ over 256 256 256 false
    ∷ over 256 256 257 false
    ∷ over 256 256 511 false
    ∷ over 256 256 512 false
    ∷ over 256 256 513 false
    ∷ over 256 256 65536 false
    ∷ over 256 256 2147483648 false
    ∷ over 256 256 largest false
    ∷ (OverPairs main (tree []) (paired 256 256), Holds false)
    -- they count as 256: a fit that 4 refuses has more
    ∷ over 257 257 256 true
    ∷ over 257 257 257 true
    ∷ over 257 257 largest true
    -- a pair is an item that has a result
    ∷ over 256 0 0 false
    ∷ over 0 256 0 false
    ∷ over 256 1 0 true
    ∷ over 1 256 0 true
    ∷ over 256 64 63 true
    ∷ over 256 64 64 false
    ∷ over 64 256 63 true
    ∷ over 64 256 64 false
    -- in the hold as in a slot
    ∷ (OverPairs (limited 0 largest main) (tree []) (fit ship [] (one ore 11 0 [] ∷ [])), Holds true)
    ∷ (OverPairs (limited 1 largest main) (tree []) (fit ship [] (one ore 11 0 [] ∷ [])), Holds false)
    ∷ []

-- ---- 13 for skills
-- large ones: a ship that asks for the first of a chain of skills, on a page that takes so many skills, and no pair; there is no room for an entry
abbrev pub asking : (skills limit number : ℕ) → Case
asking skills limit number = (SkillRefusal (limited 0 limit main) (chain skills) (flown (asks 0 1) []) 0 [], Number number)

abbrev pub LIMITS : List Case
LIMITS =
    -- 0 is a limit
    asking 1 0 13
    ∷ asking 64 0 13
    ∷ asking 512 0 13
    -- as many as the limit, one more, one less: 13, or else 10
    ∷ asking 1 1 10
    ∷ asking 2 1 13
    ∷ asking 63 63 10
    ∷ asking 64 63 13
    ∷ asking 63 64 10
    ∷ asking 64 64 10
    ∷ asking 65 64 13
    ∷ asking 64 65 10
    ∷ asking 65 65 10
    ∷ asking 66 65 13
    ∷ asking 255 255 10
    ∷ asking 256 255 13
    ∷ asking 256 256 10
    ∷ asking 257 256 13
    ∷ asking 256 257 10
    ∷ asking 257 257 10
    ∷ asking 258 257 13
    ∷ asking 510 511 10
    ∷ asking 511 511 10
    ∷ asking 512 511 13
    ∷ asking 511 512 10
    -- the main page's limit and those above it
    ∷ asking 512 512 10
    ∷ asking 512 513 10
    ∷ asking 512 65536 10
    ∷ asking 512 2147483648 10
    ∷ asking 512 largest 10
    -- 9 before 13, whatever the limit
    ∷ asking 513 0 9
    ∷ asking 513 511 9
    ∷ asking 513 512 9
    ∷ asking 513 513 9
    ∷ asking 513 largest 9
    -- limits above 512 count as that: what 9 refuses is over them
    ∷ (OverSkills (limited 0 513 main) (chain 513) (flown (asks 0 1) []) 0, Holds true)
    ∷ (OverSkills (limited 0 largest main) (chain 513) (flown (asks 0 1) []) 0, Holds true)
    ∷ []

-- ---- the calls on a page
-- skill 5 demands 6, both at level 0
abbrev calm : Fit
calm = flown (asks 5 0) []

-- a call whose list is NotAHull, and what it leaves
abbrev lists : Terms → (fit : List ℕ) → Case
lists t fit = (LeagueCall t bare fit (replicate 30 7), Returns 1 (0 ∷ 19 ∷ replicate 22 0 ++ replicate 6 7))

abbrev refuses : Terms → (catalogue fit : List ℕ) → ℕ → Case
refuses t catalogue fit n = (LeagueCall t catalogue fit (replicate 30 7), Returns (n * 4294967296) (replicate 30 7))

abbrev skill_refuses : Terms → (catalogue fit : List ℕ) → (result number : ℕ) → Case
skill_refuses t catalogue fit n number = (PageSkillCall t catalogue fit n (replicate 30 7), Returns (number * 4294967296) (replicate 30 7))

-- the two entries of `fitted`, and its one skill
abbrev both : List ℕ
both = words (0x00001500 ∷ 0 ∷ 9 ∷ 0 ∷ 0 ∷ 0 ∷ []) ++ words (0x00010301 ∷ 0 ∷ 0 ∷ 0 ∷ 0 ∷ 0 ∷ [])

abbrev lacking : List ℕ
lacking = words (0x00000B01 ∷ 0 ∷ 8 ∷ 2 ∷ 0 ∷ 0 ∷ [])

-- on a page that takes one pair and so many skills
abbrev skill_lists_under : ℕ → Case
skill_lists_under limit = (PageSkillCall (limited 1 limit main) small fitted 2 (replicate 25 7), Returns 1 (lacking ++ (7 ∷ [])))

-- two pairs, all of zeros; with a byte too many; with skills 9, 4; in a slot of kind 12
abbrev two : List ℕ
two = sized 0 2 2

abbrev unsorted : List ℕ
unsorted = words (2 ∷ 1 ∷ 1 ∷ 0 ∷ 0 ∷ 0 ∷ 0 ∷ 9 ∷ 4 ∷ []) ++ replicate 26 0

abbrev misplaced : List ℕ
misplaced = words (0 ∷ 1 ∷ 1 ∷ 0 ∷ 0 ∷ 0 ∷ 0 ∷ 0 ∷ 0 ∷ 12 ∷ []) ++ replicate 12 0

-- the page of no pair
abbrev closed : Terms
closed = limited 0 largest main

abbrev pub PAGES : List Case
PAGES =
    -- the list call: two pairs; no limit of skills matters
    refuses closed bare two 13
    ∷ refuses (limited 1 largest main) bare two 13
    ∷ lists (limited 2 0 main) two
    ∷ lists (limited 3 0 main) two
    ∷ lists (limited largest largest main) two
    -- a fit of no pairs, of items alone, of results alone; of one pair
    ∷ lists (limited 0 0 main) empty
    ∷ lists (limited 0 0 main) (sized 0 3 0)
    ∷ lists (limited 0 0 main) (sized 0 0 3)
    ∷ lists (limited 1 0 main) (sized 0 3 1)
    ∷ lists (limited 1 0 main) (sized 0 1 3)
    ∷ refuses closed bare (sized 0 3 1) 13
    ∷ refuses closed bare (sized 0 1 3) 13
    -- on a hull, one pair, whose result wants two skills
    ∷ refuses closed small fitted 13
    ∷ (LeagueCall (limited 1 0 main) small fitted (replicate 50 7), Returns 2 (both ++ (7 ∷ 7 ∷ [])))
    -- under a profile, which bans the pair's group
    ∷ (
      LeagueCall (limited 1 0 (terms (profile ((50, ban) ∷ [])) 0)) small fitted (replicate 73 7),
      Returns 3 (both ++ words (0x00001801 ∷ 0 ∷ 50 ∷ 0 ∷ 0 ∷ 0 ∷ []) ++ (7 ∷ [])),
    )
    -- 1 to 6 before it
    ∷ refuses closed (replicate 3 0) two 1
    ∷ refuses closed (types_at 5 5) two 2
    ∷ refuses closed (marked 9) two 3
    ∷ refuses closed bare (two ++ (0 ∷ [])) 4
    ∷ refuses closed bare unsorted 5
    ∷ refuses closed bare misplaced 6
    -- and it before 11, 12 and 10
    ∷ refuses (limited 1 0 (terms bad 0)) bare two 13
    ∷ refuses (limited 1 0 (terms dear 0)) bare two 13
    ∷ (LeagueCall closed bare two [], Returns (13 * 4294967296) [])
    -- which are given where the limit is not passed
    ∷ refuses (limited 2 0 (terms bad 0)) bare two 11
    ∷ refuses (limited 2 0 (terms dear 0)) bare two 12
    ∷ (LeagueCall (limited 2 0 main) bare two [], Returns (10 * 4294967296) [])
    -- the skill call: 13 for pairs, whatever its result wants, before 8 and 10
    ∷ skill_refuses closed bare two 0 13
    ∷ skill_refuses (limited 1 largest main) bare two 3 13
    ∷ (PageSkillCall (limited 2 0 main) bare two 3 [], Returns 0 [])
    ∷ skill_refuses closed bare two 4 13
    ∷ skill_refuses (limited 2 0 main) bare two 4 8
    ∷ (PageSkillCall closed small fitted 2 [], Returns (13 * 4294967296) [])
    ∷ (PageSkillCall (limited 0 0 main) small (sized 0 3 0) 1 [], Returns 0 [])
    -- behind 1 to 6
    ∷ skill_refuses closed (replicate 3 0) two 4 1
    ∷ skill_refuses closed (types_at 5 5) two 0 2
    ∷ skill_refuses closed (marked 9) two 0 3
    ∷ skill_refuses closed bare (two ++ (0 ∷ [])) 0 4
    ∷ skill_refuses closed bare unsorted 0 5
    ∷ skill_refuses closed bare misplaced 0 6
    -- 13 for skills: the result wants 9 at level 0, and 8 at 2
    ∷ skill_refuses (limited 1 0 main) small fitted 2 13
    ∷ skill_refuses (limited 1 1 main) small fitted 2 13
    ∷ skill_lists_under 2
    ∷ skill_lists_under 3
    ∷ skill_lists_under 256
    ∷ skill_lists_under 512
    ∷ skill_lists_under 513
    ∷ skill_lists_under 65536
    ∷ skill_lists_under 2147483648
    ∷ skill_lists_under largest
    -- the ship's and the character's, which want none
    ∷ (PageSkillCall (limited 1 0 main) small fitted 0 [], Returns 0 [])
    ∷ (PageSkillCall (limited 1 0 main) small fitted 1 [], Returns 0 [])
    -- 8 before it, 10 behind it; a profile is not read
    ∷ skill_refuses (limited 1 0 main) small fitted 3 8
    ∷ (PageSkillCall (limited 1 1 main) small fitted 2 [], Returns (13 * 4294967296) [])
    ∷ (PageSkillCall (limited 1 2 main) small fitted 2 (replicate 23 7), Returns (10 * 4294967296) (replicate 23 7))
    ∷ (PageSkillCall (limited 1 2 (terms bad 0)) small fitted 2 (replicate 24 7), Returns 1 lacking)
    -- skills that are wanted at level 0, none of which is listed
    ∷ (SkillRefusal (limited 0 1 main) (tree (base 5 required_skill1 6 ∷ [])) calm 0 [], Number 13)
    ∷ (SkillRefusal (limited 0 2 main) (tree (base 5 required_skill1 6 ∷ [])) calm 0 [], Number 0)
    ∷ (SkillRefusal (limited 0 0 main) (tree []) (flown (result 0 []) []) 0 [], Number 0)
    -- a hall is on the main page, and so is the list call of `check`
    ∷ (ListCall bare two (replicate 24 7), Returns 1 (0 ∷ 19 ∷ replicate 22 0))
    ∷ (HallCall small (words (1 ∷ 1076 ∷ []) ++ sized 0 65 65), Number 256)
    ∷ []
