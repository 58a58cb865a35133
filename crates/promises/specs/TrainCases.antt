-- Cases of document 02, P11: what the training call writes, level by level, where a skill is put in, and what refuses it.
use Rattle.std.specs.Prelude.{ℕ, ◌*◌, List, [], ◌∷◌, ◌++◌, map, pos, length, drop, replicate}
use Rattle.words.specs.Words.{from}
use Rattle.numbers.specs.Names.{required_skill1, required_skill1_level}
use Rattle.catalogue.specs.Catalogue.{Catalogue}
use Rattle.fit.specs.Fit.{Result, Fit}
use Rattle.promises.specs.Cases.{ship, base, tree, result, asks, TrainRefusal, TrainCall, Number, Returns, Case}
use Rattle.promises.specs.CallCases.{words}

-- ---- images
-- names 76 to 79, two skills and their levels, with the attributes 4 to 7; skill 15 wants skill 20 at 5
abbrev pub demanding : List ℕ
demanding =
    words (4 ∷ 0 ∷ 0 ∷ 0 ∷ 2 ∷ [])
    ++ words (76 ∷ 77 ∷ 78 ∷ 79 ∷ [])
    ++ words (4 ∷ 5 ∷ 6 ∷ 7 ∷ [])
    ++ words (15 ∷ 15 ∷ [])
    ++ words (4 ∷ 0 ∷ 0x40340000 ∷ 5 ∷ 0 ∷ 0x40140000 ∷ [])

-- ship 1 with no items; result 2 wants two skills, each at a level: the upper halves of four f64
abbrev asking : (ids levels : List ℕ) (one level other second : ℕ) → List ℕ
asking ids levels one level other second =
    words (length ids ∷ 0 ∷ 1 ∷ 4 ∷ 1 ∷ 0 ∷ 0 ∷ [])
    ++ words ids ++ levels
    ++ (0 ∷ 0 ∷ 0 ∷ 0 ∷ 0 ∷ 0 ∷ 0 ∷ 0 ∷ 0 ∷ 0 ∷ 4 ∷ 0 ∷ [])
    ++ words (4 ∷ 5 ∷ 6 ∷ 7 ∷ [])
    ++ words (0 ∷ one ∷ 0 ∷ level ∷ 0 ∷ other ∷ 0 ∷ second ∷ [])

-- 15 at 2, for that 20 at 5, and 10 at 3
abbrev pub pilot : (ids levels : List ℕ) → List ℕ
pilot ids levels = asking ids levels 0x402E0000 0x40000000 0x40240000 0x40080000

-- a skill at 1, and 10 at 1
abbrev wanting : (skill : ℕ) (ids levels : List ℕ) → List ℕ
wanting skill ids levels = asking ids levels skill 0x3FF00000 0x40240000 0x3FF00000

-- 10, trained so far, at 2, and at a NaN with a sign and a payload
abbrev noisy : ℕ → List ℕ
noisy trained = asking (10 ∷ []) (trained ∷ []) 0x40240000 0x40000000 0x40240000 0xFFF40001

-- 105 bytes are lent; those behind the fit stay
abbrev gives : (fit : List ℕ) (result steps : ℕ) (after : List ℕ) → Case
gives fit result steps after = (TrainCall demanding fit result steps (replicate 105 7), Returns (length after) (after ++ drop (length after) (replicate 105 7)))

-- with so many bytes lent it is refused
abbrev refuses : (catalogue fit : List ℕ) (result steps lent n : ℕ) → Case
refuses catalogue fit result steps lent n = (TrainCall catalogue fit result steps (replicate lent 7), Returns (n * 4294967296) (replicate lent 7))

abbrev start : List ℕ
start = pilot (10 ∷ 20 ∷ []) (1 ∷ 4 ∷ [])

abbrev pub TRAINED : List Case
TRAINED =
    -- no step; one, which puts 15 between 10 and 20, at 1; two; three; one less than the five that are missing; five; one more
    gives start 2 0 start
    ∷ gives start 2 1 (pilot (10 ∷ 15 ∷ 20 ∷ []) (1 ∷ 1 ∷ 4 ∷ []))
    ∷ gives start 2 2 (pilot (10 ∷ 15 ∷ 20 ∷ []) (1 ∷ 2 ∷ 4 ∷ []))
    ∷ gives start 2 3 (pilot (10 ∷ 15 ∷ 20 ∷ []) (2 ∷ 2 ∷ 4 ∷ []))
    ∷ gives start 2 4 (pilot (10 ∷ 15 ∷ 20 ∷ []) (3 ∷ 2 ∷ 4 ∷ []))
    ∷ gives start 2 5 (pilot (10 ∷ 15 ∷ 20 ∷ []) (3 ∷ 2 ∷ 5 ∷ []))
    ∷ gives start 2 6 (pilot (10 ∷ 15 ∷ 20 ∷ []) (3 ∷ 2 ∷ 5 ∷ []))
    -- 5 is put first, 30 last, -2 first; 10 has its level, and one step more changes nothing
    ∷ gives (wanting 0x40140000 (10 ∷ 20 ∷ []) (1 ∷ 4 ∷ [])) 2 1 (wanting 0x40140000 (5 ∷ 10 ∷ 20 ∷ []) (1 ∷ 1 ∷ 4 ∷ []))
    ∷ gives (wanting 0x403E0000 (10 ∷ 20 ∷ []) (1 ∷ 4 ∷ [])) 2 2 (wanting 0x403E0000 (10 ∷ 20 ∷ 30 ∷ []) (1 ∷ 4 ∷ 1 ∷ []))
    ∷ gives (wanting 0xC0000000 (10 ∷ 20 ∷ []) (1 ∷ 4 ∷ [])) 2 1 (wanting 0xC0000000 (0xFFFFFFFE ∷ 10 ∷ 20 ∷ []) (1 ∷ 1 ∷ 4 ∷ []))
    -- none listed; 5 and then 10
    ∷ gives (wanting 0x40140000 [] []) 2 2 (wanting 0x40140000 (5 ∷ 10 ∷ []) (1 ∷ 1 ∷ []))
    -- 15 is listed at 0, and raised where it stands
    ∷ gives (pilot (10 ∷ 15 ∷ 20 ∷ []) (1 ∷ 0 ∷ 4 ∷ [])) 2 1 (pilot (10 ∷ 15 ∷ 20 ∷ []) (1 ∷ 1 ∷ 4 ∷ []))
    -- 16 is wanted at 0, and not put in
    ∷ gives (asking (10 ∷ []) (1 ∷ []) 0x40300000 0 0x40240000 0x3FF00000) 2 2 (asking (10 ∷ []) (1 ∷ []) 0x40300000 0 0x40240000 0x3FF00000)
    -- 10 from 254 to 255, and no further
    ∷ gives (asking (10 ∷ []) (254 ∷ []) 0x40240000 0x406FE000 0x40240000 0) 2 2 (asking (10 ∷ []) (255 ∷ []) 0x40240000 0x406FE000 0x40240000 0)
    -- the ship's result and the character's want nothing
    ∷ gives start 0 3 start
    ∷ gives start 1 3 start
    -- 8: a result that is not there
    ∷ refuses demanding start 3 1 105 8
    -- 10: a byte less than the fit takes then; less than it takes as it is; as much is enough where it stays so
    ∷ refuses demanding start 2 1 102 10
    ∷ refuses demanding start 2 0 97 10
    ∷ (TrainCall demanding start 2 0 (replicate 98 7), Returns 98 start)
    ∷ refuses demanding start 2 1 98 10
    -- the first that holds: 1 of 1, 5, 8 and 10; 5 of 5, 8 and 10; 8 of 8 and 10
    ∷ refuses (replicate 3 0) (pilot (20 ∷ 10 ∷ []) (1 ∷ 4 ∷ [])) 3 1 0 1
    ∷ refuses demanding (pilot (20 ∷ 10 ∷ []) (1 ∷ 4 ∷ [])) 3 1 0 5
    ∷ refuses demanding start 3 1 0 8
    -- 10 at 2, and at a NaN, which is 0: its sign and its payload are copied
    ∷ gives (noisy 1) 2 1 (noisy 2)
    ∷ []

-- ---- 16
-- skills 1 to n are listed, at 0; one result
abbrev listing : ℕ → Result → Fit
listing n r = record {
  frame = record { ship = ship; mode_flag = 0; mode = pos 0; ship_result = result 0 []; character_result = result 0 [] };
  skills = map pos (from 1 n);
  levels = replicate n 0;
  items = [];
  results = r ∷ [];
}

-- skill 2000 wants skill 3000 at 1
abbrev two : Catalogue
two = tree (base 2000 required_skill1 3000 ∷ base 2000 required_skill1_level 1 ∷ [])

abbrev pub FULL : List Case
FULL =
    -- one more than 1,024; 1,024
    (TrainRefusal (tree []) (listing 1024 (asks 2000 1)) 2, Number 16)
    ∷ (TrainRefusal (tree []) (listing 1023 (asks 2000 1)) 2, Number 0)
    -- two more
    ∷ (TrainRefusal two (listing 1023 (asks 2000 1)) 2, Number 16)
    ∷ (TrainRefusal two (listing 1022 (asks 2000 1)) 2, Number 0)
    -- a skill that lacks and is listed; one that is wanted at 0
    ∷ (TrainRefusal (tree []) (listing 1024 (asks 5 1)) 2, Number 0)
    ∷ (TrainRefusal (tree []) (listing 1024 (asks 2000 0)) 2, Number 0)
    -- of the result that is asked for; 8 comes first
    ∷ (TrainRefusal (tree []) (listing 1024 (asks 2000 1)) 0, Number 0)
    ∷ (TrainRefusal (tree []) (listing 1024 (asks 2000 1)) 3, Number 8)
    ∷ []
