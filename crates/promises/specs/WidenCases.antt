-- Cases of document 02, P10: f32 values and old catalogues, each with what it widens to.
use Rattle.std.specs.Prelude.{ℕ, ◌*◌, List, [], ◌∷◌, ◌++◌, replicate}
use Rattle.promises.specs.Cases.{Single, WidenCall, Number, Returns, Case}
use Rattle.promises.specs.CallCases.{words, bare, types_at}

-- ---- values: bits of an f32, and of the f64 that it widens to
abbrev pub VALUES : List Case
VALUES =
    -- both zeros
    (Single 0x00000000, Number 0x0000000000000000)
    ∷ (Single 0x80000000, Number 0x8000000000000000)
    -- subnormals: the smallest and the largest of both signs
    ∷ (Single 0x00000001, Number 0x36A0000000000000)
    ∷ (Single 0x80000001, Number 0xB6A0000000000000)
    ∷ (Single 0x007FFFFF, Number 0x380FFFFFC0000000)
    ∷ (Single 0x807FFFFF, Number 0xB80FFFFFC0000000)
    -- the smallest normal number; 1, 1.5, -2.5, 16,777,215; the largest of both signs
    ∷ (Single 0x00800000, Number 0x3810000000000000)
    ∷ (Single 0x3F800000, Number 0x3FF0000000000000)
    ∷ (Single 0x3FC00000, Number 0x3FF8000000000000)
    ∷ (Single 0xC0200000, Number 0xC004000000000000)
    ∷ (Single 0x4B7FFFFF, Number 0x416FFFFFE0000000)
    ∷ (Single 0x7F7FFFFF, Number 0x47EFFFFFE0000000)
    ∷ (Single 0xFF7FFFFF, Number 0xC7EFFFFFE0000000)
    -- both infinities
    ∷ (Single 0x7F800000, Number 0x7FF0000000000000)
    ∷ (Single 0xFF800000, Number 0xFFF0000000000000)
    -- NaN of both signs: quiet, with payloads, signalling
    ∷ (Single 0x7FC00000, Number 0x7FF8000000000000)
    ∷ (Single 0xFFC00000, Number 0x7FF8000000000000)
    ∷ (Single 0x7FC00001, Number 0x7FF8000000000000)
    ∷ (Single 0xFFFFFFFF, Number 0x7FF8000000000000)
    ∷ (Single 0x7F800001, Number 0x7FF8000000000000)
    ∷ (Single 0xFFA00000, Number 0x7FF8000000000000)
    ∷ []

-- ---- old catalogues
-- effect 5 with a mark; type 9 with volume bits under flag 0, which are a NaN's; the types of three bases
abbrev front : ℕ → ℕ → ℕ → ℕ → List ℕ
front mark a b c = words (0 ∷ 1 ∷ 1 ∷ 0 ∷ 3 ∷ 5 ∷ mark ∷ 9 ∷ 50 ∷ 7 ∷ 0 ∷ 0x7FC00001 ∷ a ∷ b ∷ c ∷ [])

-- bases of types 9, 9 and 10
abbrev based : List ℕ
based = front 8 9 9 10

-- attribute -2 with 1.5, attribute 4 with a NaN, attribute 4 with -0
abbrev narrow : List ℕ
narrow = words (0xFFFFFFFE ∷ 0x3FC00000 ∷ 4 ∷ 0xFFC00001 ∷ 4 ∷ 0x80000000 ∷ [])

abbrev wide : List ℕ
wide = words (0xFFFFFFFE ∷ 0 ∷ 0x3FF80000 ∷ 4 ∷ 0 ∷ 0x7FF80000 ∷ 4 ∷ 0 ∷ 0x80000000 ∷ [])

-- with so many bytes lent it is refused
abbrev refuses : List ℕ → ℕ → ℕ → Case
refuses old lent n = (WidenCall old (replicate lent 7), Returns (n * 4294967296) (replicate lent 7))

abbrev pub WIDENED : List Case
WIDENED =
    -- 84 bytes become 96, and those behind them stay
    (WidenCall (based ++ narrow) (replicate 96 7), Returns 96 (based ++ wide))
    ∷ (WidenCall (based ++ narrow) (replicate 99 7), Returns 96 (based ++ wide ++ 7 ∷ 7 ∷ 7 ∷ []))
    -- no bases: both forms are one
    ∷ (WidenCall bare (replicate 20 7), Returns 20 bare)
    -- 10: a byte less than the new form takes; as many as the old one has; none
    ∷ refuses (based ++ narrow) 95 10
    ∷ refuses (based ++ narrow) 84 10
    ∷ refuses bare 0 10
    -- 1: 3 bytes; a byte less than the sizes say and one more; a new catalogue
    ∷ refuses (replicate 3 0) 96 1
    ∷ refuses (words (0 ∷ 0 ∷ 0 ∷ 0 ∷ 1 ∷ []) ++ replicate 11 0) 96 1
    ∷ refuses (words (0 ∷ 0 ∷ 0 ∷ 0 ∷ 1 ∷ []) ++ replicate 13 0) 96 1
    ∷ refuses (based ++ wide) 96 1
    -- 2: types 5, 5; bases of types 10, 9, 9
    ∷ refuses (types_at 5 5) 96 2
    ∷ refuses (front 8 10 9 9 ++ narrow) 96 2
    -- 3: mark 9
    ∷ refuses (front 9 9 9 10 ++ narrow) 96 3
    -- the first that holds: 1 of 1, 2, 3 and 10; 2 of 2, 3 and 10; 3 of 3 and 10
    ∷ refuses (front 9 10 9 9 ++ wide) 0 1
    ∷ refuses (front 9 10 9 9 ++ narrow) 0 2
    ∷ refuses (front 9 9 9 10 ++ narrow) 0 3
    ∷ []
