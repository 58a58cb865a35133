-- Document 01, "Records": numbers in a list of bytes, little-endian; i32 is signed, the others unsigned.
-- Past the end of the list every byte reads as 0, so that each is a total function.
use Rattle.std.specs.Prelude.{ℕ, zero, suc, ◌+◌, ◌*◌, ◌-◌, ◌/◌, ◌%◌, ◌^◌, List, [], ◌∷◌, cond, get_or, set, ltb, ℤ, pos, negsuc}

abbrev pub u8_at : List ℕ → ℕ → ℕ
u8_at b i = get_or b i 0

unfoldable pub u16_at : List ℕ → ℕ → ℕ
u16_at b i = u8_at b i + 256 * u8_at b (i + 1)

unfoldable pub u32_at : List ℕ → ℕ → ℕ
u32_at b i = u8_at b i + 256 * u8_at b (i + 1) + 65536 * u8_at b (i + 2) + 16777216 * u8_at b (i + 3)

unfoldable pub u64_at : List ℕ → ℕ → ℕ
u64_at b i = u32_at b i + 2 ^ 32 * u32_at b (i + 4)

-- two's complement of 32 bits: n from 2 ^ 31 on stands for n - 2 ^ 32
unfoldable pub signed32 : ℕ → ℤ
signed32 n = cond (ltb n (2 ^ 31)) (pos n) (negsuc (2 ^ 32 - 1 - n))

-- the 32 bits of a signed number
unfoldable pub bits32 : ℤ → ℕ
bits32 (pos n) = n
bits32 (negsuc n) = 2 ^ 32 - 1 - n

unfoldable pub i32_at : List ℕ → ℕ → ℤ
i32_at b i = signed32 (u32_at b i)

-- the n lowest bytes of x, lowest first
abbrev pub le : ℕ → ℕ → List ℕ
le zero x = []
le (suc n) x = x % 256 ∷ le n (x / 256)

-- vs stored byte by byte from index i on
abbrev pub put : List ℕ → ℕ → List ℕ → List ℕ
put l i [] = l
put l i (v ∷ vs) = put (set l i v) (i + 1) vs
