-- Document 01, "Records", "Values and casts", "Resources": floats in bytes, casts to integers, when more is used than available.
-- A `Float` of `lib.Ieee` is a value and no bits, so an f32 widened to f64 is the same `Float`, and all NaN patterns are one `nan`.
use Rattle.std.specs.Prelude.{ℕ, zero, suc, Bool, false, List, ℤ, pos, negsuc, from_bits, to_bits, Float}
use mathlib.Core.List.{foldl}
use Rattle.std.specs.Float.{nan, inf, fin, binary32, binary64}
use Rattle.std.specs.Float.Ieee.{of_int, to_unsigned, to_signed, add, mul, lt, le}
use Rattle.image.specs.Bytes.{u32_at, u64_at}

-- ---- Records

-- the f32 whose four bytes begin at i
unfoldable pub f32_at : List ℕ → ℕ → Float
f32_at b i = from_bits binary32 (u32_at b i)

-- the f64 whose eight bytes begin at i
unfoldable pub f64_at : List ℕ → ℕ → Float
f64_at b i = from_bits binary64 (u64_at b i)

-- the number whose eight bytes are written for an f64; a NaN is written as 0x7FF8000000000000
unfoldable pub f64_bits : Float → ℕ
f64_bits x = to_bits binary64 x

-- ---- Values and casts

-- +0
abbrev pub zero_f : Float
zero_f = fin false 0 (pos 0)

-- the f64 of a whole number
abbrev pub of_nat : ℕ → Float
of_nat n = of_int binary64 (pos n)

-- cast to an unsigned integer of w bits: truncated toward zero, stopped at 0 and 2 ^ w - 1, a NaN gives 0
abbrev pub to_u : ℕ → Float → ℕ
to_u w x = to_unsigned w x

-- cast to i32, which has 31 bits and a sign: truncated toward zero, stopped at -2 ^ 31 and 2 ^ 31 - 1, a NaN gives 0
abbrev pub to_i32 : Float → ℤ
to_i32 x = to_signed 31 x

-- a number by how far it lies below zero and how far above, of which one is 0
abbrev pub join : ℕ → ℕ → ℤ
join zero above = pos above
join (suc k) above = negsuc k

-- ---- Resources

-- |x|: the sign taken off, a zero's too
unfoldable pub abs : Float → Float
abs nan = nan
abs (inf s) = inf false
abs (fin s m e) = fin false m e

-- used > available + |available| * c, each operation rounded once, where c has the bits of 1e-9
unfoldable pub over : Float → Float → Bool
over used available = lt (add binary64 available (mul binary64 (abs available) (from_bits binary64 0x3E112E0BE826D695))) used

-- the terms of a list added to u in order, each sum rounded once
abbrev pub total_from : {A : Type 0} → (A → Float) → Float → List A → Float
total_from term u l = foldl (λ sum x. add binary64 sum (term x)) u l

-- a volume as demand 3 has it: finite and not below zero
unfoldable pub is_volume : Float → Bool
is_volume nan = false
is_volume (inf s) = false
is_volume (fin s m e) = le zero_f (fin s m e)
