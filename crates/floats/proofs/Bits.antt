-- Bit patterns: those of an f64 are its own. From the library's laws of patterns.
use Rattle.std.proofs.Common.{◌≡◌, ℕ, ◌^◌, ◌<◌, T, List}
use lib.Ieee.{Float, of_bits, binary32, binary64, fits}
use lib.Ieee.Bits.{of_bits-fits, of_bits-to_bits, to_bits-lt}
use Rattle.floats.specs.Floats.{f32_at, f64_at, f64_bits}

-- what is read fits its format, and what is written reads back
pub f32_at-fits : (b : List ℕ) (i : ℕ) → T (fits binary32 (f32_at b i))
unfolding f32_at
f32_at-fits b i = of_bits-fits binary32 _

pub f64_at-fits : (b : List ℕ) (i : ℕ) → T (fits binary64 (f64_at b i))
unfolding f64_at
f64_at-fits b i = of_bits-fits binary64 _

pub f64_bits-lt : (x : Float) → T (fits binary64 x) → f64_bits x < 2 ^ 64
unfolding f64_bits
f64_bits-lt x h = to_bits-lt binary64 x h

pub f64_bits-back : (x : Float) → T (fits binary64 x) → of_bits binary64 (f64_bits x) ≡ x
unfolding f64_bits
f64_bits-back x h = of_bits-to_bits binary64 x h
