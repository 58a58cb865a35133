-- Document 02, P10: an old catalogue turned into a new one, each base value widened exactly, all else as it stands.
use Rattle.std.specs.Prelude.{ℕ, ◌+◌, List, ◌++◌, take, drop}
use Rattle.words.specs.Words.{from, each}
use Rattle.image.specs.Bytes.{le}
use Rattle.floats.specs.Floats.{f32_at, f64_bits}
use Rattle.catalogue.specs.Catalogue.{base_count, base_values_at}
use Rattle.widening.specs.Old.{old_value_at}

module _ (b : List ℕ) where
  -- the bits of the f64 that has the value of the f32 at a place; those of every NaN are 0x7FF8000000000000
  unfoldable pub wide_bits : ℕ → ℕ
  wide_bits at = f64_bits (f32_at b at)

  -- the 12 bytes of the old value at a place: the attribute id's four as they stand, then the f32 as an f64
  unfoldable pub wide_value : ℕ → List ℕ
  wide_value at = take 4 (drop at b) ++ le 8 (wide_bits (at + 4))

  -- the first n values of the bases
  unfoldable pub wide_values : ℕ → List ℕ
  wide_values n = each (from 0 n) λ i. wide_value (old_value_at b i)

  -- all up to the values as it stands, then each value
  unfoldable pub widened : List ℕ
  widened = take (base_values_at b) b ++ wide_values (base_count b)
