-- rust/compare/RECORDED.md: the length of a record, and its parts.
use Rattle.std.specs.Prelude.{ℕ, ◌+◌, ◌≡◌, List, take, drop}
use Rattle.image.specs.Bytes.{u32_at}

-- the record at a place: 36 bytes of numbers, the catalogue, the fit or hall input, the profile, the bytes written
abbrev pub size : List ℕ → ℕ → ℕ
size b at = 36 + u32_at b at + u32_at b (at + 4) + u32_at b (at + 8) + u32_at b (at + 32)

-- the parts of the record that b begins with, each behind the last
pub record Parts (b catalogue input profile written : List ℕ) : Type 0 where
  pub catalogue_is : catalogue ≡ take (u32_at b 0) (drop 36 b)
  pub input_is : input ≡ take (u32_at b 4) (drop (36 + u32_at b 0) b)
  pub profile_is : profile ≡ take (u32_at b 8) (drop (36 + u32_at b 0 + u32_at b 4) b)
  pub written_is : written ≡ take (u32_at b 32) (drop (36 + u32_at b 0 + u32_at b 4 + u32_at b 8) b)
