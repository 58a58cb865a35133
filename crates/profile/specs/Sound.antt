-- Document 02, P2: what a profile that is not refused is.
use Rattle.std.specs.Prelude.{ℕ, ◌≤◌, ◌<◌, ◌≡◌, false, List, ◌⊎◌, length}
use Rattle.numbers.specs.Sizes as Sizes
use Rattle.profile.specs.Profile.{group_count, size_of, prices_of, bad_prices}

-- not refused by 11
pub record Sized (b : List ℕ) : Type 0 where
  pub few : group_count b ≤ Sizes.most_groups
  pub size : 0 < length b → length b ≡ size_of b

-- not refused at all
pub record Sound (b : List ℕ) : Type 0 where
  pub sized : Sized b
  pub prices : bad_prices (prices_of b) ≡ false

-- the points of a group are at most 1,000,000, or a ban
abbrev pub Fair : ℕ → Type 0
Fair points = (points ≤ Sizes.most_points) ⊎ (points ≡ Sizes.banned)
