-- Document 02, P2, a league profile: its size (u32), i32 group ids strictly ascending, then u32 points, where 4,294,967,295 means banned.
use Rattle.std.specs.Prelude.{ℕ, ◌+◌, ◌*◌, Bool, not, ◌&&◌, ◌||◌, List, [], ◌∷◌, map, eqb, ltb, ℤ, length}
use Rattle.std.specs.Int.Signed.{lt_z}
use Rattle.words.specs.Words.{table, any_of, find, given, is_empty, in_order, first_of, same}
use Rattle.numbers.specs.Sizes as Sizes
use Rattle.numbers.specs.Refusals as Refusals
use Rattle.image.specs.Bytes.{u32_at, i32_at}

-- a group and its points
pub record Price : Type 0 where
  pub group : ℤ
  pub points : ℕ

module _ (b : List ℕ) where
  abbrev pub group_count : ℕ
  group_count = u32_at b 0

  abbrev pub size_of : ℕ
  size_of = 4 + 8 * group_count

  abbrev pub points_at : ℕ
  points_at = 4 + 4 * group_count

  abbrev pub price_at : ℕ → Price
  price_at i = record { group = i32_at b (4 + 4 * i); points = u32_at b (points_at + 4 * i) }

  -- a profile of no bytes has no groups
  unfoldable pub prices_of : List Price
  prices_of = table group_count price_at

abbrev pub is_ban : ℕ → Bool
is_ban points = eqb points Sizes.banned

-- ---- refusals
-- 11: over 4,096 groups, or a length unlike its size; no bytes are no profile
unfoldable pub bad_profile : List ℕ → Bool
bad_profile b = not (is_empty b) && (ltb Sizes.most_groups (group_count b) || not (eqb (length b) (size_of b)))

-- points over 1,000,000 that are no ban
abbrev pub too_dear : ℕ → Bool
too_dear points = ltb Sizes.most_points points && not (is_ban points)

-- 12: groups that do not ascend strictly, or points out of range
unfoldable pub bad_prices : List Price → Bool
bad_prices l = not (in_order lt_z (map (λ x. x.group) l)) || any_of (λ x. too_dear x.points) l

unfoldable pub profile_refusals : List ℕ → List (ℕ × Bool)
profile_refusals b = (Refusals.bad_profile, bad_profile b) ∷ (Refusals.bad_prices, bad_prices (prices_of b)) ∷ []

-- the first refusal that holds, or 0
unfoldable pub profile_refusal : List ℕ → ℕ
profile_refusal b = first_of (profile_refusals b)

-- ---- what it says
-- the points of a group; 0 where it is not listed
unfoldable pub points_of : List Price → ℤ → ℕ
points_of l group = given (find (λ x. same x.group group) l) 0 (λ x. x.points)
