-- Document 01, "Records", Fit: what an image that is not refused is, field by field; and where each result's attributes begin in it.
use Rattle.std.specs.Prelude.{ℕ, ◌+◌, ◌*◌, ◌≤◌, ◌<◌, ◌≡◌, Bool, false, ◌||◌, List, eqb, length, get_or, take, drop}
use Rattle.numbers.specs.Slots as Slots
use Rattle.numbers.specs.Sizes as Sizes
use Rattle.fit.specs.Fit.{skill_count, item_count, result_count, attribute_count, size_of, ids_at, values_at, start_at, fit_of}
use Rattle.fit.specs.Refusals.{bad_order, bad_field}

-- slot kinds whose items have no index: the bays and Cargo
abbrev pub in_bay : ℕ → Bool
in_bay slot = eqb slot Slots.fighter_bay || eqb slot Slots.drone_bay || eqb slot Slots.cargo

-- not refused by 4: all blocks stand where the sizes say, within the limits
pub record Sized (b : List ℕ) : Type 0 where
  pub size : length b ≡ size_of b
  pub skills : skill_count b ≤ Sizes.most_skills
  pub items : item_count b ≤ Sizes.most_items
  pub results : result_count b ≤ Sizes.most_results
  pub attributes : attribute_count b ≤ Sizes.most_attributes
  pub counts : start_at b (result_count b + 2) ≡ attribute_count b

-- not refused at all
pub record Sound (b : List ℕ) : Type 0 where
  pub sized : Sized b
  pub order : bad_order (fit_of b) ≡ false
  pub fields : bad_field (fit_of b) ≡ false

-- s holds how many attributes stand before those of each result, and at last how many there are
pub record Starts (b s : List ℕ) : Type 0 where
  pub long : result_count b + 2 < length s
  pub begins : (j : ℕ) → j ≤ result_count b + 2 → get_or s j 0 ≡ start_at b j

-- the part of the image that holds the ids of the n attributes from number `start` on
unfoldable pub ids_part : List ℕ → ℕ → ℕ → List ℕ
ids_part b start n = take (4 * n) (drop (ids_at b + 4 * start) b)

-- the part that holds their values
unfoldable pub values_part : List ℕ → ℕ → ℕ → List ℕ
values_part b start n = take (8 * n) (drop (values_at b + 8 * start) b)
