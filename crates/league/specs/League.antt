-- Document 02, P2, what a league profile adds behind a hull's list: rule 24 for each fitted pair of a banned group, rule 25 where the
-- fitted pairs' points are above the allowance.
use Rattle.std.specs.Prelude.{ℕ, true, ◌&&◌, cond, List, ◌++◌}
use Rattle.words.specs.Words.{each, when, when_above, only, sum_of}
use Rattle.profile.specs.Profile.{Price, is_ban, points_of}
use Rattle.entry.specs.declared.Entry.{Entry}
use Rattle.entry.specs.declared.Rule.TheVariants.{Banned, Points}
use Rattle.entry.specs.Entries.{on_ship}
use Rattle.context.specs.Context.{Pair, is_fitted, on}

module _ (prices : List Price) where
  -- the points of a pair's group, whatever the pair's quantity
  abbrev pub price_of : Pair → ℕ
  price_of p = points_of prices p.group

  -- rule 24
  unfoldable pub banned_at : Pair → List Entry
  banned_at p = when (is_fitted p && is_ban (price_of p)) (on p (Banned p.group))

  unfoldable pub banned : List Pair → List Entry
  banned ps = each ps banned_at

  -- a group banned or not listed costs 0
  unfoldable pub cost : Pair → ℕ
  cost p = cond (is_ban (price_of p)) 0 (price_of p)

  unfoldable pub points : List Pair → ℕ
  points ps = sum_of cost (only is_fitted ps)

  -- rule 25
  unfoldable pub over_allowance : ℕ → List Pair → List Entry
  over_allowance allowance ps = when_above true (points ps) allowance λ used. on_ship (Points used allowance)

  unfoldable pub league : ℕ → List Pair → List Entry
  league allowance ps = banned ps ++ over_allowance allowance ps
