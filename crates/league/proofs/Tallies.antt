-- A league's rules, one pair more at a time.
use Prim.Native.Nat.{ℕ, ◌+◌, ◌≤◌}
use mathlib.Core.Path.{◌≡◌, refl, ap, ◌∙◌}
use mathlib.Core.Bool.{Bool, true, false, ◌&&◌, cond}
use mathlib.Core.List.{List}
use lib.Dec.{ltb}
use lib.ListN.{length}
use Rattle.words.specs.Words.{when, when_above, table}
use Rattle.words.proofs.Tables.{sum_only_none, sum_only_more}
use Rattle.words.proofs.Lengths.{few-when}
use Rattle.catalogue.specs.Catalogue.{Id}
use Rattle.profile.specs.Profile.{Price, is_ban, points_of}
use Rattle.entry.specs.declared.Entry.{Entry}
use Rattle.entry.specs.declared.Rule.TheVariants.{Banned, Points}
use Rattle.entry.specs.Entries.{on_ship}
use Rattle.context.specs.Context.{Pair, is_fitted, on}
use Rattle.league.specs.League.{price_of, banned_at, cost, points, over_allowance}

module _ (prices : List Price) where
  -- ---- a pair whose group and price are known
  module _ (p : Pair) {group : Id} {price : ℕ} (g : group ≡ p.group) (e : price ≡ cond (is_fitted p) (points_of prices group) 0) where
    priced : price ≡ cond (is_fitted p) (price_of prices p) 0
    priced = e ∙ ap (λ (z : Id). cond (is_fitted p) (points_of prices z) 0) g

    pub banned-is : when (is_ban price) (on p (Banned group)) ≡ banned_at prices p
    unfolding banned_at
    banned-is =
        ap (λ (z : Id). when (is_ban price) (on p (Banned z))) g ∙ ap (λ (n : ℕ). when (is_ban n) ban) priced ∙ go (is_fitted p)
      where
        ban : Entry
        ban = on p (Banned p.group)

        go : (t : Bool) → when (is_ban (cond t (price_of prices p) 0)) ban ≡ when (t && is_ban (price_of prices p)) ban
        go true = refl
        go false = refl

    pub cost-is : cond (is_ban price) 0 price ≡ cond (is_fitted p) (cost prices p) 0
    unfolding cost
    cost-is = ap (λ (n : ℕ). cond (is_ban n) 0 n) priced ∙ go (is_fitted p)
      where
        go : (t : Bool) → cond (is_ban (cond t (price_of prices p) 0)) 0 (cond t (price_of prices p) 0)
            ≡ cond t (cond (is_ban (price_of prices p)) 0 (price_of prices p)) 0
        go true = refl
        go false = refl

  pub banned-few : (p : Pair) → length (banned_at prices p) ≤ 1
  unfolding banned_at
  banned-few p = few-when (is_fitted p && is_ban (price_of prices p)) (on p (Banned p.group))

  -- ---- the points
  module _ (f : ℕ → Pair) where
    pub points_none : points prices (table 0 f) ≡ 0
    unfolding points
    points_none = sum_only_none f is_fitted (cost prices)

    pub points-more : (n : ℕ)
        → points prices (table (n + 1) f) ≡ points prices (table n f) + cond (is_fitted (f n)) (cost prices (f n)) 0
    unfolding points
    points-more = sum_only_more f is_fitted (cost prices)

  pub over-is : (allowance : ℕ) (ps : List Pair) {used : ℕ} → used ≡ points prices ps
      → when (ltb allowance used) (on_ship (Points used allowance)) ≡ over_allowance prices allowance ps
  unfolding over_allowance when_above
  over-is allowance ps e = ap (λ (n : ℕ). when (ltb allowance n) (on_ship (Points n allowance))) e
