-- Where no group is banned or priced, a league lists nothing.
use Prim.Native.Nat.{ℕ, ◌+◌, zero-le}
use mathlib.Core.Path.{◌≡◌, refl, ap, ◌∙◌}
use mathlib.Core.Bool.{Bool, true, false, ◌&&◌}
use mathlib.Core.List.{List, [], ◌∷◌, ◌++◌}
use borrow.Author.Tests.{le-ltb}
use Rattle.words.specs.Words.{each, when, when_above, only, sum_of, find, given}
use Rattle.profile.specs.Profile.{points_of}
use Rattle.entry.specs.declared.Entry.{Entry}
use Rattle.context.specs.Context.{Pair, is_fitted}
use Rattle.league.specs.League.{banned_at, banned, cost, points, over_allowance, league}

no_ban : (p : Pair) → banned_at [] p ≡ []
unfolding banned_at points_of find given when
no_ban p = rw (and_false (is_fitted p))
  where
    and_false : (b : Bool) → b && false ≡ false
    and_false true = refl
    and_false false = refl

no_bans : (ps : List Pair) → banned [] ps ≡ []
unfolding banned each
no_bans [] = refl
no_bans (p ∷ ps) = ap (λ (l : List Entry). l ++ each ps (banned_at [])) (no_ban p) ∙ no_bans ps

no_cost : (ps : List Pair) → sum_of (cost []) ps ≡ 0
unfolding sum_of cost points_of find given
no_cost [] = refl
no_cost (p ∷ ps) = ap (λ (n : ℕ). 0 + n) (no_cost ps)

none_over : (allowance : ℕ) (ps : List Pair) → over_allowance [] allowance ps ≡ []
unfolding over_allowance when_above points when
none_over allowance ps = rw (no_cost (only is_fitted ps), le-ltb allowance 0 zero-le)

pub no_profile : (allowance : ℕ) (ps : List Pair) → league [] allowance ps ≡ []
unfolding league
no_profile allowance ps = rw (no_bans ps, none_over allowance ps)
