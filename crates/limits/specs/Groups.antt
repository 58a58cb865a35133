-- validate/item.rs, `group_limits`: the groups and states that the code reads once for all pairs and limits.
use Rattle.std.specs.Prelude.{ℕ, ◌+◌, ◌<◌, ◌≡◌, cond, List, pos, get_or}
use Rattle.catalogue.specs.Catalogue.{Id}
use Rattle.context.specs.declared.Context.{Context as Held}
use Rattle.context.specs.Context.{Pair, is_fitted}
use Rattle.context.specs.Gathered.{pair_count}
use Rattle.context.specs.Held.{pair_in}

-- an array holds the group of each of the first n pairs, at the pair's position
abbrev pub Grouped : ℕ → Held → List Id → Type 0
Grouped n x groups = (i : ℕ) → i < n → get_or groups i (pos 0) ≡ (pair_in x i).group

abbrev pub Groups : Held → List Id → Type 0
Groups x groups = Grouped (pair_count x.fit.now) x groups

-- one above the state of a fitted pair; 0 where a pair is not fitted
unfoldable pub state_of : Pair → ℕ
state_of p = cond (is_fitted p) (p.result.state + 1) 0

abbrev pub Stated : ℕ → Held → List ℕ → Type 0
Stated n x states = (i : ℕ) → i < n → get_or states i 0 ≡ state_of (pair_in x i)

abbrev pub States : Held → List ℕ → Type 0
States x states = Stated (pair_count x.fit.now) x states
