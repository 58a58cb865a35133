-- Whether an item is marked, id by id.
use mathlib.Core.Path.{◌≡◌, refl, ap, ◌∙◌}
use mathlib.Core.Bool.{Bool, false, ◌||◌}
use mathlib.Core.List.{List, [], ◌∷◌, map}
use Rattle.std.specs.Prelude.{Option}
use Rattle.std.specs.List.{list_any}
use lib.Ieee.{ne}
use Rattle.words.specs.Words.{any_of, given}
use Rattle.floats.specs.Floats.{zero_f}
use Rattle.catalogue.specs.Catalogue.{Id}
use Rattle.catalogue.specs.Lookups.{name_id}
use Rattle.fit.specs.Lookups.{amount}
use Rattle.context.specs.Context.{Pair, Context}
use Rattle.item.specs.Item.{standup_fighters}
use Rattle.item.specs.Ids.{IdsOf, marked_under, marked_in}

-- ---- the ids of a table's names
pub any-map : {A B : Type 0} (f : A → B) (t : B → Bool) (l : List A) → any_of t (map f l) ≡ any_of (λ x. t (f x)) l
unfolding any_of
any-map f t [] = refl
any-map f t (x ∷ l) = ap (λ (b : Bool). t (f x) || b) (any-map f t l)

pub any-list : {A : Type 0} (t : A → Bool) (l : List A) → list_any t l ≡ any_of t l
unfolding any_of
any-list t [] = refl
any-list t (x ∷ l) = ap (λ (b : Bool). t x || b) (any-list t l)

pub standup-marked : (x : Context) (p : Pair) (ids : List (Option Id)) {b : Bool} → IdsOf x.names standup_fighters ids → b ≡ marked_in p.result ids
    → b ≡ any_of (λ name. given (name_id x.names name) false (λ id. ne (amount p.result id) zero_f)) standup_fighters
unfolding marked_under
standup-marked x p ids h q =
    q ∙ any-list (marked_under p.result) ids ∙ ap (any_of (marked_under p.result)) h ∙ any-map (name_id x.names) (marked_under p.result) standup_fighters
