-- What an item lists, id by id.
use Prim.Native.Nat.{ℕ, zero, suc, ◌+◌, ◌<◌, ◌≤◌}
use native.Mathlib.Nat.{not-suc-le-zero, le_of_suc-le-suc}
use native.Mathlib.Numerals.{add-one}
use mathlib.Core.Path.{◌≡◌, refl, sym, ap, ap₂, ◌∙◌}
use mathlib.Core.Bool.{Bool, true, false, ◌&&◌, ◌||◌, cond}
use mathlib.Core.List.{List, [], ◌∷◌, ◌++◌, map, append-nil}
use Rattle.std.specs.Prelude.{Option, None, Some}
use lib.ListN.{length, get_or, take}
use lib.Seq.{take_all}
use lib.Ieee.{Float}
use Rattle.words.specs.Words.{◌>>=◌, each, is_empty, any_of, same, contains, given}
use Rattle.words.proofs.Steps.{each_step}
use Rattle.words.proofs.Sames.{same_refl}
use Rattle.floats.specs.Floats.{to_i32}
use Rattle.catalogue.specs.Catalogue.{Id}
use Rattle.catalogue.specs.Lookups.{name_id}
use Rattle.fit.specs.Fit.{Result}
use Rattle.fit.specs.Lookups.{value}
use Rattle.context.specs.Context.{Pair, Context}
use Rattle.item.specs.declared.Listing.{Listing}
use Rattle.item.specs.declared.Listing.TheVariants.{Nothing, Others, Ship}
use Rattle.item.specs.Item.{listed}
use Rattle.item.specs.Ids.{IdsOf, listed_under, listed_in, listing}

or_assoc : (a b c : Bool) → (a || b) || c ≡ a || (b || c)
or_assoc true b c = refl
or_assoc false b c = refl

or_true : (a : Bool) → a || true ≡ true
or_true true = refl
or_true false = refl

-- ---- the list under some ids
contains-append : (id : Id) (l m : List Id) → contains id (l ++ m) ≡ contains id l || contains id m
unfolding contains any_of
contains-append id [] m = refl
contains-append id (x ∷ l) m =
    ap (λ (b : Bool). same id x || b) (contains-append id l m) ∙ sym (or_assoc (same id x) (any_of (same id) l) (any_of (same id) m))

empty_append : (l m : List Id) → is_empty (l ++ m) ≡ is_empty l && is_empty m
unfolding is_empty
empty_append [] m = refl
empty_append (x ∷ l) m = refl

module _ (id : Id) (r : Result) where
  -- one id that is the one sought
  pub contains-at : (ids : List (Option Id)) (k : ℕ) → k < length ids → contains id (◌>>=◌ (listed_under r (get_or ids k None)) (λ x. x ∷ [])) ≡ true
      → contains id (listed_in r ids) ≡ true
  unfolding each
  contains-at [] k h e = absurd (not-suc-le-zero h)
  contains-at (known ∷ ids) zero h e = contains-append id _ (listed_in r ids) ∙ rw e
  contains-at (known ∷ ids) (suc k) h e =
      let there = ◌>>=◌ (listed_under r known) (λ x. x ∷ []) in
      contains-append id there (listed_in r ids) ∙ rw (contains-at ids k (le_of_suc-le-suc h) e) (or_true (contains id there))

  -- the first k ids name no ship, or others
  pub record Listed (ids : List (Option Id)) (k : ℕ) (found : Listing) : Type 0 where
    pub no_ship : contains id (listed_in r (take k ids)) ≡ false
    pub others : found ≡ cond (is_empty (listed_in r (take k ids))) Nothing Others

  pub listed_none : (ids : List (Option Id)) → Listed ids 0 Nothing
  unfolding each contains any_of is_empty
  listed_none ids = record { no_ship = refl; others = refl }

  module _ (ids : List (Option Id)) (k : ℕ) (h : k < length ids) (found : Listing) (v : Listed ids k found) where
    abbrev f : Option Id → List Id
    f known = ◌>>=◌ (listed_under r known) (λ x. x ∷ [])

    -- under the next id is nothing
    pub listed_nothing : listed_under r (get_or ids k None) ≡ None → Listed ids (k + 1) found
    unfolding ◌>>=◌
    listed_nothing e =
        let m : listed_in r (take (k + 1) ids) ≡ listed_in r (take k ids) = rw add-one (each_step f ids k None h ∙ rw e (append-nil _)) in
        record { no_ship = ap (contains id) m ∙ v.no_ship; others = v.others ∙ ap (λ (l : List Id). cond (is_empty l) Nothing Others) (sym m) }

    -- or another
    pub listed_other : (other : Id) → listed_under r (get_or ids k None) ≡ Some other → same id other ≡ false → Listed ids (k + 1) Others
    unfolding ◌>>=◌ contains any_of is_empty
    listed_other other e q =
        let l = listed_in r (take k ids) in
        let m : listed_in r (take (k + 1) ids) ≡ l ++ (other ∷ []) = rw add-one (each_step f ids k None h ∙ rw e) in
        record {
          no_ship = ap (contains id) m ∙ contains-append id l (other ∷ []) ∙ rw (v.no_ship, q);
          others = sym (ap (λ (l : List Id). cond (is_empty l) Nothing Others) m ∙ rw (empty_append l (other ∷ [])) (go (is_empty l)));
        }
      where
        go : (b : Bool) → ◌≡◌ {A = Listing} (cond (b && false) Nothing Others) Others
        go true = refl
        go false = refl

  -- all ids
  pub listed_all : (ids : List (Option Id)) (k : ℕ) (found : Listing) → length ids ≤ k → Listed ids k found → found ≡ listing id (listed_in r ids)
  unfolding listing
  listed_all ids k found h v =
      let m = take_all k ids h in
      let s : contains id (listed_in r ids) ≡ false = rw m at v.no_ship in
      rw s (rw m at v.others)

  -- the ship is under one of them
  pub listed_ship : (ids : List (Option Id)) (k : ℕ) → k < length ids → listed_under r (get_or ids k None) ≡ Some id → Ship ≡ listing id (listed_in r ids)
  unfolding listing ◌>>=◌ contains any_of
  listed_ship ids k h e = rw (contains-at ids k h (rw (e, same_refl id)))

-- ---- the ids of a table's names
each_map : {A B C : Type 0} (f : A → B) (g : B → List C) (l : List A) → each (map f l) g ≡ each l (λ x. g (f x))
unfolding each
each_map f g [] = refl
each_map {A} {B} {C} f g (x ∷ l) = ap (λ (r : List C). g (f x) ++ r) (each_map f g l)

-- under a name, as under its id
abbrev by_name : (x : Context) (p : Pair) → Option Id → List Id
by_name x p known = ◌>>=◌ known (λ id. ◌>>=◌ (value p.result id) (λ v. to_i32 v ∷ []))

under_is : (x : Context) (p : Pair) (known : Option Id) → ◌>>=◌ (listed_under p.result known) (λ id. id ∷ []) ≡ by_name x p known
unfolding listed_under ◌>>=◌ given
under_is x p None = refl
under_is x p (Some id) = go (value p.result id)
  where
    go : (o : Option Float) → ◌>>=◌ (given o None (λ v. Some (to_i32 v))) (λ i. i ∷ []) ≡ ◌>>=◌ o (λ v. to_i32 v ∷ [])
    go None = refl
    go (Some v) = refl

each_same : {A B : Type 0} (f g : A → List B) → ((x : A) → f x ≡ g x) → (l : List A) → each l f ≡ each l g
unfolding each
each_same f g h [] = refl
each_same {A} {B} f g h (x ∷ l) = ap₂ (λ (a b : List B). a ++ b) (h x) (each_same f g h l)

pub listed-ids : (x : Context) (p : Pair) (rows : List ℕ) (ids : List (Option Id)) → IdsOf x.names rows ids → listed_in p.result ids ≡ listed x p rows
unfolding listed
listed-ids x p rows ids e =
    each_same (λ known. ◌>>=◌ (listed_under p.result known) (λ id. id ∷ [])) (by_name x p) (under_is x p) ids ∙ ap (λ (l : List (Option Id)). each l (by_name x p)) e ∙ each_map (name_id x.names) (by_name x p) rows
