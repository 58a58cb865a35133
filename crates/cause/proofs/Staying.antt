-- A part shows an entry of the list exactly where the entry's own pair is kept and its rule is still broken by the pairs that are left. So
-- a cause is thinned by that test, and no list has to be run again.
use Prim.Native.Nat.{ℕ, zero, suc, ◌+◌, ◌<◌}
use native.Mathlib.Omega.{arith}
use mathlib.Core.Path.{◌≡◌, refl, sym, ap, ◌∙◌}
use mathlib.Core.Bool.{Bool, true, false, ◌&&◌, cond, true≢false}
use mathlib.Core.List.{List, [], ◌∷◌}
use lib.ListN.{length}
use Rattle.std.specs.Prelude.{Some, slice_get}
use Rattle.std.proofs.lemmas.Bool.{eq-eqb, or_right}
use Rattle.words.specs.Words.{any_of}
use Rattle.words.proofs.Tables.{get_or-table}
use Rattle.catalogue.specs.Catalogue.{Catalogue}
use Rattle.fit.specs.Fit.{Result, Fit}
use Rattle.fit.specs.Fit as Fit
use Rattle.entry.specs.declared.Target.{Target}
use Rattle.entry.specs.declared.Target.TheVariants.{Ship, Item}
use Rattle.entry.specs.declared.Entry.{Entry}
use Rattle.entry.specs.Entries.{fields, number, place}
use Rattle.context.specs.Context.{Pair, context, pair_of, pairs_from, pairs}
use Rattle.lists.specs.Terms.{main}
use Rattle.lists.specs.Lists.{whole_list}
use Rattle.parts.specs.Parts.{every, less, down_from, thinned}
use Rattle.cause.specs.Cause.{id_of, alike, same_target, is_about, is_kept, shows, cause_of}
use Rattle.cause.specs.Members.{own, sub_of, is_broken, stays}
use Rattle.cause.proofs.Showing.{listed_among, shows-chosen}
use Rattle.cause.proofs.Listed.{none_some, some_same, whole-alike}

-- ---- a list that has an element that passes
pub any-at : {A : Type 0} (t : A → Bool) (l : List A) (i : ℕ) (x : A) → slice_get l i ≡ Some x → t x ≡ true → any_of t l ≡ true
unfolding any_of
any-at t [] i x e h = none_some e
any-at t (y ∷ l) zero x e h = rw (some_same y x e, h)
any-at t (y ∷ l) (suc i) x e h = or_right (t y) (any_of t l) (any-at t l i x e h)

-- ---- a pair's number is its place
numbered_from : (c : Catalogue) (n : ℕ) (is : List Fit.Item) (rs : List Result) (i : ℕ) (p : Pair)
    → slice_get (pairs_from c n is rs) i ≡ Some p → p.position ≡ n + i
unfolding pairs_from
numbered_from c n [] rs i p e = none_some e
numbered_from c n (j ∷ is) [] i p e = none_some e
numbered_from c n (j ∷ is) (r ∷ rs) zero p e =
    ap (λ (q : Pair). q.position) (sym (some_same (pair_of c n j r) p e)) ∙ (let q : n ≡ n + 0 = omega arith in q)
numbered_from c n (j ∷ is) (r ∷ rs) (suc i) p e =
    numbered_from c (suc n) is rs i p e ∙ (let q : suc n + i ≡ n + suc i = omega arith in q)

pub numbered : (c : Catalogue) (f : Fit) (i : ℕ) (p : Pair) → slice_get (pairs c f) i ≡ Some p → p.position ≡ i
unfolding pairs
numbered c f i p e = numbered_from c 0 f.items f.results i p e ∙ (let q : 0 + i ≡ i = omega arith in q)

-- two tests that agree thin alike
pub thinned-same : (t u : List Bool → Bool) → ((s : List Bool) → t s ≡ u s)
    → (s : List Bool) (is : List ℕ) → thinned t s is ≡ thinned u s is
unfolding thinned
thinned-same t u h s [] = refl
thinned-same t u h s (i ∷ is) =
    ap (λ (b : Bool). thinned t (cond b (less s i) s) is) (h (less s i)) ∙ thinned-same t u h (cond (u (less s i)) (less s i) s) is

module _ (c : Catalogue) (f : Fit) (e : Entry) where
  -- the entry's own pair is kept and its rule still broken
  abbrev pub passes : List Bool → Bool
  passes kept = is_kept kept e.target && stays c f e kept

  -- the list has the entry, whatever it says of used and level numbers
  abbrev pub is_listed : Bool
  is_listed = any_of (is_about e.target e.rule) (whole_list main c f)

  own_about : is_about e.target e.rule e ≡ true
  unfolding is_about same_target alike
  own_about =
      rw (
        eq-eqb (place e.target).0 (place e.target).0 refl,
        eq-eqb (place e.target).1 (place e.target).1 refl,
        eq-eqb (fields e.rule).0 (fields e.rule).0 refl,
        eq-eqb (fields e.rule).1 (fields e.rule).1 refl,
        eq-eqb (id_of e.rule) (id_of e.rule) refl,
      )

  -- it has, where the entry stands at some place
  pub listed_at : (position : ℕ) → slice_get (whole_list main c f) position ≡ Some e → is_listed ≡ true
  listed_at position q = any-at (is_about e.target e.rule) (whole_list main c f) position e q own_about

  module _ (listed : is_listed ≡ true) where
    -- a set that has the entry's own pair
    some_kept : (t : Target) → (kept : List Bool) × (is_kept kept t ≡ true)
    unfolding is_kept
    some_kept Ship = ([], refl)
    some_kept (Item i) = (every (suc i), get_or-table (suc i) (λ _. true) i false (omega arith))

    both_of : (a b : Bool) → true ≡ a && b → (a ≡ true) × (b ≡ true)
    both_of true b e = (refl, sym e)
    both_of false b e = absurd (true≢false e)

    -- its target is the ship or one of the pairs, and its rule is broken by all of them
    listed-all : ((i : ℕ) → own e.target ≡ Some i → i < length (pairs c f))
        × (is_broken (context c f.frame) (pairs c f) (own e.target) (number e) (sub_of e) (pairs c f) ≡ true)
    unfolding whole_list
    listed-all =
        let k = some_kept e.target in
        let h = whole-alike (context c f.frame) (pairs c f) k.0 e.target e.rule k.1 (numbered c f) c f.frame f.skills refl in
        let b = both_of _ _ (sym listed ∙ h.first) in
        (h.whose b.0, b.1)

    pub own_below : (i : ℕ) → own e.target ≡ Some i → i < length (pairs c f)
    own_below = listed-all.0

    pub broken_by_all : is_broken (context c f.frame) (pairs c f) (own e.target) (number e) (sub_of e) (pairs c f) ≡ true
    broken_by_all = listed-all.1

    broken-kept : (kept : List Bool) → is_kept kept e.target ≡ true → listed_among c f kept e ≡ stays c f e kept
    unfolding whole_list stays
    broken-kept kept k =
        let h = whole-alike (context c f.frame) (pairs c f) kept e.target e.rule k (numbered c f) c f.frame f.skills refl in
        decided h.has _ _ _ h.second (sym listed ∙ h.first)
      where
        decided : (a p x y : Bool) → x ≡ a && y → true ≡ a && p → x ≡ y
        decided true p x y s q = s
        decided false p x y s q = absurd (true≢false q)

    -- the law
    pub shows-stays : (kept : List Bool) → shows c f e kept ≡ passes kept
    shows-stays kept = shows-chosen c f e kept ∙ go (is_kept kept e.target) refl
      where
        go : (b : Bool) → is_kept kept e.target ≡ b → b && listed_among c f kept e ≡ b && stays c f e kept
        go true k = broken-kept kept k
        go false k = refl

    pub cause-passes : cause_of c f e ≡ thinned passes (every (length (pairs c f))) (down_from (length (pairs c f)))
    unfolding cause_of
    cause-passes = thinned-same (shows c f e) passes shows-stays (every (length (pairs c f))) (down_from (length (pairs c f)))
