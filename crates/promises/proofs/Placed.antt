-- `Placed`: each old element has a place of its own in the new list, in order. What the words of the definitions do to it, and the
-- places. By induction on it.
use Prim.Native.Nat.{ℕ, zero, suc, ◌≤◌, ◌<◌, zero-le, suc-le-suc}
use native.Mathlib.Nat.{le_trans, le_of_suc-le-suc, not-suc-le-zero}
use native.Mathlib.Omega.{arith}
use mathlib.Core.Path.{◌≡◌, sym, subst}
use mathlib.Core.Bool.{Bool, true, false, ◌&&◌, ◌||◌, cond}
use mathlib.Core.List.{List, [], ◌∷◌, ◌++◌}
use Rattle.std.specs.Prelude.{Option, None, Some}
use lib.Dec.{T, ltb, ltb→lt, lt→ltb}
use lib.ListN.{length, get_or}
use Rattle.words.specs.Words.{◌>>=◌, each, when, unless, only, count_of, sum_of, any_of}

-- ---- a list that others are put into, in any places
pub data Into {A : Type 0} : List A → List A → Type 0 where
  empty : Into [] []
  more : {x : A} {l m : List A} → Into l m → Into l (x ∷ m)
  both : {x : A} {l m : List A} → Into l m → Into (x ∷ l) (x ∷ m)

module _ {A : Type 0} where
  pub into_nil : (m : List A) → Into [] m
  into_nil [] = empty
  into_nil (x ∷ m) = more (into_nil m)

  pub into_append : (l m : List A) → Into l (l ++ m)
  into_append [] m = into_nil m
  into_append (x ∷ l) m = both (into_append l m)

  pub only-into : (t : A → Bool) {l m : List A} → Into l m → Into (only t l) (only t m)
  unfolding only
  only-into t empty = empty
  only-into t (more {x} {l} {m} s) = go (t x) (only-into t s)
    where
      go : (b : Bool) → Into (only t l) (only t m) → Into (only t l) (cond b (x ∷ only t m) (only t m))
      go true h = more h
      go false h = h
  only-into t (both {x} {l} {m} s) = go (t x) (only-into t s)
    where
      go : (b : Bool) → Into (only t l) (only t m) → Into (cond b (x ∷ only t l) (only t l)) (cond b (x ∷ only t m) (only t m))
      go true h = both h
      go false h = h

  length-into : {l m : List A} → Into l m → length l ≤ length m
  length-into empty = zero-le
  length-into (more s) = let h = length-into s in omega arith
  length-into (both s) = suc-le-suc (length-into s)

  pub count-into : (t : A → Bool) {l m : List A} → Into l m → count_of t l ≤ count_of t m
  unfolding count_of
  count-into t s = length-into (only-into t s)

  pub sum_into : (f : A → ℕ) {l m : List A} → Into l m → sum_of f l ≤ sum_of f m
  unfolding sum_of
  sum_into f empty = zero-le
  sum_into f (more s) = let h = sum_into f s in omega arith
  sum_into f (both s) = let h = sum_into f s in omega arith

  pub any-into : (t : A → Bool) {l m : List A} → Into l m → T (any_of t l) → T (any_of t m)
  unfolding any_of
  any-into t empty h = h
  any-into t (more {x} {l} {m} s) h = go (t x) (any-into t s h)
    where
      go : (b : Bool) → T (any_of t m) → T (b || any_of t m)
      go true h = tt
      go false h = h
  any-into t (both {x} {l} {m} s) h = go (t x) (any-into t s) h
    where
      go : (b : Bool) → (T (any_of t l) → T (any_of t m)) → T (b || any_of t l) → T (b || any_of t m)
      go true f h = tt
      go false f h = f h

-- ---- each old element is kept, others may stand between
pub data Placed {A : Type 0} (Keep : A → A → Type 0) : List A → List A → Type 0 where
  done : Placed Keep [] []
  skip : {b : A} {old new : List A} → Placed Keep old new → Placed Keep old (b ∷ new)
  keep : {a b : A} {old new : List A} → Keep a b → Placed Keep old new → Placed Keep (a ∷ old) (b ∷ new)

module _ {A : Type 0} {K : A → A → Type 0} where
  pub placed_join : {a b a' b' : List A} → Placed K a b → Placed K a' b' → Placed K (a ++ a') (b ++ b')
  placed_join done q = q
  placed_join (skip p) q = skip (placed_join p q)
  placed_join (keep k p) q = keep k (placed_join p q)

  placed_none : (l : List A) → Placed K [] l
  placed_none [] = done
  placed_none (e ∷ l) = skip (placed_none l)

  pub placed_refl : ((e : A) → K e e) → (l : List A) → Placed K l l
  placed_refl k [] = done
  placed_refl k (e ∷ l) = keep (k e) (placed_refl k l)

  -- an entry under a test that can only come to pass
  pub placed_when : (b b' : Bool) (e e' : A) → (T b → T b') → (T b → K e e') → Placed K (when b e) (when b' e')
  unfolding when
  placed_when true true e e' f k = keep (k tt) done
  placed_when true false e e' f k = absurd (f tt)
  placed_when false b' e e' f k = placed_none (cond b' (e' ∷ []) [])

  pub placed_unless : (b : Bool) {l m : List A} → Placed K l m → Placed K (unless b l) (unless b m)
  unfolding unless
  placed_unless true h = done
  placed_unless false h = h

  module _ {I : Type 0} where
    pub placed_bind : (o : Option I) {f g : I → List A} → ((x : I) → Placed K (f x) (g x)) → Placed K (◌>>=◌ o f) (◌>>=◌ o g)
    unfolding ◌>>=◌
    placed_bind None h = done
    placed_bind (Some x) h = h x

    pub placed_each : (l : List I) {f g : I → List A} → ((x : I) → Placed K (f x) (g x)) → Placed K (each l f) (each l g)
    unfolding each
    placed_each [] h = done
    placed_each (x ∷ l) h = placed_join (h x) (placed_each l h)

    -- over a list that others are put into
    pub placed_into : {l m : List I} → Into l m → {f g : I → List A} → ((x : I) → Placed K (f x) (g x)) → Placed K (each l f) (each m g)
    unfolding each
    placed_into empty h = done
    placed_into (more {x} s) {f} {g} h = placed_join (placed_none (g x)) (placed_into s h)
    placed_into (both {x} s) h = placed_join (h x) (placed_into s h)

  -- ---- the places
  pub place : {old new : List A} → Placed K old new → ℕ → ℕ
  place done i = 0
  place (skip p) i = suc (place p i)
  place (keep k p) zero = 0
  place (keep k p) (suc i) = suc (place p i)

  pub place-rising : {old new : List A} (p : Placed K old new) (i j : ℕ) → i < j → j < length old → place p i < place p j
  unfolding place
  place-rising done i j h l = absurd (not-suc-le-zero l)
  place-rising (skip p) i j h l = suc-le-suc (place-rising p i j h l)
  place-rising (keep k p) i zero h l = absurd (not-suc-le-zero h)
  place-rising (keep k p) zero (suc j) h l = suc-le-suc zero-le
  place-rising (keep k p) (suc i) (suc j) h l = suc-le-suc (place-rising p i j (le_of_suc-le-suc h) (le_of_suc-le-suc l))

  pub place_inside : {old new : List A} (p : Placed K old new) (i : ℕ) → i < length old → place p i < length new
  unfolding place
  place_inside done i l = absurd (not-suc-le-zero l)
  place_inside (skip p) i l = suc-le-suc (place_inside p i l)
  place_inside (keep k p) zero l = suc-le-suc zero-le
  place_inside (keep k p) (suc i) l = suc-le-suc (place_inside p i (le_of_suc-le-suc l))

  pub place-keeps : (d : A) {old new : List A} (p : Placed K old new) (i : ℕ) → i < length old → K (get_or old i d) (get_or new (place p i) d)
  unfolding place
  place-keeps d done i l = absurd (not-suc-le-zero l)
  place-keeps d (skip p) i l = place-keeps d p i l
  place-keeps d (keep k p) zero l = k
  place-keeps d (keep k p) (suc i) l = place-keeps d p i (le_of_suc-le-suc l)

-- ---- tests
pub and_both : (a b : Bool) → T a → T b → T (a && b)
and_both true b h k = k
and_both false b h k = h

pub and_left : (a b : Bool) → T (a && b) → T a
and_left true b h = tt
and_left false b h = h

pub and_right : (a b : Bool) → T (a && b) → T b
and_right true b h = h
and_right false b h = absurd h

pub or_left : (a b : Bool) → T a → T (a || b)
or_left true b h = tt
or_left false b h = absurd h

pub or_right : (a b : Bool) → T b → T (a || b)
or_right true b h = tt
or_right false b h = h

pub and_mono : (a b b' : Bool) → (T b → T b') → T (a && b) → T (a && b')
and_mono true b b' f h = f h
and_mono false b b' f h = h

pub ltb-mono : (a b b' : ℕ) → b ≤ b' → T (ltb a b) → T (ltb a b')
ltb-mono a b b' h t = lt→ltb a b' (le_trans (ltb→lt a b t) h)

-- a filter that cannot tell an old element from the one that keeps it keeps places
module _ {A : Type 0} {K : A → A → Type 0} (t : A → Bool) (alike : (a b : A) → K a b → t a ≡ t b) where
  pub placed_only : {old new : List A} → Placed K old new → Placed K (only t old) (only t new)
  unfolding only
  placed_only done = done
  placed_only (skip {b} {old} {new} p) = go (t b) (placed_only p)
    where
      go : (c : Bool) → Placed K (only t old) (only t new) → Placed K (only t old) (cond c (b ∷ only t new) (only t new))
      go true h = skip h
      go false h = h
  placed_only (keep {a} {b} {old} {new} k p) = go (t a) (t b) (alike a b k) (placed_only p)
    where
      go : (c d : Bool) → c ≡ d → Placed K (only t old) (only t new)
          → Placed K (cond c (a ∷ only t old) (only t old)) (cond d (b ∷ only t new) (only t new))
      go true true e h = keep k h
      go true false e h = absurd (subst T e tt)
      go false true e h = absurd (subst T (sym e) tt)
      go false false e h = h
