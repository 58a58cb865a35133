-- Some of a list, those that pass a test: lookups where what is looked for passes, order, numbers of places. By induction on the list.
use Prim.Native.Nat.{ℕ, zero, suc, ◌+◌, ◌≤◌, ◌<◌}
use native.Mathlib.Omega.{arith}
use mathlib.Core.Path.{◌≡◌, refl, sym, ap, ap₂, ◌∙◌, subst}
use mathlib.Core.Bool.{Bool, true, false, ◌||◌, cond}
use mathlib.Core.List.{List, [], ◌∷◌, map}
use Rattle.std.specs.Prelude.{Some}
use lib.Dec.{T}
use lib.ListN.{length, get_or}
use Rattle.words.specs.Words.{find, only, in_order, any_of, table_from, from}
use Rattle.words.proofs.All.{All, nil, cons}
use Rattle.words.proofs.Elements.{or_left, or_right}
use Rattle.promises.proofs.Placed.{and_both, and_left, and_right}

-- ---- lookups
module _ {A : Type 0} (p q : A → Bool) (kept : (x : A) → T (p x) → T (q x)) where
  pub find-only : (l : List A) → find p (only q l) ≡ find p l
  unfolding find only
  find-only [] = refl
  find-only (x ∷ l) = go (find-only l) (p x) refl (q x) refl
    where
      go : find p (only q l) ≡ find p l → (a : Bool) → p x ≡ a → (b : Bool) → q x ≡ b
          → find p (cond b (x ∷ only q l) (only q l)) ≡ cond a (Some x) (find p l)
      go i a e true f = ap (λ (c : Bool). cond c (Some x) (find p (only q l))) e ∙ ap (λ o. cond a (Some x) o) i
      go i true e false f = absurd (subst T f (kept x (subst T (sym e) tt)))
      go i false e false f = i

  pub only-only : (l : List A) → only p (only q l) ≡ only p l
  unfolding only
  only-only [] = refl
  only-only (x ∷ l) = go (only-only l) (p x) refl (q x) refl
    where
      go : only p (only q l) ≡ only p l → (a : Bool) → p x ≡ a → (b : Bool) → q x ≡ b
          → only p (cond b (x ∷ only q l) (only q l)) ≡ cond a (x ∷ only p l) (only p l)
      go i a e true f = ap (λ (c : Bool). cond c (x ∷ only p (only q l)) (only p (only q l))) e ∙ ap (λ o. cond a (x ∷ o) o) i
      go i true e false f = absurd (subst T f (kept x (subst T (sym e) tt)))
      go i false e false f = i

-- ---- order
-- some of a list in order are in order
module _ {A : Type 0} (r : A → A → Bool) (trans : (x y z : A) → T (r x y) → T (r y z) → T (r x z)) (q : A → Bool) where
  tail_order : (x : A) (l : List A) → T (in_order r (x ∷ l)) → T (in_order r l)
  unfolding in_order
  tail_order x [] h = tt
  tail_order x (y ∷ l) h = and_right (r x y) (in_order r (y ∷ l)) h

  -- what stands before a list in order stands before some of it
  before-order : (x : A) (l : List A) → T (in_order r (x ∷ l)) → T (in_order r (x ∷ only q l))
  unfolding in_order only
  before-order x [] h = tt
  before-order x (y ∷ l) h = go (before-order y l (and_right (r x y) (in_order r (y ∷ l)) h)) (λ k. before-order x l k) (q y)
    where
      skip : (l : List A) → T (r x y) → T (in_order r (y ∷ l)) → T (in_order r (x ∷ l))
      skip [] a b = tt
      skip (z ∷ l) a b =
          and_both (r x z) (in_order r (z ∷ l)) (trans x y z a (and_left (r y z) (in_order r (z ∷ l)) b))
          (and_right (r y z) (in_order r (z ∷ l)) b)

      go : T (in_order r (y ∷ only q l)) → (T (in_order r (x ∷ l)) → T (in_order r (x ∷ only q l))) → (b : Bool)
          → T (in_order r (x ∷ cond b (y ∷ only q l) (only q l)))
      go i j true = and_both (r x y) (in_order r (y ∷ only q l)) (and_left (r x y) (in_order r (y ∷ l)) h) i
      go i j false = j (skip l (and_left (r x y) (in_order r (y ∷ l)) h) (and_right (r x y) (in_order r (y ∷ l)) h))

  pub order-only : (l : List A) → T (in_order r l) → T (in_order r (only q l))
  unfolding only
  order-only [] h = h
  order-only (x ∷ l) h = go (order-only l (tail_order x l h)) (q x)
    where
      go : T (in_order r (only q l)) → (b : Bool) → T (in_order r (cond b (x ∷ only q l) (only q l)))
      go i true = before-order x l h
      go i false = i

-- ---- tests, and what is made of each
module _ {A : Type 0} (q : A → Bool) where
  -- a test that none passes
  pub any-only : (t : A → Bool) (l : List A) → any_of t l ≡ false → any_of t (only q l) ≡ false
  unfolding any_of only
  any-only t [] h = refl
  any-only t (x ∷ l) h = go (any-only t l (or_right (t x) (any_of t l) h)) (q x)
    where
      go : any_of t (only q l) ≡ false → (b : Bool) → any_of t (cond b (x ∷ only q l) (only q l)) ≡ false
      go i true = ap₂ (λ (a b : Bool). a || b) (or_left (t x) (any_of t l) h) i
      go i false = i

  pub few-only : (l : List A) → length (only q l) ≤ length l
  unfolding only
  few-only [] = omega arith
  few-only (x ∷ l) = go (few-only l) (q x)
    where
      go : length (only q l) ≤ length l → (b : Bool) → length (cond b (x ∷ only q l) (only q l)) ≤ suc (length l)
      go i true = omega (arith, i)
      go i false = omega (arith, i)

  -- what is kept passes, and is of the list
  pub all-only : {P : A → Type 0} {l : List A} → All P l → All (λ x. P x × T (q x)) (only q l)
  unfolding only
  all-only nil = nil
  all-only {P} (cons {x} {l} p h) = go (q x) refl (all-only h)
    where
      go : (b : Bool) → q x ≡ b → All (λ (x : A). P x × T (q x)) (only q l)
          → All (λ (x : A). P x × T (q x)) (cond b (x ∷ only q l) (only q l))
      go true e i = cons (p, subst T (sym e) tt) i
      go false e i = i

  -- where all pass, all are kept
  pub only-all : {l : List A} → All (λ x. T (q x)) l → only q l ≡ l
  unfolding only
  only-all nil = refl
  only-all (cons {x} {l} p h) = go (q x) p (only-all h)
    where
      go : (b : Bool) → T b → only q l ≡ l → cond b (x ∷ only q l) (only q l) ≡ x ∷ l
      go true p i = ap (λ (m : List A). x ∷ m) i
      go false p i = absurd p

module _ {A B : Type 0} (f : A → B) where
  -- what is made of those that pass
  pub map-only : (q : B → Bool) (l : List A) → map f (only (λ x. q (f x)) l) ≡ only q (map f l)
  unfolding only
  map-only q [] = refl
  map-only q (x ∷ l) = go (map-only q l) (q (f x))
    where
      go : map f (only (λ x. q (f x)) l) ≡ only q (map f l) → (b : Bool)
          → map f (cond b (x ∷ only (λ x. q (f x)) l) (only (λ x. q (f x)) l)) ≡ cond b (f x ∷ only q (map f l)) (only q (map f l))
      go i true = ap (λ (m : List B). f x ∷ m) i
      go i false = i

-- ---- tables
all_from : (i n m : ℕ) → i + n ≤ m → All (λ (j : ℕ). j < m) (from i n)
unfolding table_from
all_from i zero m h = nil
all_from i (suc n) m h = let l : i < m = omega (arith, h) in cons l (all_from (suc i) n m (omega (arith, h)))

-- the numbers below n are below n
pub all-below : (n : ℕ) → All (λ (j : ℕ). j < n) (from 0 n)
all-below n = all_from 0 n n (omega arith)

module _ {A : Type 0} where
  only-made : (q : A → Bool) (f : ℕ → A) (i n : ℕ) → only q (table_from i n f) ≡ map f (only (λ j. q (f j)) (from i n))
  unfolding table_from only
  only-made q f i zero = refl
  only-made q f i (suc n) = go (only-made q f (suc i) n) (q (f i))
    where
      go : only q (table_from (suc i) n f) ≡ map f (only (λ j. q (f j)) (from (suc i) n)) → (b : Bool)
          → cond b (f i ∷ only q (table_from (suc i) n f)) (only q (table_from (suc i) n f))
          ≡ map f (cond b (i ∷ only (λ j. q (f j)) (from (suc i) n)) (only (λ j. q (f j)) (from (suc i) n)))
      go h true = ap (λ (l : List A). f i ∷ l) h
      go h false = h

  -- some of a table are those of some places
  pub only-places : (q : A → Bool) (f : ℕ → A) (n : ℕ) → only q (table_from 0 n f) ≡ map f (only (λ j. q (f j)) (from 0 n))
  only-places q f n = only-made q f 0 n

  tabled : (f g : ℕ → A) (is : List ℕ) (a : ℕ) → ((k : ℕ) → k < length is → g (a + k) ≡ f (get_or is k 0))
      → table_from a (length is) g ≡ map f is
  unfolding table_from
  tabled f g [] a h = refl
  tabled f g (x ∷ is) a h =
      let z : a ≡ a + 0 = omega arith in
      ap₂ (λ (y : A) (l : List A). y ∷ l) (ap g z ∙ h 0 (omega arith))
      (tabled f g is (suc a) (λ k l. let s : suc a + k ≡ a + suc k = omega arith in ap g s ∙ h (suc k) (omega (arith, l))))

  -- a table whose record k is that of place k among some
  pub table-places : (f g : ℕ → A) (is : List ℕ) → ((k : ℕ) → k < length is → g k ≡ f (get_or is k 0))
      → table_from 0 (length is) g ≡ map f is
  table-places f g is h = tabled f g is 0 (λ k l. let z : 0 + k ≡ k = omega arith in ap g z ∙ h k l)
