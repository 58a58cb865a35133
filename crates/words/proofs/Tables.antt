-- Tables: their elements, searches and tests over them, and their order.
use Prim.Native.Nat.{ℕ, zero, suc, ◌+◌, ◌-◌, ◌≤◌, ◌<◌}
use native.Mathlib.Nat.{le_of_suc-le-suc, not-suc-le-zero, add-zero, zero-add, eq-or-lt_of_le}
use native.Mathlib.Numerals.{add-one}
use native.Mathlib.Omega.{arith}
use mathlib.Core.Path.{◌≡◌, refl, sym, ap, ◌∙◌}
use mathlib.Core.Bool.{Bool, true, false, ◌||◌, ◌&&◌, cond}
use mathlib.Core.List.{List, [], ◌∷◌, ◌++◌, map, append-nil, foldl, foldl-append}
use Rattle.std.specs.Prelude.{Option, None, Some}
use mathlib.Core.Logic.{⊎_elim}
use mathlib.Mathlib.Data.Bool.Basic.{or-eq-false-eq-eq-false-and-eq-false}
use lib.ListN.{length, length-append, get_or}
use Rattle.words.specs.Words.{table_from, table, from, each, only, count_of, find, any_of, sum_of, in_order, given}
use Rattle.words.proofs.Steps.{each_append, only-append, sum_append}

module _ {A : Type 0} where
  pub length-table : (i n : ℕ) (f : ℕ → A) → length (table_from i n f) ≡ n
  unfolding table_from
  length-table i zero f = refl
  length-table i (suc n) f = ap suc (length-table (suc i) n f)

  pub get_or-table_from : (i n : ℕ) (f : ℕ → A) (j : ℕ) (d : A) → j < n → get_or (table_from i n f) j d ≡ f (i + j)
  unfolding table_from
  get_or-table_from i zero f j d h = absurd (not-suc-le-zero h)
  get_or-table_from i (suc n) f zero d h = ap f (omega arith)
  get_or-table_from i (suc n) f (suc j) d h = let q : suc i + j ≡ i + suc j = omega arith in get_or-table_from (suc i) n f j d (le_of_suc-le-suc h) ∙ ap f q

  pub get_or-table : (n : ℕ) (f : ℕ → A) (j : ℕ) (d : A) → j < n → get_or (table n f) j d ≡ f j
  get_or-table n f j d h = get_or-table_from 0 n f j d h ∙ ap f (zero-add j)

  same_from : (i n : ℕ) (f g : ℕ → A) → ((j : ℕ) → j < i + n → f j ≡ g j) → table_from i n f ≡ table_from i n g
  unfolding table_from
  same_from i zero f g h = refl
  same_from i (suc n) f g h =
      ap (λ (x : A). x ∷ table_from (suc i) n f) (h i (omega arith))
      ∙ ap (λ (l : List A). g i ∷ l) (same_from (suc i) n f g (λ j q. h j (omega (arith, q))))

  -- two tables that agree below n
  pub table_same : (n : ℕ) (f g : ℕ → A) → ((j : ℕ) → j < n → f j ≡ g j) → table n f ≡ table n g
  table_same n f g h = same_from 0 n f g (λ j q. h j (omega (arith, q)))

  more_from : (i n : ℕ) (f : ℕ → A) → table_from i (suc n) f ≡ table_from i n f ++ (f (i + n) ∷ [])
  unfolding table_from
  more_from i zero f = ap (λ (k : ℕ). f k ∷ []) (sym (add-zero i))
  more_from i (suc n) f =
      let q : suc i + n ≡ i + suc n = omega arith in
      ap (λ (l : List A). f i ∷ l) (more_from (suc i) n f ∙ ap (λ (k : ℕ). table_from (suc i) n f ++ (f k ∷ [])) q)

  -- one more element
  pub table_more : (n : ℕ) (f : ℕ → A) → table (n + 1) f ≡ table n f ++ (f n ∷ [])
  table_more n f = rw add-one (more_from 0 n f ∙ ap (λ (k : ℕ). table n f ++ (f k ∷ [])) (zero-add n))

module _ {A B : Type 0} where
  map-from : (g : A → B) (i n : ℕ) (f : ℕ → A) → map g (table_from i n f) ≡ table_from i n (λ j. g (f j))
  unfolding table_from
  map-from g i zero f = refl
  map-from g i (suc n) f = ap (λ (l : List B). g (f i) ∷ l) (map-from g (suc i) n f)

  pub map-table : (g : A → B) (n : ℕ) (f : ℕ → A) → map g (table n f) ≡ table n (λ j. g (f j))
  map-table g n f = map-from g 0 n f

-- ---- searches
module _ {A : Type 0} (t : A → Bool) where
  find-from : (i n : ℕ) (f : ℕ → A) → find t (table_from i n f) ≡ given (find (λ j. t (f j)) (from i n)) None (λ j. Some (f j))
  unfolding table_from find given
  find-from i zero f = refl
  find-from i (suc n) f = go (t (f i)) (find-from (suc i) n f)
    where
      go : (b : Bool) → find t (table_from (suc i) n f) ≡ given (find (λ j. t (f j)) (from (suc i) n)) None (λ j. Some (f j))
          → cond b (Some (f i)) (find t (table_from (suc i) n f)) ≡ given (cond b (Some i) (find (λ j. t (f j)) (from (suc i) n))) None (λ j. Some (f j))
      go true h = refl
      go false h = h

  -- a search through a table is one for the first number that passes
  pub find-table : (n : ℕ) (f : ℕ → A) → find t (table n f) ≡ given (find (λ j. t (f j)) (from 0 n)) None (λ j. Some (f j))
  find-table n f = find-from 0 n f

  none_from : (i n : ℕ) (f : ℕ → A) → ((j : ℕ) → i ≤ j → j < i + n → t (f j) ≡ false) → find t (table_from i n f) ≡ None
  unfolding table_from find
  none_from i zero f h = refl
  none_from i (suc n) f h = rw (h i (omega arith) (omega arith)) (none_from (suc i) n f (λ j p q. h j (omega (arith, p)) (omega (arith, q))))

  at_from : (i n : ℕ) (f : ℕ → A) (r : ℕ) → i ≤ r → r < i + n → ((j : ℕ) → i ≤ j → j < r → t (f j) ≡ false) → t (f r) ≡ true
      → find t (table_from i n f) ≡ Some (f r)
  unfolding table_from find
  at_from i zero f r a b h e = absurd (bad a b)
    where
      bad : i ≤ r → r < i + 0 → ⊥
      bad a b = omega arith
  at_from i (suc n) f r a b h e =
      ⊎_elim
      (λ (q : i ≡ r). let g : t (f i) ≡ true = ap (λ (k : ℕ). t (f k)) q ∙ e in rw g (ap (λ (k : ℕ). Some (f k)) q))
      (λ (q : i < r).
      rw (h i (omega arith) q) (at_from (suc i) n f r q (omega arith) (λ j p l. h j (omega (arith, p)) l) e))
      (eq-or-lt_of_le a)

  pub find_none : (n : ℕ) (f : ℕ → A) → ((j : ℕ) → j < n → t (f j) ≡ false) → find t (table n f) ≡ None
  find_none n f h = none_from 0 n f (λ j p q. h j (omega (arith, q)))

  pub find_at : (n : ℕ) (f : ℕ → A) (r : ℕ) → r < n → ((j : ℕ) → j < r → t (f j) ≡ false) → t (f r) ≡ true → find t (table n f) ≡ Some (f r)
  find_at n f r a h e = at_from 0 n f r (omega arith) (omega (arith, a)) (λ j p q. h j q) e

  false-from : (i n : ℕ) (f : ℕ → A) → any_of t (table_from i n f) ≡ false → (j : ℕ) → i ≤ j → j < i + n → t (f j) ≡ false
  unfolding table_from any_of
  false-from i zero f e j p q = absurd (bad p q)
    where
      bad : i ≤ j → j < i + 0 → ⊥
      bad p q = omega arith
  false-from i (suc n) f e j p q =
      let o = (or-eq-false-eq-eq-false-and-eq-false (t (f i)) (any_of t (table_from (suc i) n f))).0 e in
      ⊎_elim
      (λ (h : i ≡ j). ap (λ (k : ℕ). t (f k)) (sym h) ∙ o.0)
      (λ (h : i < j). false-from (suc i) n f o.1 j h (omega arith))
      (eq-or-lt_of_le p)

  any-from : (i n : ℕ) (f : ℕ → A) → any_of t (table_from i (suc n) f) ≡ any_of t (table_from i n f) || t (f (i + n))
  unfolding table_from any_of
  any-from i zero f = ap (λ (k : ℕ). t (f k) || false) (sym (add-zero i)) ∙ or_false (t (f (i + 0)))
    where
      or_false : (b : Bool) → b || false ≡ b
      or_false true = refl
      or_false false = refl
  any-from i (suc n) f =
      let q : suc i + n ≡ i + suc n = omega arith in
      ap (λ (b : Bool). t (f i) || b) (any-from (suc i) n f ∙ ap (λ (k : ℕ). any_of t (table_from (suc i) n f) || t (f k)) q)
      ∙ sym (or_assoc (t (f i)) (any_of t (table_from (suc i) n f)) (t (f (i + suc n))))
    where
      or_assoc : (a b c : Bool) → (a || b) || c ≡ a || (b || c)
      or_assoc true b c = refl
      or_assoc false b c = refl

  pub any-more : (n : ℕ) (f : ℕ → A) → any_of t (table (n + 1) f) ≡ any_of t (table n f) || t (f n)
  any-more n f = rw add-one (any-from 0 n f ∙ ap (λ (k : ℕ). any_of t (table n f) || t (f k)) (zero-add n))

  -- no element passes
  pub any_false : (n : ℕ) (f : ℕ → A) → any_of t (table n f) ≡ false → (j : ℕ) → j < n → t (f j) ≡ false
  any_false n f e j h = false-from 0 n f e j (omega arith) (omega (arith, h))

  pub any_none : (f : ℕ → A) → any_of t (table 0 f) ≡ false
  unfolding table_from any_of
  any_none f = refl

-- what is made of what is made
pub given_made : {A B C : Type 0} (o : Option A) (g : A → B) (z : C) (h : B → C) → given (given o None (λ x. Some (g x))) z h ≡ given o z (λ x. h (g x))
unfolding given
given_made None g z h = refl
given_made (Some x) g z h = refl

-- what is made of the element that a search finds
pub find-made : {A B : Type 0} (t : A → Bool) (g : A → B) (n : ℕ) (f : ℕ → A)
    → given (find t (table n f)) None (λ x. Some (g x)) ≡ given (find (λ j. t (f j)) (from 0 n)) None (λ j. Some (g (f j)))
find-made {A} {B} t g n f =
    ap (λ (o : Option A). given o None (λ x. Some (g x))) (find-table t n f) ∙ given_made (find (λ j. t (f j)) (from 0 n)) f None (λ x. Some (g x))

-- ---- searches for a number
module _ (t s : ℕ → Bool) where
  alike_from : (i n : ℕ) → ((j : ℕ) → j < i + n → t j ≡ s j) → find t (from i n) ≡ find s (from i n)
  unfolding table_from find
  alike_from i zero h = refl
  alike_from i (suc n) h = rw (h i (omega arith), alike_from (suc i) n (λ j q. h j (omega (arith, q))))

  -- two tests that agree below n find the same
  pub find-alike : (n : ℕ) → ((j : ℕ) → j < n → t j ≡ s j) → find t (from 0 n) ≡ find s (from 0 n)
  find-alike n h = alike_from 0 n (λ j q. h j (omega (arith, q)))

below_from : (t : ℕ → Bool) (i n r : ℕ) → find t (from i n) ≡ Some r → r < i + n
unfolding table_from find
below_from t i zero r e = absurd (let z : ◌≡◌ {A = ℕ} 0 1 = cc in omega arith)
below_from t i (suc n) r e = go (t i) e (below_from t (suc i) n r)
  where
    go : (b : Bool) → cond b (Some i) (find t (from (suc i) n)) ≡ Some r → (find t (from (suc i) n) ≡ Some r → r < suc i + n) → r < i + suc n
    go true q h = let p : i ≡ r = cc in omega arith
    go false q h = omega (arith, h q)

-- what is found is below n
pub find-below : (t : ℕ → Bool) (n r : ℕ) → find t (from 0 n) ≡ Some r → r < n
find-below t n r e = omega (arith, below_from t 0 n r e)

-- a test of what is made of each element
module _ {A B : Type 0} (t : B → Bool) (g : A → B) where
  any-made : (i n : ℕ) (f : ℕ → A) → any_of (λ x. t (g x)) (table_from i n f) ≡ any_of t (table_from i n (λ j. g (f j)))
  unfolding table_from any_of
  any-made i zero f = refl
  any-made i (suc n) f = ap (λ (b : Bool). t (g (f i)) || b) (any-made (suc i) n f)

  pub any-table : (n : ℕ) (f : ℕ → A) → any_of (λ x. t (g x)) (table n f) ≡ any_of t (table n (λ j. g (f j)))
  any-table n f = any-made 0 n f

-- ---- order
module _ {A : Type 0} (r : A → A → Bool) where
  and_assoc : (a b c : Bool) → (a && b) && c ≡ a && (b && c)
  and_assoc true b c = refl
  and_assoc false b c = refl

  and_true : (a : Bool) → a && true ≡ a
  and_true true = refl
  and_true false = refl

  order_from : (i n : ℕ) (f : ℕ → A) → in_order r (table_from i (suc (suc n)) f) ≡ in_order r (table_from i (suc n) f) && r (f (i + n)) (f (i + suc n))
  unfolding table_from in_order
  order_from i zero f =
      let p : i + 0 ≡ i = omega arith in
      let q : i + 1 ≡ suc i = omega arith in
      rw (p, q) (and_true (r (f i) (f (suc i))))
  order_from i (suc n) f =
      let p : suc i + n ≡ i + suc n = omega arith in
      let q : suc i + suc n ≡ i + suc (suc n) = omega arith in
      let h = order_from (suc i) n f in
      ap (λ (b : Bool). r (f i) (f (suc i)) && b) (h ∙ ap (λ (k : ℕ). in_order r (table_from (suc i) (suc n) f) && r (f k) (f (suc i + suc n))) p
      ∙ ap (λ (k : ℕ). in_order r (table_from (suc i) (suc n) f) && r (f (i + suc n)) (f k)) q)
      ∙ sym (and_assoc (r (f i) (f (suc i))) (in_order r (table_from (suc i) (suc n) f)) (r (f (i + suc n)) (f (i + suc (suc n)))))

  -- one more element: it follows the last in order
  pub order-more : (i : ℕ) (f : ℕ → A) → 0 < i → in_order r (table (i + 1) f) ≡ in_order r (table i f) && r (f (i - 1)) (f i)
  order-more zero f h = absurd (not-suc-le-zero h)
  order-more (suc n) f h =
      let p : 0 + n ≡ suc n - 1 = omega arith in
      let q : 0 + suc n ≡ suc n = omega arith in
      let e : suc n + 1 ≡ suc (suc n) = omega arith in
      rw e (order_from 0 n f ∙ ap (λ (k : ℕ). in_order r (table (suc n) f) && r (f k) (f (0 + suc n))) p
      ∙ ap (λ (k : ℕ). in_order r (table (suc n) f) && r (f (suc n - 1)) (f k)) q)

  pub order-one : (f : ℕ → A) → in_order r (table 1 f) ≡ true
  unfolding table_from in_order
  order-one f = refl

  pub order-none : (f : ℕ → A) → in_order r (table 0 f) ≡ true
  unfolding table_from in_order
  order-none f = refl

-- two relations that agree on two tables
module _ {A B : Type 0} (r : A → A → Bool) (s : B → B → Bool) (f : ℕ → A) (g : ℕ → B) (h : (i j : ℕ) → r (f i) (f j) ≡ s (g i) (g j)) where
  order_alike : (i n : ℕ) → in_order r (table_from i n f) ≡ in_order s (table_from i n g)
  unfolding table_from in_order
  order_alike i zero = refl
  order_alike i (suc zero) = refl
  order_alike i (suc (suc n)) = rw (h i (suc i), order_alike (suc i) (suc n))

  pub order_same : (n : ℕ) → in_order r (table n f) ≡ in_order s (table n g)
  order_same n = order_alike 0 n

-- ---- one more element of a table, word by word
module _ {A B : Type 0} (f : ℕ → A) where
  pub each_more : (g : A → List B) (n : ℕ) → each (table (n + 1) f) g ≡ each (table n f) g ++ g (f n)
  unfolding each
  each_more g n =
      ap (λ (l : List A). each l g) (table_more n f) ∙ each_append g (table n f) (f n ∷ [])
      ∙ ap (λ (l : List B). each (table n f) g ++ l) (append-nil (g (f n)))

  pub each_none : (g : A → List B) → each (table 0 f) g ≡ []
  unfolding each table_from
  each_none g = refl

  pub foldl_more : (g : B → A → B) (b : B) (n : ℕ) → foldl g b (table (n + 1) f) ≡ g (foldl g b (table n f)) (f n)
  foldl_more g b n = ap (foldl g b) (table_more n f) ∙ foldl-append g b (table n f) (f n ∷ [])

module _ {A : Type 0} (f : ℕ → A) where
  pub only-more : (t : A → Bool) (n : ℕ) → only t (table (n + 1) f) ≡ only t (table n f) ++ cond (t (f n)) (f n ∷ []) []
  unfolding only
  only-more t n = ap (only t) (table_more n f) ∙ only-append t (table n f) (f n ∷ [])

  pub sum_more : (g : A → ℕ) (n : ℕ) → sum_of g (table (n + 1) f) ≡ sum_of g (table n f) + g (f n)
  unfolding sum_of
  sum_more g n =
      ap (sum_of g) (table_more n f) ∙ sum_append g (table n f) (f n ∷ []) ∙
      (let q : sum_of g (table n f) + (g (f n) + 0) ≡ sum_of g (table n f) + g (f n) = omega arith in q)

  -- the sum over those that pass
  module _ (t : A → Bool) (g : A → ℕ) where
    pub sum_only_none : sum_of g (only t (table 0 f)) ≡ 0
    unfolding sum_of only table_from
    sum_only_none = refl

    pub sum_only_more : (n : ℕ) → sum_of g (only t (table (n + 1) f)) ≡ sum_of g (only t (table n f)) + cond (t (f n)) (g (f n)) 0
    unfolding sum_of
    sum_only_more n =
        ap (sum_of g) (only-more t n) ∙ sum_append g (only t (table n f)) (cond (t (f n)) (f n ∷ []) [])
        ∙ ap (λ (k : ℕ). sum_of g (only t (table n f)) + k) (go (t (f n)))
      where
        go : (b : Bool) → sum_of g (cond b (f n ∷ []) []) ≡ cond b (g (f n)) 0
        go true = add-zero (g (f n))
        go false = refl

  pub count-more : (t : A → Bool) (n : ℕ) → count_of t (table (n + 1) f) ≡ count_of t (table n f) + cond (t (f n)) 1 0
  unfolding count_of
  count-more t n =
      ap length (only-more t n) ∙ length-append (only t (table n f)) (cond (t (f n)) (f n ∷ []) [])
      ∙ ap (λ (k : ℕ). length (only t (table n f)) + k) (go (t (f n)))
    where
      go : (b : Bool) → length (cond b (f n ∷ []) []) ≡ cond b 1 0
      go true = refl
      go false = refl

  pub count_none : (t : A → Bool) → count_of t (table 0 f) ≡ 0
  unfolding count_of only table_from
  count_none t = refl
