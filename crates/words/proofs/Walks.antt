-- Walks over a table whose elements that pass stand together: those before, those in the run, those after.
use Prim.Native.Nat.{ℕ, zero, suc, ◌+◌, ◌-◌, ◌≤◌, ◌<◌}
use native.Mathlib.Nat.{add-zero, zero-add, eq-or-lt_of_le, le_of_suc-le-suc}
use native.Mathlib.Numerals.{add-one}
use native.Mathlib.Omega.{arith}
use mathlib.Core.Path.{◌≡◌, refl, sym, ap, ◌∙◌}
use mathlib.Core.Bool.{Bool, true, false, ◌&&◌, cond}
use mathlib.Core.List.{[], ◌∷◌, ◌++◌, append-nil}
use Rattle.std.specs.Prelude.{Option, None, Some}
use mathlib.Core.Logic.{⊎_elim}
use Rattle.words.specs.Words.{table_from, table, only, find}
use Rattle.words.proofs.Steps.{only-append}
use Rattle.words.proofs.Tables.{table_more}

module _ {A : Type 0} (f : ℕ → A) where
  -- ---- those that pass, one element more at a time
  module _ (p : A → Bool) where
    only-table : (n : ℕ) → only p (table (n + 1) f) ≡ only p (table n f) ++ cond (p (f n)) (f n ∷ []) []
    unfolding only
    only-table n = ap (only p) (table_more n f) ∙ only-append p (table n f) (f n ∷ [])

    pub only_none : only p (table 0 f) ≡ []
    unfolding table_from only
    only_none = refl

    pub only-more : (n : ℕ) → p (f n) ≡ true → only p (table (n + 1) f) ≡ only p (table n f) ++ (f n ∷ [])
    only-more n e = only-table n ∙ rw e

    only-less : (n : ℕ) → p (f n) ≡ false → only p (table (n + 1) f) ≡ only p (table n f)
    only-less n e = only-table n ∙ rw e (append-nil (only p (table n f)))

    -- elements that do not pass change nothing
    pub only-skip : (i n : ℕ) → i ≤ n → ((k : ℕ) → i ≤ k → k < n → p (f k) ≡ false) → only p (table n f) ≡ only p (table i f)
    only-skip i zero h e = ap (λ (k : ℕ). only p (table k f)) (omega arith)
    only-skip i (suc n) h e =
        ⊎_elim
        (λ (q : i ≡ suc n). ap (λ (k : ℕ). only p (table k f)) (sym q))
        (λ (q : i < suc n). rw (← add-one n) (only-less n (e n (le_of_suc-le-suc q) (omega arith)) ∙ only-skip i n (le_of_suc-le-suc q)
        (λ k a b. e k a (omega (arith, b)))))
        (eq-or-lt_of_le h)

  -- ---- a search in what is left
  module _ (q : A → Bool) where
    pub find-done : (i n : ℕ) → n ≤ i → find q (table_from i (n - i) f) ≡ None
    unfolding table_from find
    find-done i n h = let e : n - i ≡ 0 = omega arith in rw e

    pub find-turn : (i n : ℕ) → i < n → find q (table_from i (n - i) f) ≡ cond (q (f i)) (Some (f i)) (find q (table_from (i + 1) (n - (i + 1)) f))
    unfolding table_from find
    find-turn i n h = let e : n - i ≡ suc (n - (i + 1)) = omega arith in rw (e, add-one i)

  -- ---- a search of the run
  module _ (p q : A → Bool) where
    none_in : (i n : ℕ) → ((k : ℕ) → i ≤ k → k < i + n → p (f k) ≡ false) → find (λ x. p x && q x) (table_from i n f) ≡ None
    unfolding table_from find
    none_in i zero h = refl
    none_in i (suc n) h = rw (h i (omega arith) (omega arith)) (none_in (suc i) n (λ k a b. h k (omega (arith, a)) (omega (arith, b))))

    past : (i n m : ℕ) → ((k : ℕ) → i ≤ k → k < i + n → p (f k) ≡ false)
        → find (λ x. p x && q x) (table_from i (n + m) f) ≡ find (λ x. p x && q x) (table_from (i + n) m f)
    unfolding table_from find
    past i zero m h = rw (zero-add, add-zero)
    past i (suc n) m h =
        let e : suc n + m ≡ suc (n + m) = omega arith in
        let d : suc i + n ≡ i + suc n = omega arith in
        rw (e, h i (omega arith) (omega arith)) (past (suc i) n m (λ k a b. h k (omega (arith, a)) (omega (arith, b)))
        ∙ ap (λ (j : ℕ). find (λ x. p x && q x) (table_from j m f)) d)

    within : (i n m : ℕ) → ((k : ℕ) → i ≤ k → k < i + n → p (f k) ≡ true) → ((k : ℕ) → i + n ≤ k → k < i + n + m → p (f k) ≡ false)
        → find (λ x. p x && q x) (table_from i (n + m) f) ≡ find q (table_from i n f)
    unfolding table_from find
    within i zero m h g = rw zero-add (none_in i m (λ k a b. g k (omega (arith, a)) (omega (arith, b))))
    within i (suc n) m h g =
        let e : suc n + m ≡ suc (n + m) = omega arith in
        rw (e, h i (omega arith) (omega arith)) (ap (λ (o : Option A). cond (q (f i)) (Some (f i)) o)
        (within (suc i) n m (λ k a b. h k (omega (arith, a)) (omega (arith, b))) (λ k a b. g k (omega (arith, a)) (omega (arith, b)))))

    -- of n elements those from i to j pass p: a search for p and q is one for q among them
    pub find-run : (i j n : ℕ) → i ≤ j → j ≤ n → ((k : ℕ) → k < i → p (f k) ≡ false) → ((k : ℕ) → i ≤ k → k < j → p (f k) ≡ true)
        → ((k : ℕ) → j ≤ k → k < n → p (f k) ≡ false) → find (λ x. p x && q x) (table n f) ≡ find q (table_from i (j - i) f)
    find-run i j n h g before inside after =
        let e : n ≡ i + (j - i + (n - j)) = omega arith in
        ap (λ (k : ℕ). find (λ x. p x && q x) (table k f)) e
        ∙ past 0 i (j - i + (n - j)) (λ k a b. before k (omega (arith, b)))
        ∙ ap (λ (k : ℕ). find (λ x. p x && q x) (table_from k (j - i + (n - j)) f)) (zero-add i)
        ∙ within i (j - i) (n - j) (λ k a b. inside k a (omega (arith, b, h))) (λ k a b. after k (omega (arith, a, h)) (omega (arith, b, h, g)))
