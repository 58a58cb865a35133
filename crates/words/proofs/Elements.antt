-- From all of a table to each of its elements, and back: tests of any, sums, tables begun later.
use Prim.Native.Nat.{ℕ, zero, suc, ◌+◌, ◌≤◌, ◌<◌}
use native.Mathlib.Nat.{not-suc-le-zero, le_of_suc-le-suc, add-zero}
use native.Mathlib.Omega.{arith}
use mathlib.Core.Path.{◌≡◌, refl, sym, ap, ◌∙◌, subst}
use mathlib.Core.Bool.{Bool, true, false, ◌||◌, cond}
use mathlib.Core.List.{List, ◌∷◌}
use Rattle.std.specs.Prelude.{None, Some}
use Rattle.std.specs.Prelude.{slice_get}
use Rattle.words.specs.Words.{table_from, table, any_of, sum_of}
use Rattle.words.proofs.Tables.{any-more}

pub or_left : (a b : Bool) → a || b ≡ false → a ≡ false
or_left false b e = refl
or_left true b e = e

pub or_right : (a b : Bool) → a || b ≡ false → b ≡ false
or_right false b e = e
or_right true b e = absurd (subst (λ (t : Bool). cond t (Prim.Unit {0}) ⊥) e tt)

-- ---- tests
module _ {A : Type 0} (t : A → Bool) (f : ℕ → A) where
  -- a turn of a loop that gathers the verdict
  pub any-turn : (i : ℕ) (bad r s : Bool) → bad ≡ any_of t (table i f) → s ≡ t (f i) → r ≡ bad || s → r ≡ any_of t (table (i + 1) f)
  any-turn i bad r s e q h = h ∙ rw (e, q) (sym (any-more t i f))

-- ---- sums
module _ {A : Type 0} (g : A → ℕ) (f : ℕ → A) where
  pub sum_none : sum_of g (table 0 f) ≡ 0
  unfolding table_from sum_of
  sum_none = refl

-- ---- tables
module _ {A : Type 0} where
  -- a table begun k later is one of f moved on by k
  pub table-later : (k i n : ℕ) (f : ℕ → A) → table_from (i + k) n f ≡ table_from i n (λ j. f (j + k))
  unfolding table_from
  table-later k i zero f = refl
  table-later k i (suc n) f =
      let q : suc (i + k) ≡ suc i + k = omega arith in
      ap (λ (l : List A). f (i + k) ∷ l) (ap (λ (m : ℕ). table_from m n f) q ∙ table-later k (suc i) n f)

  -- the first two, and the others
  pub table-two : (n : ℕ) (f : ℕ → A) → table (n + 2) f ≡ f 0 ∷ f 1 ∷ table n (λ j. f (j + 2))
  unfolding table_from
  table-two n f =
      let q : n + 2 ≡ suc (suc n) = omega arith in
      ap (λ (m : ℕ). table m f) q ∙ ap (λ (l : List A). f 0 ∷ f 1 ∷ l) (table-later 2 0 n f)

  elem_from : (i n : ℕ) (f : ℕ → A) (j : ℕ) → j < n → slice_get (table_from i n f) j ≡ Some (f (i + j))
  unfolding table_from
  elem_from i zero f j h = absurd (not-suc-le-zero h)
  elem_from i (suc n) f zero h = ap (λ (k : ℕ). Some (f k)) (sym (add-zero i))
  elem_from i (suc n) f (suc j) h =
      let q : suc i + j ≡ i + suc j = omega arith in
      elem_from (suc i) n f j (le_of_suc-le-suc h) ∙ ap (λ (k : ℕ). Some (f k)) q

  pub elem_table : (n : ℕ) (f : ℕ → A) (j : ℕ) → j < n → slice_get (table n f) j ≡ Some (f j)
  elem_table n f j h = let q : 0 + j ≡ j = omega arith in elem_from 0 n f j h ∙ ap (λ (k : ℕ). Some (f k)) q

  past_from : (i n : ℕ) (f : ℕ → A) (j : ℕ) → n ≤ j → slice_get (table_from i n f) j ≡ None
  unfolding table_from
  past_from i zero f j h = refl
  past_from i (suc n) f zero h = absurd (not-suc-le-zero h)
  past_from i (suc n) f (suc j) h = past_from (suc i) n f j (le_of_suc-le-suc h)

  pub past_table : (n : ℕ) (f : ℕ → A) (j : ℕ) → n ≤ j → slice_get (table n f) j ≡ None
  past_table n f j h = past_from 0 n f j h
