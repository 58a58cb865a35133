-- Pairs taken off from the last to the first: a pair is left exactly where the set does not pass without it, beside all pairs before it and
-- those behind it that are left. By induction on the pairs that are still to be tried.
use Prim.Native.Nat.{ℕ, zero, suc, ◌≤◌, ◌<◌}
use native.Mathlib.Nat.{not-suc-le-zero, le_of_suc-le-suc, eq-or-lt_of_le}
use native.Mathlib.Omega.{arith}
use mathlib.Core.Path.{◌≡◌, refl, sym, ap, ◌∙◌, subst}
use mathlib.Core.Bool.{Bool, true, false, not, ◌&&◌, ◌||◌, cond}
use mathlib.Core.List.{List, [], ◌∷◌}
use mathlib.Core.Logic.{◌⊎◌, inl, inr}
use lib.Dec.{T, ltb, ltb→lt, lt→ltb}
use lib.ListN.{length, length-set}
use Rattle.words.specs.Words.{table}
use Rattle.words.proofs.Tables.{length-table, get_or-table, table_same}
use Rattle.parts.specs.Parts.{every, holds, less, down_from, thinned}
use Rattle.parts.proofs.Thinning.{own_gone}
use Rattle.promises.specs.Causes.{without}
use Rattle.promises.proofs.Reading.{table-all}

is_true : (b : Bool) → T b → b ≡ true
is_true true h = refl
is_true false h = absurd h

less_other : (s : List Bool) (i j : ℕ) → (i ≡ j → ⊥) → holds (less s i) j ≡ holds s j
less_other [] i j n = refl
less_other (b ∷ s) zero zero n = absurd (n refl)
less_other (b ∷ s) zero (suc j) n = refl
less_other (b ∷ s) (suc i) zero n = refl
less_other (b ∷ s) (suc i) (suc j) n = less_other s i j (λ e. n (ap suc e))

module _ (t : List Bool → Bool) where
  abbrev turn : List Bool → ℕ → List Bool
  turn s i = cond (t (less s i)) (less s i) s

  turn_length : (s : List Bool) (i : ℕ) → length (turn s i) ≡ length s
  turn_length s i = go (t (less s i))
    where
      go : (b : Bool) → length (cond b (less s i) s) ≡ length s
      go true = length-set s i false
      go false = refl

  turn_other : (s : List Bool) (i j : ℕ) → (i ≡ j → ⊥) → holds (turn s i) j ≡ holds s j
  turn_other s i j n = go (t (less s i))
    where
      go : (b : Bool) → holds (cond b (less s i) s) j ≡ holds s j
      go true = less_other s i j n
      go false = refl

  -- the pair whose turn it is
  turn_own : (s : List Bool) (i : ℕ) → T (holds s i) → holds (turn s i) i ≡ not (t (less s i))
  turn_own s i h = go (t (less s i))
    where
      go : (b : Bool) → holds (cond b (less s i) s) i ≡ not b
      go true = own_gone s i
      go false = is_true (holds s i) h

  -- those that were tried stay as they are
  later_stays : (k : ℕ) (s : List Bool) (j : ℕ) → k ≤ j → holds (thinned t s (down_from k)) j ≡ holds s j
  unfolding thinned down_from
  later_stays zero s j h = refl
  later_stays (suc k) s j h = later_stays k (turn s k) j (omega (arith, h)) ∙ turn_other s k j (λ e. omega (arith, e, h))

  -- what is tried at a pair's turn, by what is left in the end
  tried : (k : ℕ) (s : List Bool) → ((j : ℕ) → j < k → T (holds s j))
      → less s k ≡ without (length s) (thinned t s (k ∷ down_from k)) k
  unfolding thinned
  tried k s full =
      sym (table-all (less s k))
      ∙ ap (λ (m : ℕ). table m (holds (less s k))) (length-set s k false)
      ∙ table_same (length s) (holds (less s k)) (λ j. ltb j k || (ltb k j && holds r j))
      (λ j _. go j (ltb j k) (ltb k j) (ltb→lt j k) (ltb→lt k j) (lt→ltb j k) (lt→ltb k j))
    where
      r : List Bool
      r = thinned t (turn s k) (down_from k)

      own : (j : ℕ) → (j < k → ⊥) → (k < j → ⊥) → j ≡ k
      own j f g = omega arith

      go : (j : ℕ) (a b : Bool) → (T a → j < k) → (T b → k < j) → (j < k → T a) → (k < j → T b)
          → holds (less s k) j ≡ (a || (b && holds r j))
      go j true b f g u v = let l = f tt in less_other s k j (λ e. omega (arith, e, l)) ∙ is_true (holds s j) (full j l)
      go j false true f g u v =
          let l = g tt in
          less_other s k j (λ e. omega (arith, e, l))
          ∙ sym (later_stays k (turn s k) j (omega (arith, l)) ∙ turn_other s k j (λ e. omega (arith, e, l)))
      go j false false f g u v = ap (holds (less s k)) (own j (λ l. u l) (λ l. v l)) ∙ own_gone s k

  left_where : (k : ℕ) (s : List Bool) → ((j : ℕ) → j < k → T (holds s j)) → (i : ℕ) → i < k
      → holds (thinned t s (down_from k)) i ≡ not (t (without (length s) (thinned t s (down_from k)) i))
  unfolding thinned down_from
  left_where zero s full i h = absurd (not-suc-le-zero h)
  left_where (suc k) s full i h =
      go (eq-or-lt_of_le (le_of_suc-le-suc h))
      (λ l. left_where k (turn s k) (λ j m. subst T (sym (turn_other s k j (λ e. omega (arith, e, m)))) (full j (omega (arith, m)))) i l)
    where
      r : List Bool
      r = thinned t (turn s k) (down_from k)

      own : holds r k ≡ not (t (without (length s) r k))
      own =
          later_stays k (turn s k) k (omega arith) ∙ turn_own s k (full k (omega arith))
          ∙ ap (λ (u : List Bool). not (t u)) (tried k s (λ j m. full j (omega (arith, m))))

      go : (i ≡ k) ⊎ (i < k) → (i < k → holds r i ≡ not (t (without (length (turn s k)) r i)))
          → holds r i ≡ not (t (without (length s) r i))
      go (inl e) f = subst (λ (m : ℕ). holds r m ≡ not (t (without (length s) r m))) (sym e) own
      go (inr l) f = f l ∙ ap (λ (m : ℕ). not (t (without m r i))) (turn_length s k)

  pub left-of_all : (n i : ℕ) → i < n
      → let r = thinned t (every n) (down_from n) in holds r i ≡ not (t (without n r i))
  left-of_all n i h =
      let r = thinned t (every n) (down_from n) in
      left_where n (every n) (λ j m. subst T (sym (get_or-table n (λ _. true) j false m)) tt) i h
      ∙ ap (λ (m : ℕ). not (t (without m r i))) (length-table 0 n (λ _. true))
