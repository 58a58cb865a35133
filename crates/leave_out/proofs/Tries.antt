-- What the tries leave as the best: a good set from which no pair that was tried can be put back, and no larger than any good set by number
-- that was tried. One try after the other.
use Prim.Native.Nat.{ℕ, zero, suc, ◌+◌, ◌-◌, ◌^◌, ◌≤◌, ◌<◌, min}
use native.Mathlib.Nat.{le_refl, eq-or-lt_of_le, le_of_suc-le-suc, not-suc-le-zero}
use native.Mathlib.Omega.{arith}
use mathlib.Core.Path.{◌≡◌, refl, sym, ap, ◌∙◌, subst}
use mathlib.Core.Bool.{Bool, true, false, ◌&&◌, cond}
use mathlib.Core.List.{List, foldl}
use mathlib.Core.Logic.{◌⊎◌, inl, inr}
use lib.Dec.{T, ltb, leb}
use lib.ListN.{length, length-set}
use lib.Pow.{pow_mono}
use borrow.Author.Tests.{le-leb, ltb-true, ltb-false}
use Rattle.words.specs.Words.{table_from, from}
use Rattle.words.proofs.Tables.{length-table, foldl_more}
use Rattle.catalogue.specs.Catalogue.{Catalogue}
use Rattle.fit.specs.Fit.{Fit}
use Rattle.parts.specs.Parts.{size, every, holds, Inside, less}
use Rattle.parts.proofs.Thinning.{own_gone, less-inside, inside-less, held_below}
use Rattle.leave_out.specs.LeaveOut.{set_of, tried, all_tries, pair_count, good, better, tries_made, left_out}
use Rattle.leave_out.proofs.Named.{good-grows, good-every}
use Rattle.leave_out.proofs.Sets.{size-less, set-length, less-number, number_of, number-small, set-number}

is_true : (b : Bool) → T b → b ≡ true
is_true true h = refl
is_true false h = absurd h

last-or_before : (i k : ℕ) → i < suc k → (i ≡ k) ⊎ (i < k)
last-or_before i k h = eq-or-lt_of_le (le_of_suc-le-suc h)

module _ (c : Catalogue) (f : Fit) where
  -- the best after k tries
  unfoldable pub best_after : ℕ → List Bool
  best_after k = foldl (better c f) (every (pair_count c f)) (from 0 k)

  pub best-none : best_after 0 ≡ every (pair_count c f)
  unfolding best_after table_from
  best-none = refl

  pub best-next : (k : ℕ) → best_after (suc k) ≡ better c f (best_after k) k
  unfolding best_after
  best-next k =
      let q : suc k ≡ k + 1 = omega arith in
      ap (λ (m : ℕ). foldl (better c f) (every (pair_count c f)) (from 0 m)) q
      ∙ foldl_more (λ i. i) (better c f) (every (pair_count c f)) k

  -- what is known of the best after k tries
  pub record Tried (k : ℕ) (s : List Bool) : Type 0 where
    pub long : length s ≡ pair_count c f
    pub fine : T (good c f s)
    pub needed : (i : ℕ) → i < k → T (holds s i) → T (good c f (less s i)) → ⊥
    pub least : (m : ℕ) → pair_count c f + m < k → T (good c f (set_of (pair_count c f) m)) → size s ≤ size (set_of (pair_count c f) m)

  -- ---- one try
  module _ (k : ℕ) (s : List Bool) (h : Tried k s) where
    abbrev n : ℕ
    n = pair_count c f

    -- what it checks is smaller and good
    abbrev Taken : List Bool → Type 0
    Taken x = (good c f x ≡ true) × (size x < size s)

    abbrev Refused : List Bool → Type 0
    Refused x = T (good c f x) → size s ≤ size x

    -- putting back pair k
    back_taken : k < n → Taken (less s k) → Tried (suc k) (less s k)
    back_taken l t = record {
      long = length-set s k false ∙ h.long;
      fine = subst T (sym t.0) tt;
      needed = λ i q. go i (last-or_before i k q);
      least = λ m q. let no : ⊥ = omega (arith, q, l) in absurd no;
    }
      where
        long : (i : ℕ) → length (less (less s k) i) ≡ length (less s i)
        long i = length-set (less s k) i false ∙ length-set s k false ∙ sym (length-set s i false)

        within : (i : ℕ) → Inside (less (less s k) i) (less s i)
        within i =
            inside-less (less (less s k) i) s i (λ j q. less-inside s k j (less-inside (less s k) i j q))
            (λ q. subst T (own_gone (less s k) i) q)

        go : (i : ℕ) → (i ≡ k) ⊎ (i < k) → T (holds (less s k) i) → T (good c f (less (less s k) i)) → ⊥
        go i (inl e) q g = subst T (own_gone s k) (subst (λ (j : ℕ). T (holds (less s k) j)) e q)
        go i (inr b) q g = h.needed i b (less-inside s k i q) (good-grows c f (less (less s k) i) (less s i) (long i) (within i) g)

    back_refused : k < n → Refused (less s k) → Tried (suc k) s
    back_refused l r = record {
      long = h.long;
      fine = h.fine;
      needed = λ i q. go i (last-or_before i k q);
      least = λ m q. let no : ⊥ = omega (arith, q, l) in absurd no;
    }
      where
        go : (i : ℕ) → (i ≡ k) ⊎ (i < k) → T (holds s i) → T (good c f (less s i)) → ⊥
        go i (inl e) q g =
            let a = size-less s i q in
            let b = r (subst (λ (j : ℕ). T (good c f (less s j))) e g) in
            let d = ap (λ (j : ℕ). size (less s j)) e in
            omega (arith, a, b, d)
        go i (inr b) q g = h.needed i b q g

    -- a set by number
    module _ (m : ℕ) (at : k ≡ n + m) where
      number_taken : Taken (set_of n m) → Tried (suc k) (set_of n m)
      number_taken t = record {
        long = set-length n m;
        fine = subst T (sym t.0) tt;
        needed = λ i q. needed i;
        least = λ j q. least j (last-or_before j m (omega (arith, q, at)));
      }
        where
          needed : (i : ℕ) → T (holds (set_of n m) i) → T (good c f (less (set_of n m) i)) → ⊥
          needed i q g =
              let b = held_below (set_of n m) i q in
              let w = less-number n m i (omega (arith, b, set-length n m)) q in
              let j = w.0 in
              let a = size-less (set_of n m) i q in
              let d = ap size w.2 in
              let e = h.least j (omega (arith, at, w.1)) (subst (λ (x : List Bool). T (good c f x)) w.2 g) in
              omega (arith, a, d, e, t.1)

          least : (j : ℕ) → (j ≡ m) ⊎ (j < m) → T (good c f (set_of n j)) → size (set_of n m) ≤ size (set_of n j)
          least j (inl e) g = let d = ap (λ (i : ℕ). size (set_of n i)) e in omega (arith, d)
          least j (inr l) g = let e = h.least j (omega (arith, at, l)) g in omega (arith, e, t.1)

      number_refused : Refused (set_of n m) → Tried (suc k) s
      number_refused r = record {
        long = h.long;
        fine = h.fine;
        needed = λ i q. needed i (last-or_before i k q);
        least = λ j q. least j (last-or_before j m (omega (arith, q, at)));
      }
        where
          needed : (i : ℕ) → (i ≡ k) ⊎ (i < k) → T (holds s i) → T (good c f (less s i)) → ⊥
          needed i (inl e) q g = let b = held_below s i q in omega (arith, b, e, at, h.long)
          needed i (inr b) q g = h.needed i b q g

          least : (j : ℕ) → (j ≡ m) ⊎ (j < m) → T (good c f (set_of n j)) → size s ≤ size (set_of n j)
          least j (inl e) g =
              let a = r (subst (λ (i : ℕ). T (good c f (set_of n i))) e g) in
              let d = ap (λ (i : ℕ). size (set_of n i)) e in
              omega (arith, a, d)
          least j (inr l) g = h.least j (omega (arith, at, l)) g

    -- ---- what it leaves
    chosen-by : (x : List Bool) → (P : List Bool → Type 0) → (Taken x → P x) → (Refused x → P s)
        → P (cond (good c f x && ltb (size x) (size s)) x s)
    chosen-by x P taken refused = go (good c f x) refl (ltb (size x) (size s)) refl
      where
        go : (a : Bool) → good c f x ≡ a → (b : Bool) → ltb (size x) (size s) ≡ b → P (cond (a && b) x s)
        go true p true q = taken (p, ltb-true (size x) (size s) q)
        go true p false q = refused (λ g. ltb-false (size x) (size s) q)
        go false p b q = refused (λ g. absurd (subst T p g))

    pub next : Tried (suc k) (better c f s k)
    unfolding better tried
    next = go (ltb k n) refl
      where
        rest : (n ≤ k) → k ≡ n + (k - n)
        rest l = omega arith

        go : (b : Bool) → ltb k n ≡ b
            → Tried (suc k) (let x = cond b (less s k) (set_of n (k - n)) in cond (good c f x && ltb (size x) (size s)) x s)
        go true e =
            let l = ltb-true k n e in
            chosen-by (less s k) (Tried (suc k)) (back_taken l) (back_refused l)
        go false e =
            let q = rest (ltb-false k n e) in
            chosen-by (set_of n (k - n)) (Tried (suc k)) (number_taken (k - n) q) (number_refused (k - n) q)

    -- it leaves no larger set
    pub no-larger : size (better c f s k) ≤ size s
    unfolding better
    no-larger = go (good c f x) (ltb (size x) (size s)) refl
      where
        x : List Bool
        x = tried n s k

        go : (a b : Bool) → ltb (size x) (size s) ≡ b → size (cond (a && b) x s) ≤ size s
        go true true q = let l = ltb-true (size x) (size s) q in omega (arith, l)
        go true false q = le_refl (size s)
        go false b q = le_refl (size s)

  -- ---- k tries
  pub tried-all : (k : ℕ) → Tried k (best_after k)
  tried-all zero = subst (Tried 0) (sym best-none) (record {
    long = length-table 0 (pair_count c f) (λ _. true);
    fine = good-every c f (pair_count c f);
    needed = λ i q. absurd (not-suc-le-zero q);
    least = λ m q. absurd (not-suc-le-zero q);
  })
  tried-all (suc k) = subst (Tried (suc k)) (sym (best-next k)) (next k (best_after k) (tried-all k))

  pub more-tries : (k j : ℕ) → size (best_after (k + j)) ≤ size (best_after k)
  more-tries k zero = let q : k + 0 ≡ k = omega arith in let e = ap (λ (m : ℕ). size (best_after m)) q in omega (arith, e)
  more-tries k (suc j) =
      let q : k + suc j ≡ suc (k + j) = omega arith in
      let e = ap (λ (m : ℕ). size (best_after m)) q ∙ ap size (best-next (k + j)) in
      let h = no-larger (k + j) (best_after (k + j)) (tried-all (k + j)) in
      let r = more-tries k j in
      omega (arith, e, h, r)

  -- ---- the tries of a budget
  abbrev pub n_all : ℕ
  n_all = all_tries (pair_count c f)

  pub left-best : (budget : ℕ) → left_out c f budget ≡ best_after (tries_made c f budget)
  unfolding left_out best_after
  left-best budget = refl

  pub left-tried : (budget : ℕ) → Tried (tries_made c f budget) (left_out c f budget)
  left-tried budget = subst (Tried (tries_made c f budget)) (sym (left-best budget)) (tried-all (tries_made c f budget))

  pub left-length : (budget : ℕ) → length (left_out c f budget) ≡ pair_count c f
  left-length budget = (left-tried budget).long

  pub left-good : (budget : ℕ) → T (good c f (left_out c f budget))
  left-good budget = (left-tried budget).fine

  -- a larger budget gives no larger set
  pub left-more : (a b : ℕ) → a ≤ b → size (left_out c f b) ≤ size (left_out c f a)
  unfolding tries_made
  left-more a b h =
      let k = min a n_all in
      let j = min b n_all - k in
      let q : min b n_all ≡ k + j = omega (arith, h) in
      let e = ap size (left-best b) ∙ ap (λ (m : ℕ). size (best_after m)) q in
      let d = ap size (left-best a) in
      let r = more-tries k j in
      omega (arith, e, d, r)

  -- with as many tries as pairs none can be put back alone
  pub left-needed : (budget i : ℕ) → pair_count c f ≤ budget → T (holds (left_out c f budget) i) → T (good c f (less (left_out c f budget) i)) → ⊥
  unfolding tries_made all_tries
  left-needed budget i h q g =
      let b = held_below (left_out c f budget) i q in
      let l = left-length budget in
      (left-tried budget).needed i (omega (arith, h, b, l)) q g

  -- with up to 16 pairs and all sets tried none is smaller
  all_tried : (n : ℕ) → n ≤ 16 → (2 ^ n ≤ 65536) × (all_tries n ≡ n + 2 ^ n)
  unfolding all_tries
  all_tried n h = (power, ap (λ (b : Bool). n + cond b (2 ^ n) 0) few)
    where
      few : leb n 16 ≡ true
      few = le-leb n 16 h

      power : 2 ^ n ≤ 65536
      power = pow_mono h

  pub left-least : (budget : ℕ) (s : List Bool) → pair_count c f ≤ 16 → 65552 ≤ budget → length s ≡ pair_count c f → T (good c f s)
      → size (left_out c f budget) ≤ size s
  unfolding tries_made
  left-least budget s few h l g =
      let n = pair_count c f in
      let a = all_tried n few in
      let b = number-small s in
      let p = ap (λ (k : ℕ). 2 ^ k) l in
      let e : set_of n (number_of s) ≡ s = ap (λ (k : ℕ). set_of k (number_of s)) (sym l) ∙ set-number s in
      let r = (left-tried budget).least (number_of s) (omega (arith, a.0, a.1, b, p, h, few)) (subst (λ (x : List Bool). T (good c f x)) (sym e) g) in
      let d = ap size e in
      omega (arith, r, d)
