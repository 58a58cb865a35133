-- Which of the sets that are tried the call leaves: the smallest good one, the earliest among equals. One try after the other.
use Prim.Native.Nat.{ℕ, zero, suc, ◌+◌, ◌-◌, ◌≤◌, ◌<◌, min}
use native.Mathlib.Nat.{eq-or-lt_of_le, le_of_suc-le-suc}
use native.Mathlib.Omega.{arith}
use mathlib.Core.Path.{◌≡◌, refl, sym, ap, ◌∙◌, subst}
use mathlib.Core.Bool.{Bool, true, false, ◌&&◌, cond}
use mathlib.Core.List.{List, [], ◌∷◌, ◌++◌}
use mathlib.Core.Logic.{◌⊎◌, inl, inr}
use lib.Dec.{T, ltb}
use borrow.Author.Tests.{lt-ltb, le-ltb, ltb-true, ltb-false}
use Rattle.words.specs.Words.{table_from, from}
use Rattle.words.proofs.Tables.{table_more}
use Rattle.catalogue.specs.Catalogue.{Catalogue}
use Rattle.fit.specs.Fit.{Fit}
use Rattle.parts.specs.Parts.{size, every, holds, less, thinned}
use Rattle.training.proofs.Stepping.{split_lt}
use Rattle.leave_out.specs.LeaveOut.{set_of, tried, pair_count, good, better}
use Rattle.leave_out.proofs.Sets.{size-less}
use Rattle.leave_out.proofs.Tries.{best_after, best-none, best-next}
use Rattle.promises.specs.LeavingOut.{put_back, FirstByNumber, Smallest}

-- ---- putting back
less_none : (s : List Bool) (i : ℕ) → holds s i ≡ false → less s i ≡ s
less_none [] i h = refl
less_none (b ∷ s) zero h = ap (λ (x : Bool). x ∷ s) (sym h)
less_none (b ∷ s) (suc i) h = ap (λ (l : List Bool). b ∷ l) (less_none s i h)

thinned_more : (t : List Bool → Bool) (s : List Bool) (is : List ℕ) (i : ℕ)
    → thinned t s (is ++ i ∷ []) ≡ cond (t (less (thinned t s is) i)) (less (thinned t s is) i) (thinned t s is)
unfolding thinned
thinned_more t s [] i = refl
thinned_more t s (j ∷ is) i = thinned_more t (cond (t (less s j)) (less s j) s) is i

-- where the pair is in the set, the set without it is smaller; else it is the set
smaller_or-same : (s : List Bool) (k : ℕ) (g : Bool) → cond (g && ltb (size (less s k)) (size s)) (less s k) s ≡ cond g (less s k) s
smaller_or-same s k false = refl
smaller_or-same s k true = go (holds s k) refl
  where
    go : (b : Bool) → holds s k ≡ b → cond (ltb (size (less s k)) (size s)) (less s k) s ≡ less s k
    go true e =
        let d = size-less s k (subst T (sym e) tt) in
        ap (λ (b : Bool). cond b (less s k) s) (lt-ltb (size (less s k)) (size s) (omega (arith, d)))
    go false e =
        let same = less_none s k e in
        alike (ltb (size (less s k)) (size s)) same
      where
        alike : (b : Bool) → less s k ≡ s → cond b (less s k) s ≡ less s k
        alike true q = refl
        alike false q = sym q

last-or_before : (i k : ℕ) → i < suc k → (i ≡ k) ⊎ (i < k)
last-or_before i k h = eq-or-lt_of_le (le_of_suc-le-suc h)

module _ (c : Catalogue) (f : Fit) where
  abbrev n : ℕ
  n = pair_count c f

  abbrev turned : ℕ → List Bool
  turned k = thinned (good c f) (every n) (from 0 k)

  back-next : (s : List Bool) (k : ℕ) → k < n → better c f s k ≡ cond (good c f (less s k)) (less s k) s
  unfolding better tried
  back-next s k l =
      ap (λ (b : Bool). let x = cond b (less s k) (set_of n (k - n)) in cond (good c f x && ltb (size x) (size s)) x s) (lt-ltb k n l)
      ∙ smaller_or-same s k (good c f (less s k))

  turned-next : (k : ℕ) → turned (suc k) ≡ cond (good c f (less (turned k) k)) (less (turned k) k) (turned k)
  turned-next k =
      let q : suc k ≡ k + 1 = omega arith in
      ap (λ (m : ℕ). thinned (good c f) (every n) (from 0 m)) q
      ∙ ap (thinned (good c f) (every n)) (table_more k (λ (i : ℕ). i))
      ∙ thinned_more (good c f) (every n) (from 0 k) k

  turned-none : turned 0 ≡ every n
  unfolding thinned table_from
  turned-none = refl

  put-back : (k : ℕ) → k ≤ n → best_after c f k ≡ turned k
  put-back zero l = best-none c f ∙ sym turned-none
  put-back (suc k) l =
      best-next c f k
      ∙ back-next (best_after c f k) k l
      ∙ ap (λ (s : List Bool). cond (good c f (less s k)) (less s k) s) (put-back k (omega (arith, l)))
      ∙ sym (turned-next k)

  -- ---- a set by number
  module _ (k : ℕ) (s : List Bool) (h : Smallest c f k s) (behind : n ≤ k) where
    abbrev x : List Bool
    x = set_of n (k - n)

    as_before : put_back c f (k + 1) ≡ put_back c f k
    as_before = let q : min (k + 1) n ≡ min k n = omega (arith, behind) in ap turned q

    taken : good c f x ≡ true → size x < size s → Smallest c f (k + 1) x
    taken g l = record {
      of_put_back = let e = ap size as_before in let d = h.of_put_back in omega (arith, e, d, l);
      of_numbers = λ m q. others m (last-or_before m (k - n) (omega (arith, q)));
      earliest = inr (record {
        number = k - n;
        tried = omega (arith, behind);
        its_set = refl;
        smaller = let e = ap size as_before in let d = h.of_put_back in omega (arith, e, d, l);
        first = λ m b p. let d = h.of_numbers m (omega (arith, b, behind)) p in omega (arith, d, l);
      });
    }
      where
        others : (m : ℕ) → (m ≡ k - n) ⊎ (m < k - n) → T (good c f (set_of n m)) → size x ≤ size (set_of n m)
        others m (inl e) p = let d = ap (λ (j : ℕ). size (set_of n j)) e in omega (arith, d)
        others m (inr b) p = let d = h.of_numbers m (omega (arith, b, behind)) p in omega (arith, d, l)

    refused : (T (good c f x) → size s ≤ size x) → Smallest c f (k + 1) s
    refused r = record {
      of_put_back = let e = ap size as_before in let d = h.of_put_back in omega (arith, e, d);
      of_numbers = λ m q. others m (last-or_before m (k - n) (omega (arith, q)));
      earliest = still h.earliest;
    }
      where
        others : (m : ℕ) → (m ≡ k - n) ⊎ (m < k - n) → T (good c f (set_of n m)) → size s ≤ size (set_of n m)
        others m (inl e) p =
            let d = ap (λ (j : ℕ). size (set_of n j)) e in
            let b = r (subst (λ (j : ℕ). T (good c f (set_of n j))) e p) in
            omega (arith, d, b)
        others m (inr b) p = h.of_numbers m (omega (arith, b, behind)) p

        still : (s ≡ put_back c f k) ⊎ FirstByNumber c f k s → (s ≡ put_back c f (k + 1)) ⊎ FirstByNumber c f (k + 1) s
        still (inl e) = inl (e ∙ sym as_before)
        still (inr b) = inr (record {
          number = b.number;
          tried = let q = b.tried in omega (arith, q);
          its_set = b.its_set;
          smaller = let e = ap size as_before in let q = b.smaller in omega (arith, e, q);
          first = b.first;
        })

    by-number : Smallest c f (k + 1) (better c f s k)
    unfolding better tried
    by-number =
        subst (λ (y : List Bool). Smallest c f (k + 1) (cond (good c f y && ltb (size y) (size s)) y s)) (sym behind_all)
        (go (good c f x) refl (ltb (size x) (size s)) refl)
      where
        behind_all : cond (ltb k n) (less s k) x ≡ x
        behind_all = ap (λ (b : Bool). cond b (less s k) x) (le-ltb k n behind)

        go : (a : Bool) → good c f x ≡ a → (b : Bool) → ltb (size x) (size s) ≡ b → Smallest c f (k + 1) (cond (a && b) x s)
        go true p true q = taken p (ltb-true (size x) (size s) q)
        go true p false q = refused (λ _. ltb-false (size x) (size s) q)
        go false p b q = refused (λ g. absurd (subst T p g))

  -- ---- k tries
  of-few : (k : ℕ) → k ≤ n → Smallest c f k (best_after c f k)
  of-few k l = record {
    of_put_back = let d = ap size its in omega (arith, d);
    of_numbers = λ m q _. let no : ⊥ = omega (arith, q, l) in absurd no;
    earliest = inl its;
  }
    where
      its : best_after c f k ≡ put_back c f k
      its = put-back k l ∙ (let q : k ≡ min k n = omega (arith, l) in ap turned q)

  of-more : (j : ℕ) → Smallest c f (n + j) (best_after c f (n + j))
  of-more zero = let q : n ≡ n + 0 = omega arith in subst (λ (k : ℕ). Smallest c f k (best_after c f k)) q (of-few n (omega arith))
  of-more (suc j) =
      let q : n + j + 1 ≡ n + suc j = omega arith in
      let p : n + suc j ≡ suc (n + j) = omega arith in
      let next = by-number (n + j) (best_after c f (n + j)) (of-more j) (omega arith) in
      subst (λ (k : ℕ). Smallest c f k (best_after c f (n + suc j))) q
      (subst (Smallest c f (n + j + 1)) (sym (best-next c f (n + j)) ∙ ap (best_after c f) (sym p)) next)

  pub best-smallest : (k : ℕ) → Smallest c f k (best_after c f k)
  best-smallest k = go (split_lt k n)
    where
      go : (k < n) ⊎ (n ≤ k) → Smallest c f k (best_after c f k)
      go (inl l) = of-few k (omega (arith, l))
      go (inr l) = let q : n + (k - n) ≡ k = omega (arith, l) in subst (λ (m : ℕ). Smallest c f m (best_after c f m)) q (of-more (k - n))
