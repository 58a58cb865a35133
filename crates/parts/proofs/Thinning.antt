-- Pairs taken off in turn, each where the set passes without it: what is left passes and has no pair that it could do without, where more
-- pairs never make a set fail. By induction on the pairs that are tried.
use Prim.Native.Nat.{ℕ, zero, suc, ◌<◌}
use native.Mathlib.Nat.{le_of_suc-le-suc, not-suc-le-zero}
use native.Mathlib.Omega.{arith}
use mathlib.Core.Path.{◌≡◌, refl, sym, ap, ◌∙◌, subst}
use mathlib.Core.Bool.{Bool, true, false, cond}
use mathlib.Core.List.Memᴰ
use mathlib.Core.List.{List, [], ◌∷◌, Memᴰ}
use mathlib.Core.Logic.{◌⊎◌, inl, inr}
use lib.Dec.{T}
use lib.ListN.{length, length-set}
use Rattle.parts.specs.Parts.{holds, Inside, less, down_from, thinned}

-- ---- a set less one pair
pub own_gone : (s : List Bool) (i : ℕ) → holds (less s i) i ≡ false
own_gone [] i = refl
own_gone (b ∷ s) zero = refl
own_gone (b ∷ s) (suc i) = own_gone s i

pub less-inside : (s : List Bool) (i j : ℕ) → T (holds (less s i) j) → T (holds s j)
less-inside [] i j h = h
less-inside (b ∷ s) zero zero h = absurd h
less-inside (b ∷ s) zero (suc j) h = h
less-inside (b ∷ s) (suc i) zero h = h
less-inside (b ∷ s) (suc i) (suc j) h = less-inside s i j h

other_kept : (s : List Bool) (i j : ℕ) → (i ≡ j → ⊥) → T (holds s j) → T (holds (less s i) j)
other_kept [] i j n h = h
other_kept (b ∷ s) zero zero n h = absurd (n refl)
other_kept (b ∷ s) zero (suc j) n h = h
other_kept (b ∷ s) (suc i) zero n h = h
other_kept (b ∷ s) (suc i) (suc j) n h = other_kept s i j (λ e. n (ap suc e)) h

-- a set within another that lacks pair i is within the other less i
pub inside-less : (a b : List Bool) (i : ℕ) → Inside a b → (T (holds a i) → ⊥) → Inside a (less b i)
inside-less a b i h n = λ j k. other_kept b i j (λ e. n (subst (λ (m : ℕ). T (holds a m)) (sym e) k)) (h j k)

less-mono : (a b : List Bool) (i : ℕ) → Inside a b → Inside (less a i) (less b i)
less-mono a b i h = inside-less (less a i) b i (λ j k. h j (less-inside a i j k)) (λ k. subst T (own_gone a i) k)

-- a pair that is in a set has a number below its length
pub held_below : (s : List Bool) (i : ℕ) → T (holds s i) → i < length s
held_below [] i h = absurd h
held_below (b ∷ s) zero h = omega arith
held_below (b ∷ s) (suc i) h = let k = held_below s i h in omega (arith, k)

last-or_less : (i n : ℕ) → i < suc n → (i ≡ n) ⊎ (i < n)
last-or_less zero zero l = inl refl
last-or_less zero (suc n) l = inr (omega arith)
last-or_less (suc i) zero l = absurd (not-suc-le-zero (le_of_suc-le-suc l))
last-or_less (suc i) (suc n) l = up (last-or_less i n (le_of_suc-le-suc l))
  where
    up : (i ≡ n) ⊎ (i < n) → (suc i ≡ suc n) ⊎ (suc i < suc n)
    up (inl e) = inl (ap suc e)
    up (inr k) = inr (omega (arith, k))

-- every number below n is tried
pub down_all : (n i : ℕ) → i < n → Memᴰ i (down_from n)
unfolding down_from
down_all zero i h = absurd (not-suc-le-zero h)
down_all (suc n) i h = go (λ k. down_all n i k) (last-or_less i n h)
  where
    go : (i < n → Memᴰ i (down_from n)) → (i ≡ n) ⊎ (i < n) → Memᴰ i (n ∷ down_from n)
    go f (inl e) = Memᴰ.head e
    go f (inr k) = Memᴰ.tail (f k)

-- ---- in turn
module _ (t : List Bool → Bool) where
  abbrev turn : List Bool → ℕ → List Bool
  turn s i = cond (t (less s i)) (less s i) s

  turn_inside : (s : List Bool) (i : ℕ) → Inside (turn s i) s
  turn_inside s i = go (t (less s i))
    where
      go : (b : Bool) → Inside (cond b (less s i) s) s
      go true = λ j h. less-inside s i j h
      go false = λ j h. h

  turn-passes : (s : List Bool) (i : ℕ) → T (t s) → T (t (turn s i))
  turn-passes s i h = go (t (less s i)) refl
    where
      go : (b : Bool) → t (less s i) ≡ b → T (t (cond b (less s i) s))
      go true e = subst T (sym e) tt
      go false e = h

  turn-length : (s : List Bool) (i : ℕ) → length (turn s i) ≡ length s
  turn-length s i = go (t (less s i))
    where
      go : (b : Bool) → length (cond b (less s i) s) ≡ length s
      go true = length-set s i false
      go false = refl

  pub thinned-inside : (s : List Bool) (is : List ℕ) → Inside (thinned t s is) s
  unfolding thinned
  thinned-inside s [] = λ j h. h
  thinned-inside s (i ∷ is) = λ j h. turn_inside s i j (thinned-inside (turn s i) is j h)

  pub thinned-passes : (s : List Bool) (is : List ℕ) → T (t s) → T (t (thinned t s is))
  unfolding thinned
  thinned-passes s [] h = h
  thinned-passes s (i ∷ is) h = thinned-passes (turn s i) is (turn-passes s i h)

  pub thinned-length : (s : List Bool) (is : List ℕ) → length (thinned t s is) ≡ length s
  unfolding thinned
  thinned-length s [] = refl
  thinned-length s (i ∷ is) = thinned-length (turn s i) is ∙ turn-length s i

  module _ (grows : (a b : List Bool) → Inside a b → T (t a) → T (t b)) where
    -- a pair that was tried and is still there is needed
    needed : (s : List Bool) (is : List ℕ) (i : ℕ) → Memᴰ i is → T (holds (thinned t s is) i) → T (t (less (thinned t s is) i)) → ⊥
    unfolding thinned
    needed s [] i m h p = Memᴰ.not-nil m
    needed s (j ∷ is) i (Memᴰ.tail m) h p = needed (turn s j) is i m h p
    needed s (j ∷ is) i (Memᴰ.head e) h p = go (t (less s i)) refl (subst (λ (k : ℕ). Inside r (turn s k)) (sym e) (thinned-inside (turn s j) is))
      where
        r : List Bool
        r = thinned t (turn s j) is

        go : (b : Bool) → t (less s i) ≡ b → Inside r (cond b (less s i) s) → ⊥
        go true q k = subst T (own_gone s i) (k i h)
        go false q k = subst T q (grows (less r i) (less s i) (less-mono r s i k) p)

    -- so no smaller set passes
    pub thinned-least : (s u : List Bool) (is : List ℕ) (i : ℕ) → Memᴰ i is → Inside u (thinned t s is) → T (holds (thinned t s is) i)
        → (T (holds u i) → ⊥) → T (t u) → ⊥
    thinned-least s u is i m k h n p =
        let r = thinned t s is in
        needed s is i m h (grows u (less r i) (inside-less u r i k n) p)
