-- Sets of pairs as flags: how many stand before one of them. By induction on the flags.
use Prim.Native.Nat.{ℕ, zero, suc, ◌+◌, ◌<◌}
use native.Mathlib.Nat.{le_of_suc-le-suc, not-suc-le-zero}
use native.Mathlib.Omega.{arith}
use mathlib.Core.Path.{◌≡◌, refl, sym, ap, subst}
use mathlib.Core.Bool.{Bool, true, false, cond}
use mathlib.Core.List.{List, [], ◌∷◌}
use lib.Dec.{T, eqb, eqb→eq, eqb_refl}
use lib.ListN.{take}
use Rattle.words.specs.Words.{only, count_of}
use Rattle.parts.specs.Parts.{size, holds}

-- two tests of numbers that hold together
pub eqb_same : (a b x y : ℕ) → (a ≡ b → x ≡ y) → (x ≡ y → a ≡ b) → eqb a b ≡ eqb x y
eqb_same a b x y f g = go (eqb a b) (eqb x y) refl refl
  where
    told : {m n : ℕ} → m ≡ n → T (eqb m n)
    told {m} {n} e = subst (λ (k : ℕ). T (eqb m k)) e (eqb_refl m)

    go : (p q : Bool) → eqb a b ≡ p → eqb x y ≡ q → p ≡ q
    go true true e h = refl
    go true false e h = absurd (subst T h (told (f (eqb→eq a b (subst T (sym e) tt)))))
    go false true e h = absurd (subst T e (told (g (eqb→eq x y (subst T (sym h) tt)))))
    go false false e h = refl

pub size_none : size [] ≡ 0
unfolding size count_of only
size_none = refl

pub size-cons : (b : Bool) (s : List Bool) → size (b ∷ s) ≡ cond b 1 0 + size s
unfolding size count_of only
size-cons true s = omega arith
size-cons false s = omega arith

-- fewer stand before one of them than before a later place
pub before-less : (s : List Bool) (a b : ℕ) → a < b → T (holds s a) → size (take a s) < size (take b s)
before-less [] a b l h = absurd h
before-less (x ∷ s) a zero l h = absurd (not-suc-le-zero l)
before-less (x ∷ s) zero (suc b) l h = first x h
  where
    first : (y : Bool) → T y → size [] < size (y ∷ take b s)
    first true k = let e = size-cons true (take b s) in let z = size_none in omega (arith, e, z)
    first false k = absurd k
before-less (x ∷ s) (suc a) (suc b) l h =
    let k = before-less s a b (le_of_suc-le-suc l) h in
    let p = size-cons x (take a s) in
    let q = size-cons x (take b s) in
    omega (arith, k, p, q)

-- so the new numbers of two of them are equal where the old ones are
pub before_same : (s : List Bool) (a b : ℕ) → T (holds s a) → T (holds s b) → eqb (size (take a s)) (size (take b s)) ≡ eqb a b
before_same s a b h k = eqb_same (size (take a s)) (size (take b s)) a b apart (λ e. ap (λ (n : ℕ). size (take n s)) e)
  where
    neither : (m n : ℕ) → (m < n → ⊥) → (n < m → ⊥) → m ≡ n
    neither m n p q = omega arith

    apart : size (take a s) ≡ size (take b s) → a ≡ b
    apart e =
        neither a b (λ l. let q = before-less s a b l h in omega (arith, e, q)) (λ l. let q = before-less s b a l k in omega (arith, e, q))
