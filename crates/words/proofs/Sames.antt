-- When two ids are the same.
use mathlib.Core.Path.{◌≡◌, refl, sym, ap}
use mathlib.Core.Bool.{true, false, true≢false}
use lib.IntN.{ℤ, pos, negsuc}
use borrow.Author.Tests.{eq-eqb, ne_eqb, eqb-true}
use Rattle.words.specs.Words.{same}

pub same_refl : (a : ℤ) → same a a ≡ true
unfolding same
same_refl (pos n) = eq-eqb n n refl
same_refl (negsuc n) = eq-eqb n n refl

pub same_not : (a b : ℤ) → (a ≡ b → ⊥) → same a b ≡ false
unfolding same
same_not (pos m) (pos n) h = ne_eqb m n (λ e. h (ap pos e))
same_not (pos m) (negsuc n) h = refl
same_not (negsuc m) (pos n) h = refl
same_not (negsuc m) (negsuc n) h = ne_eqb m n (λ e. h (ap negsuc e))

pub same-eq : (a b : ℤ) → same a b ≡ true → a ≡ b
unfolding same
same-eq (pos a) (pos b) e = ap pos (eqb-true a b e)
same-eq (pos a) (negsuc b) e = absurd (true≢false (sym e))
same-eq (negsuc a) (pos b) e = absurd (true≢false (sym e))
same-eq (negsuc a) (negsuc b) e = ap negsuc (eqb-true a b e)
