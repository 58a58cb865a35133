-- What a call leaves by its contract is the outcome that the promises speak of.
use Prim.Native.Nat.{ℕ}
use mathlib.Core.Path.{◌≡◌, sym, ap, ◌∙◌, subst}
use mathlib.Core.List.{List}
use Rattle.calls.specs.Answers.{Answer, returned, buffered}
use Rattle.promises.specs.Answers.{Outcome, outcome}
use Rattle.two_fits.specs.Kept.{left}

pub left_is : (before : List ℕ) (a : Answer) {w : ℕ} {b : List ℕ} → (w ≡ returned a) × (b ≡ buffered before a) → outcome before a ≡ left w b
left_is before a {w} {b} e = ap (λ (v : ℕ). left v (buffered before a)) (sym e.0) ∙ ap (λ (c : List ℕ). left w c) (sym e.1)

-- what is said of two outcomes is said of what two calls leave
pub of_both : (P : Outcome → Outcome → Type 0) {o o' p p' : Outcome} → o ≡ p → o' ≡ p' → P o o' → P p p'
of_both P {o} {o'} {p} {p'} e e' h = subst (λ (q : Outcome). P p q) e' (subst (λ (q : Outcome). P q o') e h)
