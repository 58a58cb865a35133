-- Tests one after the other, the second where the first has not decided.
use mathlib.Core.Path.{◌≡◌, ◌∙◌}
use mathlib.Core.Bool.{Bool, true, false, ◌&&◌, ◌||◌}

module _ {a b : Bool} (e : a ≡ b) where
  pub and-then : {s t : Bool} → a ≡ true → t ≡ s → t ≡ b && s
  and-then h q = rw (← e, h) q

  pub and-else : (s : Bool) {t : Bool} → a ≡ false → t ≡ a → t ≡ b && s
  and-else s h q = rw (← e, h) (q ∙ h)

  pub or-then : (s : Bool) → a ≡ true → a ≡ b || s
  or-then s h = rw (← e, h)

  pub or-else : {s t : Bool} → a ≡ false → t ≡ s → t ≡ b || s
  or-else h q = rw (← e, h) q
