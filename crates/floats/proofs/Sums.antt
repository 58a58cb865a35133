-- Adding what is not below zero does not lower a float of its format, unless the sum is a NaN: `sum` rounds a fraction that is no smaller.
use Rattle.std.proofs.Common.{◌≡◌, ℕ, ◌+◌, ◌-◌, ◌*◌, ◌<◌, ◌≤◌, Bool, true, false, cond, not, ◌&&◌, T, ltb, ◌⊎◌, List, [], ◌∷◌, ℤ, refl, ap, ◌∙◌, inl, inr, true≢false, zero-mul, arith, ltb→lt}
use mathlib.Core.Bool.{beq}
use mathlib.Core.List.{Memᴰ}
use lib.Ieee.{Float, nan, inf, fin, Format, binary64, up, down, round, sum, add, lt, le, fits, is_nan}
use lib.Ieee.Fits.{up_pos, down_pos, add-fits}
use Rattle.floats.specs.Floats.{zero_f, is_volume, total_from}
use Rattle.floats.proofs.Order.{Le, le-fact, le_refl, le_trans, lt-le_trans, lt-not_nan, le-not_nan, not-below_inf}
use Rattle.floats.proofs.Rounding.{product_zero, own_le, round_not_nan}

-- ---- what is not below zero has no minus sign, or is a zero
pub plus_or_zero : (t : Bool) (n : ℕ) (d : ℤ) → T (le zero_f (fin t n d)) → (t ≡ false) ⊎ (n ≡ 0)
unfolding le
plus_or_zero false n d h = inl refl
plus_or_zero true n d h =
    let k : 0 * 1 * down d + n * up d * 1 ≤ 0 = le-fact false (0 * 1 * down d) true (n * up d * 1) h in
    inr (product_zero n (up d) (up_pos d) (omega arith))

pub volume-le : (x : Float) → T (is_volume x) → T (le zero_f x)
unfolding is_volume
volume-le nan h = absurd h
volume-le (inf s) h = absurd h
volume-le (fin s m e) h = h

-- ---- one sum
nothing-less : (a b : ℕ) → b ≡ 0 → a ≤ a - b
nothing-less a b e = omega arith

sum_by : (f : Format) (s : Bool) (a : ℕ) (t : Bool) (b c : ℕ) (Q : Float → Type 0) → (t ≡ false) ⊎ (b ≡ 0)
    → ((u : Bool) (n : ℕ) → Le s a u n → Q (round f u n c)) → Q (sum f s a t b c)
unfolding sum
sum_by f false a false b c Q w g = g false (a + b) (omega arith)
sum_by f true a true b c Q (inl w) g = absurd (true≢false w)
sum_by f true a true b c Q (inr w) g = g true (a + b) (omega arith)
sum_by f true a false b c Q w g = go (ltb a b) (ltb b a)
  where
    go : (x y : Bool) → Q (cond x (round f false (b - a) c) (round f y (a - b) c))
    go true y = g false (b - a) (omega arith)
    go false true = g true (a - b) (omega arith)
    go false false = g false (a - b) (omega arith)
sum_by f false a true b c Q (inl w) g = absurd (true≢false w)
sum_by f false a true b c Q (inr w) g = go (ltb a b) (ltb→lt a b)
  where
    go : (x : Bool) → (T x → a < b) → Q (cond x (round f true (b - a) c) (round f false (a - b) c))
    go true h = let l : a < b = h tt in absurd (clash a b l w)
      where
        clash : (a b : ℕ) → a < b → b ≡ 0 → ⊥
        clash a b l w = omega arith
    go false h = g false (a - b) (nothing-less a b w)

no_less : (t : Bool) (n u d : ℕ) → (t ≡ false) ⊎ (n ≡ 0) → (t ≡ false) ⊎ (n * u * d ≡ 0)
no_less t n u d (inl e) = inl e
no_less t n u d (inr e) = inr (ap (λ (k : ℕ). k * u * d) e ∙ simp zero-mul)

-- 2 ^ 53 + 1 does not fit, and with 0 added it rounds down; -infinity + infinity is a NaN
pub add-raises : (f : Format) (u x : Float) → T (fits f u) → T (le zero_f x) → T (not (is_nan (add f u x))) → T (le u (add f u x))
unfolding add is_nan le
add-raises f u nan h p k = absurd p
add-raises f u (inf true) h p k = absurd p
add-raises f nan (inf false) h p k = absurd k
add-raises f (inf true) (inf false) h p k = absurd k
add-raises f (inf false) (inf false) h p k = tt
add-raises f (fin s m e) (inf false) h p k = tt
add-raises f nan (fin t n d) h p k = absurd k
add-raises f (inf true) (fin t n d) h p k = tt
add-raises f (inf false) (fin t n d) h p k = tt
add-raises f (fin s m e) (fin t n d) h p k =
    sum_by f s (m * up e * down d) t (n * up d * down e) (down e * down d) (λ z. T (le (fin s m e) z))
    (no_less t n (up d) (down e) (plus_or_zero t n d p))
    (λ u r l. own_le f s m e (down d) u r (down_pos d) h l)

-- ---- sums that are no NaN
sum_not_nan : (f : Format) (s : Bool) (a : ℕ) (t : Bool) (b c : ℕ) → T (not (is_nan (sum f s a t b c)))
unfolding sum
sum_not_nan f s a t b c = go (beq s t) (ltb a b)
  where
    go : (x y : Bool) → T (not (is_nan (cond x (round f s (a + b) c) (cond y (round f t (b - a) c) (round f (s && ltb b a) (a - b) c)))))
    go true y = round_not_nan f s (a + b) c
    go false true = round_not_nan f t (b - a) c
    go false false = round_not_nan f (s && ltb b a) (a - b) c

above_not_nan : (f : Format) (y u x : Float) → T (lt y u) → T (le zero_f x) → T (not (is_nan (add f u x)))
unfolding add is_nan le
above_not_nan f y nan x l p = absurd (lt-not_nan y nan l)
above_not_nan f y (inf true) x l p = absurd (not-below_inf y l)
above_not_nan f y (inf false) nan l p = absurd p
above_not_nan f y (inf false) (inf true) l p = absurd p
above_not_nan f y (inf false) (inf false) l p = tt
above_not_nan f y (inf false) (fin t n d) l p = tt
above_not_nan f y (fin s m e) nan l p = absurd p
above_not_nan f y (fin s m e) (inf true) l p = absurd p
above_not_nan f y (fin s m e) (inf false) l p = tt
above_not_nan f y (fin s m e) (fin t n d) l p = sum_not_nan f s (m * up e * down d) t (n * up d * down e) (down e * down d)

volume-not_nan : (f : Format) (u x : Float) → T (not (is_nan u)) → T (is_volume x) → T (not (is_nan (add f u x)))
unfolding add is_nan is_volume
volume-not_nan f u nan k p = absurd p
volume-not_nan f u (inf t) k p = absurd p
volume-not_nan f nan (fin t n d) k p = absurd k
volume-not_nan f (inf s) (fin t n d) k p = tt
volume-not_nan f (fin s m e) (fin t n d) k p = sum_not_nan f s (m * up e * down d) t (n * up d * down e) (down e * down d)

-- what lies above something is no NaN and no -infinity
pub add-above : (f : Format) (y u x : Float) → T (fits f u) → T (lt y u) → T (le zero_f x) → T (le u (add f u x))
add-above f y u x h l p = add-raises f u x h p (above_not_nan f y u x l p)

-- a finite addend that is not below zero
pub add-volume : (f : Format) (u x : Float) → T (fits f u) → T (not (is_nan u)) → T (is_volume x) → T (le u (add f u x))
add-volume f u x h k p = add-raises f u x h (volume-le x p) (volume-not_nan f u x k p)

-- ---- a list of terms, added in order
module _ {A : Type 0} (f : A → Float) where
  pub total-fits : (u : Float) (l : List A) → T (fits binary64 u) → T (fits binary64 (total_from f u l))
  total-fits u [] h = h
  total-fits u (x ∷ l) h = total-fits (add binary64 u (f x)) l (add-fits binary64 u (f x))

  pub total-above : (y u : Float) (l : List A) → T (fits binary64 u) → T (lt y u) → ((x : A) → Memᴰ x l → T (le zero_f (f x))) → T (le u (total_from f u l))
  total-above y u [] h k p = le_refl u (lt-not_nan y u k)
  total-above y u (x ∷ l) h k p =
      let v = add binary64 u (f x) in
      let r : T (le u v) = add-above binary64 y u (f x) h k (p x (Memᴰ.head refl)) in
      le_trans u v (total_from f v l) r (total-above y v l (add-fits binary64 u (f x)) (lt-le_trans y u v k r) (λ z m. p z (Memᴰ.tail m)))

  pub total-volumes : (u : Float) (l : List A) → T (fits binary64 u) → T (not (is_nan u)) → ((x : A) → Memᴰ x l → T (is_volume (f x)))
      → T (le u (total_from f u l))
  total-volumes u [] h k p = le_refl u k
  total-volumes u (x ∷ l) h k p =
      let v = add binary64 u (f x) in
      let r : T (le u v) = add-volume binary64 u (f x) h k (p x (Memᴰ.head refl)) in
      le_trans u v (total_from f v l) r (total-volumes v l (add-fits binary64 u (f x)) (le-not_nan u v r) (λ z m. p z (Memᴰ.tail m)))
