-- A sum does not fall where its first part rises, and so not where a term that is not below zero is put in among others.
use mathlib.Core.Path.{◌≡◌, refl, ap, ◌∙◌, subst}
use mathlib.Core.Bool.{Bool, true, false, not, cond}
use mathlib.Core.List.{List, [], ◌∷◌, Memᴰ}
use Prim.Native.Nat.{ℕ, ◌+◌, ◌-◌, ◌<◌, ◌*◌}
use native.Mathlib.Nat.{mul_assoc, mul_comm, mul_left_comm, add-mul, mul-pos}
use native.Mathlib.Omega.{arith}
use lib.Dec.{T, ltb, ltb→lt, lt→ltb}
use lib.Ieee.{Float, nan, inf, fin, Format, binary64, up, down, round, sum, add, le, fits, is_nan}
use lib.Ieee.Fits.{down_pos, add-fits}
use Rattle.floats.specs.Floats.{is_volume, total_from}
use Rattle.floats.proofs.Order.{Le, le-fact, le_refl, le_trans, le-times, le-not_nan}
use Rattle.floats.proofs.Rounding.{round_le}
use Rattle.floats.proofs.Sums.{add-volume}
use Rattle.promises.proofs.Placed.{Into, empty, more, both}

-- ±a ± b = ±n
abbrev Total : Bool → ℕ → Bool → ℕ → Bool → ℕ → Type 0
Total false a false b false n = n ≡ a + b
Total false a false b true n = ⊥
Total true a true b true n = n ≡ a + b
Total true a true b false n = ⊥
Total false a true b false n = a ≡ n + b
Total false a true b true n = b ≡ n + a
Total true a false b false n = b ≡ n + a
Total true a false b true n = a ≡ n + b

total-times : (s : Bool) (a : ℕ) (t : Bool) (b : ℕ) (u : Bool) (n k : ℕ) → Total s a t b u n → Total s (a * k) t (b * k) u (n * k)
total-times false a false b false n k h = ap (λ (x : ℕ). x * k) h ∙ add-mul a b k
total-times false a false b true n k h = absurd h
total-times true a true b true n k h = ap (λ (x : ℕ). x * k) h ∙ add-mul a b k
total-times true a true b false n k h = absurd h
total-times false a true b false n k h = ap (λ (x : ℕ). x * k) h ∙ add-mul n b k
total-times false a true b true n k h = ap (λ (x : ℕ). x * k) h ∙ add-mul n a k
total-times true a false b false n k h = ap (λ (x : ℕ). x * k) h ∙ add-mul n a k
total-times true a false b true n k h = ap (λ (x : ℕ). x * k) h ∙ add-mul n b k

-- what is added to is no less, so the total is no less
total-le : (s : Bool) (a : ℕ) (t : Bool) (b : ℕ) (r : Bool) (w : ℕ) (u : Bool) (n : ℕ) (v : Bool) (m : ℕ)
    → Total s a r w u n → Total t b r w v m → Le s a t b → Le u n v m
total-le false a false b false w false n false m h k l = omega arith
total-le false a false b false w false n true m h k l = absurd k
total-le false a false b false w true n v m h k l = absurd h
total-le false a true b false w false n false m h k l = omega arith
total-le false a true b false w false n true m h k l = omega arith
total-le false a true b false w true n v m h k l = absurd h
total-le true a false b false w false n false m h k l = omega arith
total-le true a false b false w false n true m h k l = absurd k
total-le true a false b false w true n false m h k l = omega arith
total-le true a false b false w true n true m h k l = absurd k
total-le true a true b false w false n false m h k l = omega arith
total-le true a true b false w false n true m h k l = omega arith
total-le true a true b false w true n false m h k l = omega arith
total-le true a true b false w true n true m h k l = omega arith
total-le false a false b true w false n false m h k l = omega arith
total-le false a false b true w false n true m h k l = omega arith
total-le false a false b true w true n false m h k l = omega arith
total-le false a false b true w true n true m h k l = omega arith
total-le false a true b true w false n false m h k l = absurd k
total-le false a true b true w false n true m h k l = omega arith
total-le false a true b true w true n false m h k l = absurd k
total-le false a true b true w true n true m h k l = omega arith
total-le true a false b true w false n v m h k l = absurd h
total-le true a false b true w true n false m h k l = omega arith
total-le true a false b true w true n true m h k l = omega arith
total-le true a true b true w false n v m h k l = absurd h
total-le true a true b true w true n false m h k l = absurd k
total-le true a true b true w true n true m h k l = omega arith

sum_is : (f : Format) (s : Bool) (a : ℕ) (t : Bool) (b c : ℕ) (Q : Float → Type 0) → ((u : Bool) (n : ℕ) → Total s a t b u n → Q (round f u n c)) → Q (sum f s a t b c)
unfolding sum
sum_is f false a false b c Q g = g false (a + b) refl
sum_is f true a true b c Q g = g true (a + b) refl
sum_is f true a false b c Q g = go (ltb a b) (ltb→lt a b) (lt→ltb a b) (ltb b a) (ltb→lt b a) (lt→ltb b a)
  where
    go : (x : Bool) → (T x → a < b) → (a < b → T x) → (y : Bool) → (T y → b < a) → (b < a → T y) → Q (cond x (round f false (b - a) c) (round f y (a - b) c))
    go true h i y k l = let p : a < b = h tt in g false (b - a) (omega arith)
    go false h i true k l = let p : b < a = k tt in g true (a - b) (omega arith)
    go false h i false k l = even (λ p. i p) (λ p. l p)
      where
        same_number : (a b : ℕ) → (a < b → ⊥) → (b < a → ⊥) → b ≡ a - b + a
        same_number a b p q = omega arith

        even : (a < b → ⊥) → (b < a → ⊥) → Q (round f false (a - b) c)
        even p q = g false (a - b) (same_number a b p q)
sum_is f false a true b c Q g = go (ltb a b) (ltb→lt a b) (lt→ltb a b)
  where
    less : (a b : ℕ) → (a < b → ⊥) → a ≡ a - b + b
    less a b p = omega arith

    go : (x : Bool) → (T x → a < b) → (a < b → T x) → Q (cond x (round f true (b - a) c) (round f false (a - b) c))
    go true h i = let p : a < b = h tt in g true (b - a) (omega arith)
    go false h i = g false (a - b) (less a b (λ p. i p))

-- one sum: x is added to u and to v
pub add-mono : (f : Format) (u v x : Float) → T (le u v) → T (not (is_nan (add f u x))) → T (not (is_nan (add f v x))) → T (le (add f u x) (add f v x))
unfolding add is_nan le
add-mono f nan v x h p q = absurd p
add-mono f (inf s) nan x h p q = absurd q
add-mono f (fin s m e) nan x h p q = absurd q
add-mono f (inf s) (inf t) nan h p q = absurd p
add-mono f (inf s) (fin t n d) nan h p q = absurd p
add-mono f (fin s m e) (inf t) nan h p q = absurd p
add-mono f (fin s m e) (fin t n d) nan h p q = absurd p
add-mono f (inf false) (inf false) (inf false) h p q = tt
add-mono f (inf false) (inf false) (inf true) h p q = absurd p
add-mono f (inf false) (inf true) (inf false) h p q = absurd h
add-mono f (inf false) (inf true) (inf true) h p q = absurd h
add-mono f (inf true) (inf false) (inf false) h p q = absurd p
add-mono f (inf true) (inf false) (inf true) h p q = absurd q
add-mono f (inf true) (inf true) (inf false) h p q = absurd p
add-mono f (inf true) (inf true) (inf true) h p q = tt
add-mono f (inf false) (fin t n d) (inf r) h p q = absurd h
add-mono f (inf true) (fin t n d) (inf false) h p q = absurd p
add-mono f (inf true) (fin t n d) (inf true) h p q = tt
add-mono f (fin s m e) (inf true) (inf r) h p q = absurd h
add-mono f (fin s m e) (inf false) (inf false) h p q = tt
add-mono f (fin s m e) (inf false) (inf true) h p q = absurd q
add-mono f (fin s m e) (fin t n d) (inf false) h p q = tt
add-mono f (fin s m e) (fin t n d) (inf true) h p q = tt
add-mono f (inf false) (inf false) (fin r k g) h p q = tt
add-mono f (inf false) (inf true) (fin r k g) h p q = absurd h
add-mono f (inf true) (inf false) (fin r k g) h p q = tt
add-mono f (inf true) (inf true) (fin r k g) h p q = tt
add-mono f (inf false) (fin t n d) (fin r k g) h p q = absurd h
add-mono f (inf true) (fin t n d) (fin r k g) h p q = below (sum f t (n * up d * down g) r (k * up g * down d) (down d * down g)) q
  where
    below : (z : Float) → T (not (is_nan z)) → T (le (inf true) z)
    below nan i = absurd i
    below (inf false) i = tt
    below (inf true) i = tt
    below (fin y a b) i = tt
add-mono f (fin s m e) (inf true) (fin r k g) h p q = absurd h
add-mono f (fin s m e) (inf false) (fin r k g) h p q = above (sum f s (m * up e * down g) r (k * up g * down e) (down e * down g)) p
  where
    above : (z : Float) → T (not (is_nan z)) → T (le z (inf false))
    above nan i = absurd i
    above (inf false) i = tt
    above (inf true) i = tt
    above (fin y a b) i = tt
add-mono f (fin s m e) (fin t n d) (fin r k g) h p q =
    let E = down e in
    let D = down d in
    let G = down g in
    let A = m * up e in
    let B = n * up d in
    let K = k * up g in
    let l : Le s (A * D) t (B * E) = le-fact s (A * D) t (B * E) h in
    sum_is f s (A * G) r (K * E) (E * G) (λ z. T (le z (sum f t (B * G) r (K * D) (D * G)))) λ u i H.
    sum_is f t (B * G) r (K * D) (D * G) (λ z. T (le (round f u i (E * G)) z)) λ v j J.
    round_le f u i (E * G) v j (D * G) (mul-pos (down_pos e) (down_pos g)) (mul-pos (down_pos d) (down_pos g))
    (total-le s (A * G * (D * G)) t (B * G * (E * G)) r (K * E * (D * G)) u (i * (D * G)) v (j * (E * G))
    (total-times s (A * G) r (K * E) u i (D * G) H)
    (subst (λ (z : ℕ). Total t (B * G * (E * G)) r z v (j * (E * G))) (turn K D E G) (total-times t (B * G) r (K * D) v j (E * G) J))
    (subst (λ (z : ℕ). Le s z t (B * G * (E * G))) (turn A D G G) (subst (λ (z : ℕ). Le s (A * D * (G * G)) t z) (turn B E G G) (le-times s (A * D) t (B * E) (G * G) l))))
  where
    turn : (a b c d : ℕ) → a * b * (c * d) ≡ a * c * (b * d)
    turn a b c d = simp (mul_assoc, mul_comm, mul_left_comm)

le-number : (x y : Float) → T (le x y) → T (not (is_nan x))
unfolding le is_nan
le-number nan y h = absurd h
le-number (inf s) y h = tt
le-number (fin s m e) y h = tt

module _ {A : Type 0} (f : A → Float) where
  -- no sum of numbers and volumes is a NaN
  number : (u x : Float) → T (fits binary64 u) → T (not (is_nan u)) → T (is_volume x) → T (not (is_nan (add binary64 u x)))
  number u x h k p = le-not_nan u (add binary64 u x) (add-volume binary64 u x h k p)

  pub total_mono : (u v : Float) (l : List A) → T (fits binary64 u) → T (fits binary64 v) → T (le u v) → ((x : A) → Memᴰ x l → T (is_volume (f x)))
      → T (le (total_from f u l) (total_from f v l))
  total_mono u v [] h k i p = i
  total_mono u v (x ∷ l) h k i p =
      let w = p x (Memᴰ.head refl) in
      total_mono (add binary64 u (f x)) (add binary64 v (f x)) l (add-fits binary64 u (f x)) (add-fits binary64 v (f x))
      (add-mono binary64 u v (f x) i (number u (f x) h (le-number u v i) w) (number v (f x) k (le-not_nan u v i) w))
      (λ z m. p z (Memᴰ.tail m))

  -- volumes put in anywhere do not lower the sum
  pub total-into : (u : Float) {l m : List A} → Into l m → T (fits binary64 u) → T (not (is_nan u)) → ((x : A) → Memᴰ x m → T (is_volume (f x)))
      → T (le (total_from f u l) (total_from f u m))
  total-into u empty h k p = le_refl u k
  total-into u (more {x} {l} {m} s) h k p =
      let w = p x (Memᴰ.head refl) in
      let v = add binary64 u (f x) in
      le_trans (total_from f u l) (total_from f u m) (total_from f v m)
      (total-into u s h k (λ z i. p z (Memᴰ.tail i)))
      (total_mono u v m h (add-fits binary64 u (f x)) (add-volume binary64 u (f x) h k w) (λ z i. p z (Memᴰ.tail i)))
  total-into u (both {x} {l} {m} s) h k p =
      total-into (add binary64 u (f x)) s (add-fits binary64 u (f x)) (number u (f x) h k (p x (Memᴰ.head refl))) (λ z i. p z (Memᴰ.tail i))
