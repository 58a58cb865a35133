-- The order of the floats, all of them: NaNs, infinities, either sign. By the order of fractions, which at one denominator is linear.
use Rattle.std.proofs.Common.{◌≡◌, ℕ, zero, suc, ◌+◌, ◌*◌, ◌<◌, ◌≤◌, Bool, true, false, not, ◌&&◌, ◌||◌, T, eqb, ltb, ◌⊎◌, sym, refl, subst, inl, inr, le_of_eq, le_of_lt, mul-le-mul_right, add-mul, eq-or-lt_of_le, mul-lt-mul_of_pos_right, mul-pos, lt_of_not-le, zero-mul, mul_right_comm, not-le_of_lt, le_of_mul-le-mul_right, arith, eqb→eq, ltb→lt, lt→ltb}
use lib.Ieee.{Float, nan, inf, fin, up, down, lt, le, below, level, neg, is_nan}
use lib.Ieee.Fits.{down_pos, and_l, and_r, and_i, eq→eqb}

-- ---- ±a < ±b and ±a ≤ ±b, as facts: a sign is true where the number is negative
abbrev pub Lt : Bool → ℕ → Bool → ℕ → Type 0
Lt false a false b = a < b
Lt false a true b = a < 0
Lt true a false b = 0 < a + b
Lt true a true b = b < a

abbrev pub Le : Bool → ℕ → Bool → ℕ → Type 0
Le false a false b = a ≤ b
Le false a true b = a + b ≤ 0
Le true a false b = 0 ≤ a
Le true a true b = b ≤ a

or_split : (a b : Bool) → T (a || b) → T a ⊎ T b
or_split true b t = inl tt
or_split false b t = inr t

or_l : (a b : Bool) → T a → T (a || b)
or_l true b t = tt
or_l false b t = absurd t

or_r : (a b : Bool) → T b → T (a || b)
or_r true b t = tt
or_r false b t = t

not-below_zero : (a : ℕ) → a < 0 → ⊥
not-below_zero a h = omega arith

lt-fact : (s : Bool) (a : ℕ) (t : Bool) (b : ℕ) → T (below s a t b) → Lt s a t b
lt-fact false a false b h = ltb→lt a b h
lt-fact false a true b h = absurd h
lt-fact true a false b h = ltb→lt 0 (a + b) h
lt-fact true a true b h = ltb→lt b a h

lt_test : (s : Bool) (a : ℕ) (t : Bool) (b : ℕ) → Lt s a t b → T (below s a t b)
lt_test false a false b h = lt→ltb a b h
lt_test false a true b h = absurd (not-below_zero a h)
lt_test true a false b h = lt→ltb 0 (a + b) h
lt_test true a true b h = lt→ltb b a h

sum_zero : (a b : ℕ) → a ≡ b → a ≡ 0 → a + b ≤ 0
sum_zero a b h k = omega arith

pub le-fact : (s : Bool) (a : ℕ) (t : Bool) (b : ℕ) → T (below s a t b || level s a t b) → Le s a t b
le-fact false a false b h =
    elim (or_split (ltb a b) (eqb a b && true) h) [ inl u ↦ le_of_lt (ltb→lt a b u) | inr u ↦ le_of_eq (eqb→eq a b (and_l (eqb a b) true u)) ]
le-fact false a true b h = sum_zero a b (eqb→eq a b (and_l (eqb a b) (eqb a 0) h)) (eqb→eq a 0 (and_r (eqb a b) (eqb a 0) h))
le-fact true a false b h = omega arith
le-fact true a true b h =
    elim (or_split (ltb b a) (eqb a b && true) h) [ inl u ↦ le_of_lt (ltb→lt b a u) | inr u ↦ le_of_eq (sym (eqb→eq a b (and_l (eqb a b) true u))) ]

both_zero : (a b : ℕ) → a + b ≤ 0 → T (eqb a b && eqb a 0)
both_zero a b h =
    let p : a ≡ b = omega arith in
    let q : a ≡ 0 = omega arith in
    and_i (eqb a b) (eqb a 0) (eq→eqb p) (eq→eqb q)

zero-or_more : (n : ℕ) → (n ≤ 0) ⊎ (0 < n)
zero-or_more zero = inl (omega arith)
zero-or_more (suc n) = inr (omega arith)

pub le_test : (s : Bool) (a : ℕ) (t : Bool) (b : ℕ) → Le s a t b → T (below s a t b || level s a t b)
le_test false a false b h =
    elim (eq-or-lt_of_le h) [
      | inl p ↦ or_r (ltb a b) (eqb a b && true) (and_i (eqb a b) true (eq→eqb p) tt)
      | inr q ↦ or_l (ltb a b)
          (eqb a b && true) (lt→ltb a b q)
    ]
le_test false a true b h = both_zero a b h
le_test true a false b h =
    elim (zero-or_more (a + b)) [
      | inl p ↦ or_r (ltb 0 (a + b)) (eqb a b && eqb a 0) (both_zero a b p)
      | inr q ↦ or_l (ltb 0 (a + b))
          (eqb a b && eqb a 0) (lt→ltb 0 (a + b) q)
    ]
le_test true a true b h =
    elim (eq-or-lt_of_le h) [
      | inl p ↦ or_r (ltb b a) (eqb a b && true) (and_i (eqb a b) true (eq→eqb (sym p)) tt)
      | inr q ↦ or_l (ltb b a)
          (eqb a b && true) (lt→ltb b a q)
    ]

-- ---- at one denominator
lt-le : (s : Bool) (a : ℕ) (t : Bool) (b : ℕ) (u : Bool) (c : ℕ) → Lt s a t b → Le t b u c → Lt s a u c
lt-le false a false b false c h k = omega arith
lt-le false a false b true c h k = omega arith
lt-le false a true b false c h k = omega arith
lt-le false a true b true c h k = omega arith
lt-le true a false b false c h k = omega arith
lt-le true a false b true c h k = omega arith
lt-le true a true b false c h k = omega arith
lt-le true a true b true c h k = omega arith

le-le : (s : Bool) (a : ℕ) (t : Bool) (b : ℕ) (u : Bool) (c : ℕ) → Le s a t b → Le t b u c → Le s a u c
le-le false a false b false c h k = omega arith
le-le false a false b true c h k = omega arith
le-le false a true b false c h k = omega arith
le-le false a true b true c h k = omega arith
le-le true a false b false c h k = omega arith
le-le true a false b true c h k = omega arith
le-le true a true b false c h k = omega arith
le-le true a true b true c h k = omega arith

flip : (s : Bool) (a : ℕ) (t : Bool) (b : ℕ) → Le s a t b → Le (not t) b (not s) a
flip false a false b h = h
flip false a true b h = omega arith
flip true a false b h = omega arith
flip true a true b h = h

-- ---- both sides times k
lt-of_scaled : (a b k : ℕ) → a * k < b * k → a < b
lt-of_scaled a b k h = lt_of_not-le (λ (g : b ≤ a). not-le_of_lt h (mul-le-mul_right k g))

lt-times : (s : Bool) (a : ℕ) (t : Bool) (b k : ℕ) → 0 < k → Lt s a t b → Lt s (a * k) t (b * k)
lt-times false a false b k K h = mul-lt-mul_of_pos_right h K
lt-times false a true b k K h = absurd (not-below_zero a h)
lt-times true a false b k K h = subst (λ (n : ℕ). 0 < n) (add-mul a b k) (mul-pos h K)
lt-times true a true b k K h = mul-lt-mul_of_pos_right h K

lt-over : (s : Bool) (a : ℕ) (t : Bool) (b k : ℕ) → Lt s (a * k) t (b * k) → Lt s a t b
lt-over false a false b k h = lt-of_scaled a b k h
lt-over false a true b k h = absurd (not-below_zero (a * k) h)
lt-over true a false b k h = lt-of_scaled 0 (a + b) k (subst (λ (n : ℕ). n < (a + b) * k) (sym (zero-mul k)) (subst (λ (n : ℕ). 0 < n) (sym (add-mul a b k)) h))
lt-over true a true b k h = lt-of_scaled b a k h

pub le-times : (s : Bool) (a : ℕ) (t : Bool) (b k : ℕ) → Le s a t b → Le s (a * k) t (b * k)
le-times false a false b k h = mul-le-mul_right k h
le-times false a true b k h = subst (λ (n : ℕ). a * k + b * k ≤ n) (zero-mul k) (subst (λ (n : ℕ). n ≤ 0 * k) (add-mul a b k) (mul-le-mul_right k h))
le-times true a false b k h = omega arith
le-times true a true b k h = mul-le-mul_right k h

le-over : (s : Bool) (a : ℕ) (t : Bool) (b k : ℕ) → 0 < k → Le s (a * k) t (b * k) → Le s a t b
le-over false a false b k K h = le_of_mul-le-mul_right h K
le-over false a true b k K h =
    le_of_mul-le-mul_right (subst (λ (n : ℕ). (a + b) * k ≤ n) (sym (zero-mul k)) (subst (λ (n : ℕ). n ≤ 0) (sym (add-mul a b k)) h)) K
le-over true a false b k K h = omega arith
le-over true a true b k K h = le_of_mul-le-mul_right h K

-- ---- three fractions p / x, q / y, r / z
lt-le_fractions : (s t u : Bool) (p q r x y z : ℕ) → 0 < z → Lt s (p * y) t (q * x) → Le t (q * z) u (r * y) → Lt s (p * z) u (r * x)
lt-le_fractions s t u p q r x y z Z h k =
    lt-over s (p * z) u (r * x) y
    (lt-le s (p * z * y) t (q * x * z) u (r * x * y)
    (subst (λ (n : ℕ). Lt s n t (q * x * z)) (mul_right_comm p y z) (lt-times s (p * y) t (q * x) z Z h))
    (subst (λ (n : ℕ). Le t n u (r * x * y)) (mul_right_comm q z x)
    (subst (λ (n : ℕ). Le t (q * z * x) u n) (mul_right_comm r y x) (le-times t (q * z) u (r * y) x k))))

pub le-le_fractions : (s t u : Bool) (p q r x y z : ℕ) → 0 < y → Le s (p * y) t (q * x) → Le t (q * z) u (r * y) → Le s (p * z) u (r * x)
le-le_fractions s t u p q r x y z Y h k =
    le-over s (p * z) u (r * x) y Y
    (le-le s (p * z * y) t (q * x * z) u (r * x * y)
    (subst (λ (n : ℕ). Le s n t (q * x * z)) (mul_right_comm p y z) (le-times s (p * y) t (q * x) z h))
    (subst (λ (n : ℕ). Le t n u (r * x * y)) (mul_right_comm q z x)
    (subst (λ (n : ℕ). Le t (q * z * x) u n) (mul_right_comm r y x) (le-times t (q * z) u (r * y) x k))))

-- ---- the floats: what compares is no NaN
pub lt-not_nan : (x y : Float) → T (lt x y) → T (not (is_nan y))
unfolding lt is_nan
lt-not_nan nan nan h = h
lt-not_nan (inf s) nan h = h
lt-not_nan (fin s m e) nan h = h
lt-not_nan x (inf t) h = tt
lt-not_nan x (fin t n d) h = tt

pub le-not_nan : (x y : Float) → T (le x y) → T (not (is_nan y))
unfolding le is_nan
le-not_nan nan nan h = h
le-not_nan (inf s) nan h = h
le-not_nan (fin s m e) nan h = h
le-not_nan x (inf t) h = tt
le-not_nan x (fin t n d) h = tt

pub le_refl : (x : Float) → T (not (is_nan x)) → T (le x x)
unfolding le is_nan
le_refl nan h = absurd h
le_refl (inf true) h = tt
le_refl (inf false) h = tt
le_refl (fin false m e) h = le_test false (m * up e * down e) false (m * up e * down e) (omega arith)
le_refl (fin true m e) h = le_test true (m * up e * down e) true (m * up e * down e) (omega arith)

-- nothing lies below -infinity, and nothing above +infinity
pub not-below_inf : (x : Float) → T (lt x (inf true)) → ⊥
unfolding lt
not-below_inf nan h = h
not-below_inf (inf true) h = h
not-below_inf (inf false) h = h
not-below_inf (fin s m e) h = h

inf-le : (x : Float) → T (not (is_nan x)) → T (le (inf true) x)
unfolding le is_nan
inf-le nan h = absurd h
inf-le (inf true) h = tt
inf-le (inf false) h = tt
inf-le (fin s m e) h = tt

above_inf : (x : Float) → T (le (inf false) x) → inf false ≡ x
unfolding le
above_inf nan h = absurd h
above_inf (inf true) h = absurd h
above_inf (inf false) h = refl
above_inf (fin s m e) h = absurd h

-- ---- transitivity
pub le_trans : (x y z : Float) → T (le x y) → T (le y z) → T (le x z)
unfolding le
le_trans nan y z p q = absurd p
le_trans (inf true) y z p q = inf-le z (le-not_nan y z q)
le_trans (inf false) y z p q = subst (λ (v : Float). T (le v z)) (sym (above_inf y p)) q
le_trans (fin s m e) nan z p q = absurd p
le_trans (fin s m e) (inf true) z p q = absurd p
le_trans (fin s m e) (inf false) z p q = subst (λ (v : Float). T (le (fin s m e) v)) (above_inf z q) tt
le_trans (fin s m e) (fin t n d) nan p q = absurd q
le_trans (fin s m e) (fin t n d) (inf true) p q = absurd q
le_trans (fin s m e) (fin t n d) (inf false) p q = tt
le_trans (fin s m e) (fin t n d) (fin u k c) p q =
    le_test s (m * up e * down c) u (k * up c * down e)
    (le-le_fractions s t u (m * up e) (n * up d) (k * up c) (down e) (down d) (down c) (down_pos d)
    (le-fact s (m * up e * down d) t (n * up d * down e) p)
    (le-fact t (n * up d * down c) u (k * up c * down d) q))

pub lt-le_trans : (x y z : Float) → T (lt x y) → T (le y z) → T (lt x z)
unfolding le is_nan
lt-le_trans x nan z p q = absurd (lt-not_nan x nan p)
lt-le_trans x (inf true) z p q = absurd (not-below_inf x p)
lt-le_trans x (inf false) z p q = subst (λ (v : Float). T (lt x v)) (above_inf z q) p
lt-le_trans nan (fin t n d) z p q = absurd p
lt-le_trans (inf false) (fin t n d) z p q = absurd p
lt-le_trans (inf true) (fin t n d) nan p q = absurd q
lt-le_trans (inf true) (fin t n d) (inf true) p q = absurd q
lt-le_trans (inf true) (fin t n d) (inf false) p q = tt
lt-le_trans (inf true) (fin t n d) (fin u k c) p q = tt
lt-le_trans (fin s m e) (fin t n d) nan p q = absurd q
lt-le_trans (fin s m e) (fin t n d) (inf true) p q = absurd q
lt-le_trans (fin s m e) (fin t n d) (inf false) p q = tt
lt-le_trans (fin s m e) (fin t n d) (fin u k c) p q =
    lt_test s (m * up e * down c) u (k * up c * down e)
    (lt-le_fractions s t u (m * up e) (n * up d) (k * up c) (down e) (down d) (down c) (down_pos c)
    (lt-fact s (m * up e * down d) t (n * up d * down e) p)
    (le-fact t (n * up d * down c) u (k * up c * down d) q))

-- ---- the signs turned
pub le-neg : (x y : Float) → T (le x y) → T (le (neg y) (neg x))
unfolding le neg
le-neg nan y h = absurd h
le-neg (inf s) nan h = absurd h
le-neg (inf true) (inf true) h = tt
le-neg (inf true) (inf false) h = tt
le-neg (inf false) (inf true) h = absurd h
le-neg (inf false) (inf false) h = tt
le-neg (inf true) (fin t n d) h = tt
le-neg (inf false) (fin t n d) h = absurd h
le-neg (fin s m e) nan h = absurd h
le-neg (fin s m e) (inf true) h = absurd h
le-neg (fin s m e) (inf false) h = tt
le-neg (fin s m e) (fin t n d) h =
    le_test (not t) (n * up d * down e) (not s) (m * up e * down d)
    (flip s (m * up e * down d) t (n * up d * down e) (le-fact s (m * up e * down d) t (n * up d * down e) h))
