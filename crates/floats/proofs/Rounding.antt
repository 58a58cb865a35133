-- `round` at either sign: it gives no NaN, keeps the order, and leaves a value of its format as it is. From the library's laws for what is not negative.
use Rattle.std.proofs.Common.{◌≡◌, ℕ, zero, suc, ◌+◌, ◌-◌, ◌*◌, ◌%◌, ◌^◌, ◌<◌, ◌≤◌, Bool, true, false, cond, not, ◌&&◌, T, eqb, ltb, leb, ℤ, pos, negsuc, sym, refl, ap, ◌∙◌, subst, inl, inr, true≢false, le_of_eq, le_of_suc-le-suc, lt_irrefl, mul_assoc, mul_comm, eq-zero-or-pos, lt_of_mul-lt-mul_right, mul-lt-mul_of_pos_right, mul-pos, one-mul, lt_of_not-le, zero-mul, mul-one, not-le_of_lt, mul_left_comm, arith, ltb→lt, leb→le, pow_pos, pow-add}
use lib.Pow.{pow-lt}
use lib.Ieee.{Float, nan, inf, fin, Format, prec, emax, low, up, down, odd, units, round, neg, le, fits, is_nan}
use lib.Ieee.Digits.{back}
use lib.Ieee.Fits.{down_pos, round_is, and_l, and_r}
use lib.Ieee.Exact.{HasValue, round_exact}
use lib.Ieee.Order.{round_mono, kept, drop}
use Rattle.floats.proofs.Order.{Le, le_test, le-times, le-le_fractions, le_trans, le-neg}

-- ---- two values by the fractions that they equal
le_same : (s : Bool) {a b : ℕ} → a ≡ b → Le s a s b
le_same false e = le_of_eq e
le_same true e = le_of_eq (sym e)

pub le_of_values : (x y : Float) (s t : Bool) (a c b c' : ℕ) → 0 < c → 0 < c' → HasValue x s a c → HasValue y t b c' → Le s (a * c') t (b * c) → T (le x y)
unfolding le
le_of_values nan y s t a c b c' C C' p q h = absurd p
le_of_values (inf r) y s t a c b c' C C' p q h = absurd p
le_of_values (fin r m e) nan s t a c b c' C C' p q h = absurd q
le_of_values (fin r m e) (inf u) s t a c b c' C C' p q h = absurd q
le_of_values (fin r m e) (fin u n d) s t a c b c' C C' p q h =
    let k : Le s (a * down d) t (n * up d * c) = le-le_fractions s t t a b (n * up d) c c' (down d) C' h (le_same t (sym q.1)) in
    let l : Le s (m * up e * down d) t (n * up d * down e) = le-le_fractions s s t (m * up e) a (n * up d) (down e) c (down d) C (le_same s p.1) k in
    le_test r (m * up e * down d) u (n * up d * down e)
    (subst (λ (z : Bool). Le z (m * up e * down d) u (n * up d * down e)) (sym p.0)
    (subst (λ (z : Bool). Le s (m * up e * down d) z (n * up d * down e)) (sym q.0) l))

-- ---- the sign of what is rounded
abbrev pub Signed : Bool → Float → Type 0
Signed s nan = ⊥
Signed s (inf t) = t ≡ s
Signed s (fin t m e) = t ≡ s

odd_signed : (d : ℕ) (s : Bool) (q k l : ℕ) → Signed s (odd d s q k l)
unfolding odd
odd_signed d s zero k l = refl
odd_signed d s (suc q) k l = refl

units_signed : (f : Format) (s : Bool) (q k : ℕ) → Signed s (units f s q k)
unfolding units
units_signed f s q k = go (ltb (q * 2 ^ k) (2 ^ (low f + suc (emax f))))
  where
    go : (b : Bool) → Signed s (cond b (odd (suc (prec f)) s q k (low f)) (inf s))
    go true = odd_signed (suc (prec f)) s q k (low f)
    go false = refl

pub round_signed : (f : Format) (s : Bool) (a b : ℕ) → Signed s (round f s a b)
round_signed f s a b = subst (Signed s) (sym (round_is f s a b)) (units_signed f s (kept (prec f) (a * 2 ^ low f) b) (drop (prec f) (a * 2 ^ low f) b))

signed_not_nan : (s : Bool) (x : Float) → Signed s x → T (not (is_nan x))
unfolding is_nan
signed_not_nan s nan h = absurd h
signed_not_nan s (inf t) h = tt
signed_not_nan s (fin t m e) h = tt

pub round_not_nan : (f : Format) (s : Bool) (a b : ℕ) → T (not (is_nan (round f s a b)))
round_not_nan f s a b = signed_not_nan s (round f s a b) (round_signed f s a b)

signs_le : (x y : Float) → Signed true x → Signed false y → T (le x y)
unfolding le
signs_le nan y p q = absurd p
signs_le (inf false) y p q = absurd (true≢false (sym p))
signs_le (inf true) nan p q = absurd q
signs_le (inf true) (inf true) p q = tt
signs_le (inf true) (inf false) p q = tt
signs_le (inf true) (fin t n d) p q = tt
signs_le (fin false m e) y p q = absurd (true≢false (sym p))
signs_le (fin true m e) nan p q = absurd q
signs_le (fin true m e) (inf true) p q = absurd (true≢false q)
signs_le (fin true m e) (inf false) p q = tt
signs_le (fin true m e) (fin true n d) p q = absurd (true≢false q)
signs_le (fin true m e) (fin false n d) p q = le_test true (m * up e * down d) false (n * up d * down e) (omega arith)

-- ---- the other sign
odd_neg : (d q k l : ℕ) → odd d true q k l ≡ neg (odd d false q k l)
unfolding odd neg
odd_neg d zero k l = refl
odd_neg d (suc q) k l = refl

units_neg : (f : Format) (q k : ℕ) → units f true q k ≡ neg (units f false q k)
unfolding units
units_neg f q k = go (ltb (q * 2 ^ k) (2 ^ (low f + suc (emax f))))
  where
    go : (b : Bool) → cond b (odd (suc (prec f)) true q k (low f)) (inf true) ≡ neg (cond b (odd (suc (prec f)) false q k (low f)) (inf false))
    go true = odd_neg (suc (prec f)) q k (low f)
    go false = unfold neg in refl

pub round_neg : (f : Format) (a b : ℕ) → round f true a b ≡ neg (round f false a b)
round_neg f a b =
    round_is f true a b
    ∙ units_neg f (kept (prec f) (a * 2 ^ low f) b) (drop (prec f) (a * 2 ^ low f) b)
    ∙ ap neg (sym (round_is f false a b))

-- ---- zero
pub round_zero : (f : Format) (s : Bool) (b : ℕ) → 0 < b → HasValue (round f s 0 b) s 0 b
round_zero f s b B =
    round_exact f s 0 b 0 0 B (pow_pos (prec f)) (subst (λ (n : ℕ). n < 2 ^ (low f + suc (emax f))) (sym (zero-mul (2 ^ 0))) (pow_pos (low f + suc (emax f))))
    (simp zero-mul)

pub product_zero : (a d : ℕ) → 0 < d → a * d ≡ 0 → a ≡ 0
product_zero a d D e = elim (eq-zero-or-pos a) [ inl z ↦ z | inr p ↦ absurd (lt_irrefl 0 (subst (λ (n : ℕ). 0 < n) e (mul-pos p D))) ]

-- ---- `round` keeps the order
pub round_le : (f : Format) (s : Bool) (a b : ℕ) (t : Bool) (c d : ℕ) → 0 < b → 0 < d → Le s (a * d) t (c * b) → T (le (round f s a b) (round f t c d))
round_le f false a b false c d B D h = round_mono f a b c d B D h
round_le f false a b true c d B D h =
    let p : a * d ≡ 0 = omega arith in
    let q : c * b ≡ 0 = omega arith in
    let x : a ≡ 0 = product_zero a d D p in
    let y : c ≡ 0 = product_zero c b B q in
    subst (λ (n : ℕ). T (le (round f false n b) (round f true c d))) (sym x)
    (subst (λ (n : ℕ). T (le (round f false 0 b) (round f true n d))) (sym y)
    (le_of_values (round f false 0 b) (round f true 0 d) false true 0 b 0 d B D (round_zero f false b B) (round_zero f true d D) (simp zero-mul (omega arith))))
round_le f true a b false c d B D h = signs_le (round f true a b) (round f false c d) (round_signed f true a b) (round_signed f false c d)
round_le f true a b true c d B D h =
    subst (λ (z : Float). T (le z (round f true c d))) (sym (round_neg f a b))
    (subst (λ (z : Float). T (le (neg (round f false a b)) z)) (sym (round_neg f c d))
    (le-neg (round f false c d) (round f false a b) (round_mono f c d a b D B h)))

-- ---- a value of the format rounds to itself
exponent : (l : ℕ) (e : ℤ) → down e ≤ 2 ^ l → (j : ℕ) × (2 ^ j * down e ≡ up e * 2 ^ l)
exponent l (pos i) h = (i + l, mul-one (2 ^ (i + l)) ∙ pow-add 2 i l)
exponent l (negsuc i) h =
    let k : suc i ≤ l = le_of_suc-le-suc (lt_of_not-le (λ (g : suc l ≤ suc i). not-le_of_lt (pow-lt g) h)) in
    (l - suc i, sym (pow-add 2 (l - suc i) (suc i)) ∙ ap (λ (n : ℕ). 2 ^ n) (back l (suc i) k) ∙ sym (one-mul (2 ^ l)))

-- with the fraction's two parts times k
round_own : (f : Format) (s : Bool) (m : ℕ) (e : ℤ) (k : ℕ) → 0 < k → T (fits f (fin s m e))
    → HasValue (round f s (m * up e * k) (down e * k)) s (m * up e * k) (down e * k)
unfolding fits
round_own f s zero e k K h =
    subst (λ (n : ℕ). HasValue (round f s n (down e * k)) s n (down e * k)) (sym (simp zero-mul)) (round_zero f s (down e * k) (mul-pos (down_pos e) K))
round_own f s (suc m) e k K h =
    let a = eqb (suc m % 2) 1 in
    let b = ltb (suc m) (2 ^ prec f) in
    let c = leb (down e) (2 ^ low f) in
    let d = ltb (suc m * up e) (2 ^ suc (emax f) * down e) in
    let small : suc m < 2 ^ prec f = ltb→lt (suc m) (2 ^ prec f) (and_r a b (and_l (a && b) c (and_l (a && b && c) d h))) in
    let deep : down e ≤ 2 ^ low f = leb→le (down e) (2 ^ low f) (and_r (a && b) c (and_l (a && b && c) d h)) in
    let under : suc m * up e < 2 ^ suc (emax f) * down e = ltb→lt (suc m * up e) (2 ^ suc (emax f) * down e) (and_r (a && b && c) d h) in
    let J = exponent (low f) e deep in
    round_exact f s (suc m * up e * k) (down e * k) (suc m) J.0 (mul-pos (down_pos e) K) small
    (fine (suc m) (up e) (down e) (2 ^ low f) (2 ^ suc (emax f)) (2 ^ J.0) (2 ^ (low f + suc (emax f))) (pow_pos (low f)) J.1 under
    (pow-add 2 (low f) (suc (emax f))))
    (scaled (suc m) (up e) (down e) (2 ^ low f) (2 ^ J.0) k J.1)
  where
    fine : (m u d l x j p : ℕ) → 0 < l → j * d ≡ u * l → m * u < x * d → p ≡ l * x → m * j < p
    fine m u d l x j p L e h q =
        let r : x * d * l ≡ l * x * d = simp (mul_assoc, mul_comm, mul_left_comm) in
        lt_of_mul-lt-mul_right d
        (subst (λ (n : ℕ). n < p * d) (mul_assoc m u l ∙ ap (λ (n : ℕ). m * n) (sym e) ∙ sym (mul_assoc m j d))
        (subst (λ (n : ℕ). m * u * l < n) (r ∙ ap (λ (n : ℕ). n * d) (sym q)) (mul-lt-mul_of_pos_right h L)))

    scaled : (m u d l j k : ℕ) → j * d ≡ u * l → m * u * k * l ≡ m * j * (d * k)
    scaled m u d l j k e =
        let p : m * u * k * l ≡ m * (u * l) * k = simp (mul_assoc, mul_comm) in
        let q : m * (j * d) * k ≡ m * j * (d * k) = simp (mul_assoc, mul_comm, mul_left_comm) in
        p ∙ ap (λ (n : ℕ). m * n * k) (sym e) ∙ q

-- so a value of the format is at most what a larger fraction rounds to
pub own_le : (f : Format) (s : Bool) (m : ℕ) (e : ℤ) (k : ℕ) (t : Bool) (n : ℕ) → 0 < k → T (fits f (fin s m e)) → Le s (m * up e * k) t n
    → T (le (fin s m e) (round f t n (down e * k)))
own_le f s m e k t n K h l =
    let c = down e * k in
    let C : 0 < c = mul-pos (down_pos e) K in
    le_trans (fin s m e) (round f s (m * up e * k) c) (round f t n c)
    (le_of_values (fin s m e) (round f s (m * up e * k) c) s s (m * up e) (down e) (m * up e * k) c (down_pos e) C (refl, refl) (round_own f s m e k K h)
    (le_same s (simp (mul_assoc, mul_comm, mul_left_comm))))
    (round_le f s (m * up e * k) c t n c C C (le-times s (m * up e * k) t n c l))
