-- A product of two floats that are not below zero is not below zero, unless it is a NaN; so a volume times a quantity. `round` keeps the order.
use Rattle.std.proofs.Common.{◌≡◌, ℕ, zero, suc, ◌*◌, ◌%◌, ◌^◌, ◌<◌, ◌≤◌, Bool, true, false, cond, not, ◌&&◌, T, eqb, ltb, leb, ◌⊎◌, ℤ, sym, refl, ap, ◌∙◌, subst, inl, inr, true≢false, zero-le, le_of_eq, le_of_lt, mul-le-mul_right, mul-le-mul, mul-pos, mul-zero, zero-mul, mul-one, arith, lit≤, ltb→lt, pow_pos}
use native.Mathlib.Nat as Nat
use native.Mathlib.Nat.{mul-mul-mul_comm}
use lib.Ieee.{Float, nan, inf, fin, Format, binary32, binary64, up, down, le, mul, round, of_int, fits, is_nan, unlike}
use lib.Ieee.Back.{round_whole}
use lib.Ieee.Exact.{HasValue}
use lib.Ieee.Fits.{and_r, down_pos, eq→eqb}
use lib.Ieee.Order.{round_mono}
use lib.Ieee.Scale.{finite}
use Rattle.floats.specs.Floats.{zero_f, of_nat, is_volume}
use Rattle.floats.proofs.Order.{Le, le_trans}
use Rattle.floats.proofs.Rounding.{le_of_values, round_le, round_zero, round_not_nan}
use Rattle.floats.proofs.Sums.{plus_or_zero, volume-le}

-- ---- what `round` makes of a fraction that is not below zero
pub zero-le_round : (f : Format) (s : Bool) (a c : ℕ) → 0 < c → (s ≡ false) ⊎ (a ≡ 0) → T (le zero_f (round f s a c))
zero-le_round f s a c C w =
    le_trans zero_f (round f false 0 1) (round f s a c)
    (le_of_values zero_f (round f false 0 1) false false 0 1 0 1 (pow_pos 0) (pow_pos 0) (refl, refl) (round_zero f false 1 (pow_pos 0)) zero-le)
    (round_le f false 0 1 s a c (pow_pos 0) C (no_less s w))
  where
    no_less : (s : Bool) → (s ≡ false) ⊎ (a ≡ 0) → Le false (0 * c) s (a * 1)
    no_less false w = omega (arith, zero-mul c)
    no_less true (inl e) = absurd (true≢false e)
    no_less true (inr e) = omega (arith, zero-mul c)

-- ---- a product
inf-plus : (b r : Bool) → (r ≡ false) ⊎ T b → T (not (is_nan (cond b nan (inf r)))) → T (le zero_f (cond b nan (inf r)))
unfolding le is_nan
inf-plus true r w k = absurd k
inf-plus false false w k = tt
inf-plus false true (inl e) k = absurd (true≢false e)
inf-plus false true (inr h) k = absurd h

sign-l : (t : Bool) (n : ℕ) → (t ≡ false) ⊎ (n ≡ 0) → (unlike false t ≡ false) ⊎ T (eqb n 0)
sign-l t n (inl e) = inl (ap (unlike false) e)
sign-l t n (inr e) = inr (eq→eqb e)

sign-r : (s : Bool) (m : ℕ) → (s ≡ false) ⊎ (m ≡ 0) → (unlike s false ≡ false) ⊎ T (eqb m 0)
sign-r s m (inl e) = inl (ap (λ (r : Bool). unlike r false) e)
sign-r s m (inr e) = inr (eq→eqb e)

sign-both : (s t : Bool) (m n u v : ℕ) → (s ≡ false) ⊎ (m ≡ 0) → (t ≡ false) ⊎ (n ≡ 0) → (unlike s t ≡ false) ⊎ (m * u * (n * v) ≡ 0)
sign-both s t m n u v (inl p) (inl q) = inl (ap (λ (r : Bool). unlike r t) p ∙ ap (unlike false) q)
sign-both s t m n u v (inl p) (inr q) = inr (ap (λ (k : ℕ). m * u * (k * v)) q ∙ simp (zero-mul, mul-zero))
sign-both s t m n u v (inr p) w = inr (ap (λ (k : ℕ). k * u * (n * v)) p ∙ simp zero-mul)

-- 0 * infinity is a NaN
pub mul-plus : (f : Format) (x y : Float) → T (le zero_f x) → T (le zero_f y) → T (not (is_nan (mul f x y))) → T (le zero_f (mul f x y))
unfolding mul is_nan le
mul-plus f nan y p q k = absurd p
mul-plus f (inf true) y p q k = absurd p
mul-plus f (inf false) nan p q k = absurd q
mul-plus f (inf false) (inf true) p q k = absurd q
mul-plus f (inf false) (inf false) p q k = tt
mul-plus f (inf false) (fin t n d) p q k = inf-plus (eqb n 0) (unlike false t) (sign-l t n (plus_or_zero t n d q)) k
mul-plus f (fin s m e) nan p q k = absurd q
mul-plus f (fin s m e) (inf true) p q k = absurd q
mul-plus f (fin s m e) (inf false) p q k = inf-plus (eqb m 0) (unlike s false) (sign-r s m (plus_or_zero s m e p)) k
mul-plus f (fin s m e) (fin t n d) p q k =
    zero-le_round f (unlike s t) (m * up e * (n * up d)) (down e * down d) (mul-pos (down_pos e) (down_pos d))
    (sign-both s t m n (up e) (up d) (plus_or_zero s m e p) (plus_or_zero t n d q))

-- ---- volumes: finite and not below zero
pub volume-of : (x : Float) → T (finite x) → T (le zero_f x) → T (is_volume x)
unfolding is_volume
volume-of nan h p = absurd h
volume-of (inf s) h p = absurd h
volume-of (fin s m e) h p = p

-- none is 0, which is one
pub volume-zero : T (is_volume zero_f)
unfolding is_volume le
volume-zero = tt

finite_not_nan : (f : Format) (x y : Float) → T (is_volume x) → T (is_volume y) → T (not (is_nan (mul f x y)))
unfolding is_volume mul
finite_not_nan f nan y p q = absurd p
finite_not_nan f (inf s) y p q = absurd p
finite_not_nan f (fin s m e) nan p q = absurd q
finite_not_nan f (fin s m e) (inf t) p q = absurd q
finite_not_nan f (fin s m e) (fin t n d) p q = round_not_nan f (unlike s t) (m * up e * (n * up d)) (down e * down d)

pub mul-volumes : (f : Format) (x y : Float) → T (is_volume x) → T (is_volume y) → T (le zero_f (mul f x y))
mul-volumes f x y p q = mul-plus f x y (volume-le x p) (volume-le y q) (finite_not_nan f x y p q)

-- ---- quantities
value-finite : (x : Float) (s : Bool) (a c : ℕ) → HasValue x s a c → T (finite x)
value-finite nan s a c h = absurd h
value-finite (inf t) s a c h = absurd h
value-finite (fin t m e) s a c h = tt

whole : (q : ℕ) → q ≤ 2 ^ 53 → HasValue (of_nat q) false q 1
unfolding of_int
whole q h = round_whole binary64 false q h

pub of_nat-volume : (q : ℕ) → q ≤ 2 ^ 53 → T (is_volume (of_nat q))
unfolding of_int
of_nat-volume q h = volume-of (of_nat q) (value-finite (of_nat q) false q 1 (whole q h)) (zero-le_round binary64 false q 1 (pow_pos 0) (inl refl))

-- a larger whole number gives a float that is no lower
pub of_nat-mono : (n m : ℕ) → n ≤ m → T (le (of_nat n) (of_nat m))
unfolding of_int
of_nat-mono n m h = round_mono binary64 n 1 m 1 (pow_pos 0) (pow_pos 0) (omega arith)

-- ---- a volume times a quantity
quantity : (q : ℕ) → q < 2 ^ 32 → q ≤ 2 ^ 53
quantity q h = Nat.le_trans (le_of_lt h) (lit≤ tt)

pub term_plus : (v : Float) (q : ℕ) → T (is_volume v) → q < 2 ^ 32 → T (le zero_f (mul binary64 v (of_nat q)))
term_plus v q p l = mul-volumes binary64 v (of_nat q) p (of_nat-volume q (quantity q l))

-- ---- and of an f32's volume, which lies below 2 ^ 128, the product is finite too
f32_size : (s : Bool) (m : ℕ) (e : ℤ) → T (fits binary32 (fin s m e)) → m * up e ≤ 2 ^ 128 * down e
unfolding fits
f32_size s zero e h = subst (λ (n : ℕ). n ≤ 2 ^ 128 * down e) (sym (zero-mul (up e))) zero-le
f32_size s (suc m) e h =
    le_of_lt (ltb→lt (suc m * up e) (2 ^ 128 * down e)
    (and_r (eqb (suc m % 2) 1 && ltb (suc m) (2 ^ 24) && leb (down e) (2 ^ 149)) (ltb (suc m * up e) (2 ^ 128 * down e)) h))

product_size : (x y a b c d : ℕ) → x ≤ a * c → y ≤ b * d → x * y * 1 ≤ a * b * (c * d)
product_size x y a b c d h k = Nat.le_trans (le_of_eq (mul-one (x * y))) (Nat.le_trans (mul-le-mul h k) (le_of_eq (mul-mul-mul_comm a c b d)))

ceiling : Float
ceiling = round binary64 false (2 ^ 128 * 2 ^ 32) 1

ceiling_finite : T (finite ceiling)
unfolding ceiling round
ceiling_finite = tt

under-ceiling : (s : Bool) (m : ℕ) (e : ℤ) (y : Float) (q : ℕ) → T (fits binary32 (fin s m e)) → q < 2 ^ 32 → HasValue y false q 1
    → T (le (mul binary64 (fin s m e) y) ceiling)
unfolding mul ceiling
under-ceiling s m e nan q h l w = absurd w
under-ceiling s m e (inf t) q h l w = absurd w
under-ceiling s m e (fin true n d) q h l w = absurd (true≢false w.0)
under-ceiling s m e (fin false n d) q h l w =
    let y = n * up d in
    let small : y ≤ 2 ^ 32 * down d = Nat.le_trans (le_of_eq (sym (mul-one y) ∙ w.1)) (mul-le-mul_right (down d) (le_of_lt l)) in
    round_le binary64 (unlike s false) (m * up e * y) (down e * down d) false (2 ^ 128 * 2 ^ 32) 1 (mul-pos (down_pos e) (down_pos d)) (pow_pos 0)
    (either s (product_size (m * up e) y (2 ^ 128) (2 ^ 32) (down e) (down d) (f32_size s m e h) small))
  where
    either : (s : Bool) {a b : ℕ} → a ≤ b → Le (unlike s false) a false b
    either false g = g
    either true g = zero-le

between : (z w : Float) → T (finite w) → T (le zero_f z) → T (le z w) → T (finite z)
unfolding le
between nan w f p h = absurd p
between (inf true) w f p h = absurd p
between (inf false) nan f p h = absurd f
between (inf false) (inf t) f p h = absurd f
between (inf false) (fin t n d) f p h = absurd h
between (fin s m e) w f p h = tt

pub term_volume : (v : Float) (q : ℕ) → T (fits binary32 v) → T (is_volume v) → q < 2 ^ 32 → T (is_volume (mul binary64 v (of_nat q)))
unfolding is_volume
term_volume nan q h p l = absurd p
term_volume (inf s) q h p l = absurd p
term_volume (fin s m e) q h p l =
    let z = mul binary64 (fin s m e) (of_nat q) in
    let plus : T (le zero_f z) = term_plus (fin s m e) q p l in
    volume-of z (between z ceiling ceiling_finite plus (under-ceiling s m e (of_nat q) q h l (whole q (quantity q l)))) plus
