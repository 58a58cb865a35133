-- The cast of a float to an integer, for any width: one law, `stops`, which `unsigned` and `signed` read at each width.
use Rattle.std.proofs.Common.{◌≡◌, ℕ, zero, suc, ◌+◌, ◌-◌, ◌*◌, ◌/◌, ◌^◌, ◌<◌, ◌≤◌, min, Bool, true, false, cond, not, T, ℤ, pos, negsuc, neg_ℤ, refl, sym, ap, ◌∙◌, subst, lt_irrefl, mul-pos, one-mul, le-div_iff_mul-le, mul-one, arith, lit≤, lt→ltb, pow_pos, pow_mono, ltb-false, le-ltb, lt-ltb}
use lib.Ieee.{Float, nan, inf, fin, up, down, neg, lt, to_unsigned, to_signed}
use lib.Ieee.Fits.{down_pos}
use Rattle.image.specs.Bytes.{signed32}
use Rattle.floats.specs.Floats.{join}

-- ---- a cast stopped at any top
-- x without its fraction, from 0 to top; 0 for a NaN
abbrev pub stopped : ℕ → Float → ℕ
stopped top nan = 0
stopped top (inf s) = cond s 0 top
stopped top (fin s m e) = cond s 0 (min (m * up e / down e) top)

twice : (a b c : ℕ) → b ≤ c → min (min a c) b ≡ min a b
twice a b c h = omega arith

lower : (a b : ℕ) → a ≤ b → min b a ≡ a
lower a b h = omega arith

none : (a : ℕ) → min 0 a ≡ 0
none a = omega arith

pub stops : (top : ℕ) → top ≤ 2 ^ 64 - 1 → (x : Float) → min (to_unsigned 64 x) top ≡ stopped top x
unfolding to_unsigned
stops top h nan = none top
stops top h (inf true) = none top
stops top h (inf false) = lower top (2 ^ 64 - 1) h
stops top h (fin true m e) = none top
stops top h (fin false m e) = twice (m * up e / down e) top (2 ^ 64 - 1) h

-- ---- to w bits
unsigned_is : (w : ℕ) (x : Float) → stopped (2 ^ w - 1) x ≡ to_unsigned w x
unfolding to_unsigned
unsigned_is w nan = refl
unsigned_is w (inf s) = refl
unsigned_is w (fin s m e) = refl

less_one : (a b : ℕ) → a ≤ b → a - 1 ≤ b - 1
less_one a b h = omega arith

pub unsigned : (w : ℕ) → w ≤ 64 → (x : Float) → min (to_unsigned 64 x) (2 ^ w - 1) ≡ to_unsigned w x
unsigned w h x = stops (2 ^ w - 1) (less_one (2 ^ w) (2 ^ 64) (pow_mono h)) x ∙ unsigned_is w x

-- ---- to h bits and a sign
negated : (k : ℕ) → join k 0 ≡ neg_ℤ (pos k)
negated zero = refl
negated (suc k) = refl

signed_is : (h : ℕ) (x : Float) → join (stopped (2 ^ h) (neg x)) (stopped (2 ^ h - 1) x) ≡ to_signed h x
unfolding to_signed neg
signed_is h nan = refl
signed_is h (inf true) = negated (2 ^ h)
signed_is h (inf false) = refl
signed_is h (fin true m e) = negated (min (m * up e / down e) (2 ^ h))
signed_is h (fin false m e) = refl

in_range : (h : ℕ) → h ≤ 63 → 2 ^ h ≤ 2 ^ 64 - 1
in_range h l = let p : 2 ^ h ≤ 2 ^ 63 = pow_mono l in omega arith

one_less : (a b : ℕ) → a ≤ b → a - 1 ≤ b
one_less a b h = omega arith

pub signed : (h : ℕ) → h ≤ 63 → (x : Float) → join (min (to_unsigned 64 (neg x)) (2 ^ h)) (min (to_unsigned 64 x) (2 ^ h - 1)) ≡ to_signed h x
signed h l x =
    ap (λ (n : ℕ). join n (min (to_unsigned 64 x) (2 ^ h - 1))) (stops (2 ^ h) (in_range h l) (neg x))
    ∙ ap (λ (n : ℕ). join (stopped (2 ^ h) (neg x)) n) (stops (2 ^ h - 1) (one_less (2 ^ h) (2 ^ 64 - 1) (in_range h l)) x)
    ∙ signed_is h x

-- ---- a number that is a cast is also the cast to 64 bits, stopped
pub unsigned_stops : (w : ℕ) → w ≤ 64 → (n : ℕ) (x : Float) → n ≡ to_unsigned w x → (n ≡ to_unsigned w x) × (n ≡ min (to_unsigned 64 x) (2 ^ w - 1))
unsigned_stops w h n x e = (e, e ∙ sym (unsigned w h x))

pub signed_stops : (h : ℕ) → h ≤ 63 → (n : ℤ) (x : Float) → n ≡ to_signed h x
    → (n ≡ to_signed h x) × (n ≡ join (min (to_unsigned 64 (neg x)) (2 ^ h)) (min (to_unsigned 64 x) (2 ^ h - 1)))
signed_stops h l n x e = (e, e ∙ sym (signed h l x))

-- ---- the two sides as their 32 bits
bits_below : (b a : ℕ) → 0 < b → b ≤ 2 ^ 31 → signed32 (2 ^ 32 - b) ≡ join b a
unfolding signed32
bits_below zero a p q = absurd (lt_irrefl 0 p)
bits_below (suc k) a p q = rw (le-ltb (2 ^ 32 - suc k) (2 ^ 31) (omega arith)) (let e : 2 ^ 32 - 1 - (2 ^ 32 - suc k) ≡ k = omega arith in ap negsuc e)

bits_above : (b a : ℕ) → b ≤ 0 → a < 2 ^ 31 → signed32 a ≡ join b a
unfolding signed32
bits_above zero a p q = rw (lt-ltb a (2 ^ 31) q)
bits_above (suc k) a p q = absurd (bad k p)
  where
    bad : (k : ℕ) → suc k ≤ 0 → ⊥
    bad k p = omega arith

module _ (x : Float) (b : ℕ) (e : b ≡ min (to_unsigned 64 (neg x)) (2 ^ 31)) where
  pub i32_below : 0 < b → signed32 (2 ^ 32 - b) ≡ to_signed 31 x
  i32_below p =
      bits_below b (min (to_unsigned 64 x) (2 ^ 31 - 1)) p (omega arith)
      ∙ ap (λ (n : ℕ). join n (min (to_unsigned 64 x) (2 ^ 31 - 1))) e
      ∙ signed 31 (lit≤ tt) x

  pub i32_above : (a : ℕ) → a ≡ min (to_unsigned 64 x) (2 ^ 31 - 1) → b ≤ 0 → signed32 a ≡ to_signed 31 x
  i32_above a g p =
      bits_above b a p (omega arith)
      ∙ ap (λ (n : ℕ). join n a) e
      ∙ ap (λ (n : ℕ). join (min (to_unsigned 64 (neg x)) (2 ^ 31)) n) g
      ∙ signed 31 (lit≤ tt) x

-- ---- the cast to w bits outside its range
clash : {A : Type 0} {b : Bool} → T b → b ≡ false → A
clash t e = absurd (subst T e t)

clash' : {A : Type 0} {b : Bool} → T (not b) → b ≡ true → A
clash' t e = absurd (subst (λ (b : Bool). T (not b)) e t)

first : (a b : ℕ) → 0 < a → 0 < a + b
first a b h = omega arith

second : (a b : ℕ) → 0 < b → 0 < a + b
second a b h = omega arith

pub cast_bottom : (w : ℕ) (x : Float) → lt (fin true 1 (pos 0)) x ≡ false → to_unsigned w x ≡ 0
unfolding lt to_unsigned
cast_bottom w nan e = refl
cast_bottom w (inf true) e = refl
cast_bottom w (inf false) e = clash tt e
cast_bottom w (fin true m d) e = refl
cast_bottom w (fin false m d) e = clash (lt→ltb 0 _ (first (1 * 1 * down d) (m * up d * 1) (mul-pos (mul-pos (pow_pos 0) (pow_pos 0)) (down_pos d)))) e

full : (a c : ℕ) → c ≤ a → min a (c - 1) ≡ c - 1
full a c h = omega arith

pub cast_top : (w : ℕ) (x : Float) → lt (fin true 1 (pos 0)) x ≡ true → lt x (fin false 1 (pos w)) ≡ false → to_unsigned w x ≡ 2 ^ w - 1
unfolding lt to_unsigned
cast_top w nan p q = clash' tt p
cast_top w (inf true) p q = clash' tt p
cast_top w (inf false) p q = refl
cast_top w (fin true m d) p q = clash (lt→ltb 0 _ (second (m * up d * 1) (1 * 2 ^ w * down d) (mul-pos (mul-pos (pow_pos 0) (pow_pos w)) (down_pos d)))) q
cast_top w (fin false m d) p q =
    let h : 1 * 2 ^ w * down d ≤ m * up d * 1 = ltb-false _ _ q in
    let k : 2 ^ w * down d ≤ m * up d = simp (one-mul, mul-one) at h in
    full (m * up d / down d) (2 ^ w) ((le-div_iff_mul-le (down_pos d)).1 k)
