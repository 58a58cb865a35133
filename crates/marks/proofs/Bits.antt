-- Bits of a word: of two words joined, of a power of two, of a word shifted, and those under the lowest that is set.
use Prim.Native.Nat.{ℕ, zero, suc, ◌+◌, ◌/◌, ◌%◌, ◌^◌, ◌<◌, max}
use native.Mathlib.Nat.{div-one, div-eq_of_lt, zero-div, div-div-eq-div-mul, pow-succ', pow-suc, mul-div_cancel_left, le_of_suc-le-suc, not-suc-le-zero}
use native.Mathlib.Omega.{arith}
use mathlib.Core.Path.{◌≡◌, refl, sym, ap, ◌∙◌}
use mathlib.Core.Bool.{true, false, ◌||◌}
use lib.Dec.{eqb, eqb-zero-suc, eqb-suc-zero, eqb-suc-suc}
use lib.Bits.{bit_or, or_shr, or_step}
use lib.Pow.{shr-shr, pow_pos}
use lib.Count.{count_trailing_zeros, under}
use borrow.Author.Tests.{eq-eqb}
use Rattle.marks.specs.Marks.{bit_of}

-- ---- the lowest bit, and the others
pub bit_lowest : (x : ℕ) → bit_of x 0 ≡ eqb (x % 2) 1
unfolding bit_of
bit_lowest x = ap (λ (n : ℕ). eqb (n % 2) 1) (div-one x)

pub bit_higher : (x j : ℕ) → bit_of x (suc j) ≡ bit_of (x / 2) j
unfolding bit_of
bit_higher x j = ap (λ (n : ℕ). eqb (n % 2) 1) (ap (λ (d : ℕ). x / d) (pow-succ' 2 j) ∙ sym (div-div-eq-div-mul x 2 (2 ^ j)))

pub bit_none : (j : ℕ) → bit_of 0 j ≡ false
unfolding bit_of
bit_none j = ap (λ (n : ℕ). eqb (n % 2) 1) (zero-div (2 ^ j))

pub bit_shift : (x a j : ℕ) → bit_of (x / 2 ^ a) j ≡ bit_of x (a + j)
unfolding bit_of
bit_shift x a j = ap (λ (n : ℕ). eqb (n % 2) 1) (shr-shr x a j)

-- ---- two words joined
low_bit : (a b : ℕ) → bit_or a b % 2 ≡ max (a % 2) (b % 2)
low_bit a b = let h = or_step a b in omega (arith, h)

max-bit : (p q : ℕ) → p < 2 → q < 2 → eqb (max p q) 1 ≡ eqb p 1 || eqb q 1
max-bit zero q h k = let z : max 0 q ≡ q = omega arith in ap (λ (n : ℕ). eqb n 1) z
max-bit (suc zero) q h k = eq-eqb (max 1 q) 1 (omega (arith, k))
max-bit (suc (suc p)) q h k = absurd (omega (arith, h))

pub bit_or_lem : (a b j : ℕ) → bit_of (bit_or a b) j ≡ bit_of a j || bit_of b j
unfolding bit_of
bit_or_lem a b j =
    let x = a / 2 ^ j in
    let y = b / 2 ^ j in
    ap (λ (n : ℕ). eqb (n % 2) 1) (or_shr a b j) ∙ ap (λ (n : ℕ). eqb n 1) (low_bit x y) ∙ max-bit (x % 2) (y % 2) (omega arith) (omega arith)

-- ---- a power of two
one-above : (j : ℕ) → 1 < 2 ^ suc j
one-above j = omega (arith, pow-suc 2 j, pow_pos j)

half_pow : (i : ℕ) → 2 ^ suc i / 2 ≡ 2 ^ i
half_pow i = ap (λ (n : ℕ). n / 2) (pow-succ' 2 i) ∙ mul-div_cancel_left (2 ^ i) (omega arith)

pub bit_pow : (i j : ℕ) → bit_of (2 ^ i) j ≡ eqb i j
unfolding bit_of
bit_pow zero zero = refl
bit_pow zero (suc j) = ap (λ (n : ℕ). eqb (n % 2) 1) (div-eq_of_lt (one-above j)) ∙ sym (eqb-zero-suc j)
bit_pow (suc i) zero =
    let e : 2 ^ suc i % 2 ≡ 0 = omega (arith, pow-succ' 2 i) in
    bit_lowest (2 ^ suc i) ∙ ap (λ (n : ℕ). eqb n 1) e ∙ sym (eqb-suc-zero i)
bit_pow (suc i) (suc j) = bit_higher (2 ^ suc i) j ∙ ap (λ (n : ℕ). bit_of n j) (half_pow i) ∙ bit_pow i j ∙ sym (eqb-suc-suc i j)

-- ---- under the lowest bit that is set
pub low-none : (k x j : ℕ) → j < count_trailing_zeros k x → bit_of x j ≡ false
unfolding count_trailing_zeros
low-none zero x j h = absurd (not-suc-le-zero h)
low-none (suc k) x j h = go (x % 2) refl j h (low-none k (x / 2))
  where
    go : (d : ℕ) → x % 2 ≡ d → (j : ℕ) → j < under d (count_trailing_zeros k (x / 2)) → ((i : ℕ) → i < count_trailing_zeros k (x / 2) → bit_of (x / 2) i ≡ false)
        → bit_of x j ≡ false
    go zero e zero l rest = bit_lowest x ∙ ap (λ (n : ℕ). eqb n 1) e
    go zero e (suc j) l rest = bit_higher x j ∙ rest j (le_of_suc-le-suc l)
    go (suc d) e j l rest = absurd (not-suc-le-zero l)

pub low-here : (k x : ℕ) → count_trailing_zeros k x < k → bit_of x (count_trailing_zeros k x) ≡ true
unfolding count_trailing_zeros
low-here zero x h = absurd (not-suc-le-zero h)
low-here (suc k) x h = go (x % 2) refl h (low-here k (x / 2))
  where
    go : (d : ℕ) → x % 2 ≡ d → under d (count_trailing_zeros k (x / 2)) < suc k
        → (count_trailing_zeros k (x / 2) < k → bit_of (x / 2) (count_trailing_zeros k (x / 2)) ≡ true) → bit_of x (under d (count_trailing_zeros k (x / 2))) ≡ true
    go zero e l rest = bit_higher x (count_trailing_zeros k (x / 2)) ∙ rest (le_of_suc-le-suc l)
    go (suc zero) e l rest = bit_lowest x ∙ ap (λ (n : ℕ). eqb n 1) e
    go (suc (suc d)) e l rest = absurd (bad e)
      where
        bad : x % 2 ≡ suc (suc d) → ⊥
        bad e = omega (arith, e)
