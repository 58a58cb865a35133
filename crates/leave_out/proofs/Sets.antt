-- Sets by their numbers: each set of n pairs has one under 2 to the power n, and less one of its pairs a smaller one.
use Prim.Native.Nat.{ℕ, zero, suc, ◌+◌, ◌*◌, ◌-◌, ◌/◌, ◌%◌, ◌^◌, ◌≤◌, ◌<◌}
use native.Mathlib.Nat.{pow-suc, le_of_suc-le-suc, not-suc-le-zero}
use native.Mathlib.Omega.{arith}
use mathlib.Core.Path.{◌≡◌, refl, sym, ap, ap₂, ◌∙◌}
use mathlib.Core.Bool.{Bool, true, false, not, ◌&&◌, cond}
use mathlib.Core.List.{List, [], ◌∷◌}
use lib.Dec.{T, eqb, eqb-zero-suc, eqb-suc-zero, eqb-suc-suc}
use lib.ListN.{length, length-set}
use lib.Pow.{pow_pos}
use lib.Seq.{get_or-set_same, get_or-set_other}
use borrow.Author.Tests.{eqb-true, eqb-false}
use Rattle.words.proofs.Tables.{length-table, get_or-table}
use Rattle.marks.specs.Marks.{bit_of}
use Rattle.marks.proofs.Bits.{bit_lowest, bit_higher}
use Rattle.parts.specs.Parts.{size, holds, less}
use Rattle.parts.proofs.Flags.{size-cons}
use Rattle.leave_out.specs.LeaveOut.{set_of}

-- ---- sets as flags
pub same_flags : (a b : List Bool) → length a ≡ length b → ((i : ℕ) → i < length a → holds a i ≡ holds b i) → a ≡ b
same_flags [] [] l h = refl
same_flags [] (y ∷ b) l h = let no : ⊥ = omega (arith, l) in absurd no
same_flags (x ∷ a) [] l h = let no : ⊥ = omega (arith, l) in absurd no
same_flags (x ∷ a) (y ∷ b) l h =
    ap₂ (λ (z : Bool) (r : List Bool). z ∷ r) (h 0 (omega arith)) (same_flags a b (omega (arith, l)) (λ i k. h (suc i) (omega (arith, k))))

pub size-less : (s : List Bool) (i : ℕ) → T (holds s i) → size s ≡ suc (size (less s i))
size-less [] i h = absurd h
size-less (b ∷ s) zero h = go b h
  where
    go : (b : Bool) → T b → size (b ∷ s) ≡ suc (size (false ∷ s))
    go true k = let p = size-cons true s in let q = size-cons false s in omega (arith, p, q)
    go false k = absurd k
size-less (b ∷ s) (suc i) h =
    let k = size-less s i h in
    let p = size-cons b s in
    let q = size-cons b (less s i) in
    omega (arith, k, p, q)

-- ---- the set of a number
pub set-length : (n m : ℕ) → length (set_of n m) ≡ n
unfolding set_of
set-length n m = length-table 0 n (bit_of m)

pub set-holds : (n m i : ℕ) → i < n → holds (set_of n m) i ≡ bit_of m i
unfolding set_of
set-holds n m i h = get_or-table n (bit_of m) i false h

-- ---- a number less one of its bits
abbrev pub Without : ℕ → ℕ → Type 0
Without i m = (2 ^ i ≤ m) × ((j : ℕ) → bit_of (m - 2 ^ i) j ≡ (bit_of m j && not (eqb i j)))

all_but : (b : Bool) → b ≡ b && not false
all_but true = refl
all_but false = refl

none_but : (b : Bool) → false ≡ b && not true
none_but true = refl
none_but false = refl

without-lowest : (m : ℕ) → bit_of m 0 ≡ true → Without 0 m
without-lowest m h = (omega (arith, odd), bits)
  where
    odd : m % 2 ≡ 1
    odd = eqb-true (m % 2) 1 (sym (bit_lowest m) ∙ h)

    bits : (j : ℕ) → bit_of (m - 2 ^ 0) j ≡ (bit_of m j && not (eqb 0 j))
    bits zero =
        let e : eqb ((m - 1) % 2) 1 ≡ false = let q : (m - 1) % 2 ≡ 0 = omega (arith, odd) in ap (λ (k : ℕ). eqb k 1) q in
        bit_lowest (m - 1) ∙ e ∙ none_but (bit_of m 0)
    bits (suc j) =
        let q : (m - 1) / 2 ≡ m / 2 = omega (arith, odd) in
        bit_higher (m - 1) j ∙ ap (λ (k : ℕ). bit_of k j) q ∙ sym (bit_higher m j) ∙ all_but (bit_of m (suc j))
        ∙ ap (λ (b : Bool). bit_of m (suc j) && not b) (sym (eqb-zero-suc j))

without-higher : (i m : ℕ) → Without i (m / 2) → Without (suc i) m
without-higher i m w = (omega (arith, twice, w.0), bits)
  where
    twice : 2 ^ suc i ≡ 2 ^ i * 2
    twice = pow-suc 2 i

    half : (m - 2 ^ suc i) / 2 ≡ m / 2 - 2 ^ i
    half = omega (arith, twice, w.0)

    low : (m - 2 ^ suc i) % 2 ≡ m % 2
    low = omega (arith, twice, w.0)

    bits : (j : ℕ) → bit_of (m - 2 ^ suc i) j ≡ (bit_of m j && not (eqb (suc i) j))
    bits zero =
        bit_lowest (m - 2 ^ suc i) ∙ ap (λ (k : ℕ). eqb k 1) low ∙ sym (bit_lowest m) ∙ all_but (bit_of m 0)
        ∙ ap (λ (b : Bool). bit_of m 0 && not b) (sym (eqb-suc-zero i))
    bits (suc j) =
        bit_higher (m - 2 ^ suc i) j ∙ ap (λ (k : ℕ). bit_of k j) half ∙ w.1 j
        ∙ ap₂ (λ (a b : Bool). a && not b) (sym (bit_higher m j)) (sym (eqb-suc-suc i j))

pub without-bit : (i m : ℕ) → bit_of m i ≡ true → Without i m
without-bit zero m h = without-lowest m h
without-bit (suc i) m h = without-higher i m (without-bit i (m / 2) (sym (bit_higher m i) ∙ h))

-- so a set less one of its pairs has a smaller number
pub less-number : (n m i : ℕ) → i < n → T (holds (set_of n m) i) → (k : ℕ) × (k < m) × (less (set_of n m) i ≡ set_of n k)
less-number n m i h t =
    let w = without-bit i m (sym (set-holds n m i h) ∙ is_true (holds (set_of n m) i) t) in
    (m - 2 ^ i, let p = pow_pos i in omega (arith, p, w.0), same_flags (less (set_of n m) i) (set_of n (m - 2 ^ i)) lengths (flags w.1))
  where
    is_true : (b : Bool) → T b → b ≡ true
    is_true true k = refl
    is_true false k = absurd k

    lengths : length (less (set_of n m) i) ≡ length (set_of n (m - 2 ^ i))
    lengths = length-set (set_of n m) i false ∙ set-length n m ∙ sym (set-length n (m - 2 ^ i))

    flags : ((j : ℕ) → bit_of (m - 2 ^ i) j ≡ (bit_of m j && not (eqb i j)))
        → (j : ℕ) → j < length (less (set_of n m) i) → holds (less (set_of n m) i) j ≡ holds (set_of n (m - 2 ^ i)) j
    flags w j q = go (eqb i j) refl
      where
        inside : j < n
        inside = let a = length-set (set_of n m) i false in let b = set-length n m in omega (arith, a, b, q)

        go : (b : Bool) → eqb i j ≡ b → holds (less (set_of n m) i) j ≡ holds (set_of n (m - 2 ^ i)) j
        go true e =
            ap (λ (k : ℕ). holds (less (set_of n m) i) k) (sym (eqb-true i j e))
            ∙ get_or-set_same (set_of n m) i false false (let b = set-length n m in omega (arith, b, h))
            ∙ none_but (bit_of m j) ∙ ap (λ (b : Bool). bit_of m j && not b) (sym e) ∙ sym (w j) ∙ sym (set-holds n (m - 2 ^ i) j inside)
        go false e =
            get_or-set_other (set_of n m) i j false false (λ k. eqb-false i j e (sym k))
            ∙ set-holds n m j inside ∙ all_but (bit_of m j) ∙ ap (λ (b : Bool). bit_of m j && not b) (sym e)
            ∙ sym (w j) ∙ sym (set-holds n (m - 2 ^ i) j inside)

-- ---- the number of a set
unfoldable pub number_of : List Bool → ℕ
number_of [] = 0
number_of (b ∷ s) = cond b 1 0 + 2 * number_of s

pub number-small : (s : List Bool) → number_of s < 2 ^ length s
unfolding number_of
number-small [] = omega arith
number-small (b ∷ s) = go b (number-small s)
  where
    go : (b : Bool) → number_of s < 2 ^ length s → cond b 1 0 + 2 * number_of s < 2 ^ suc (length s)
    go true h = let p : 2 ^ suc (length s) ≡ 2 ^ length s * 2 = pow-suc 2 (length s) in omega (arith, h, p)
    go false h = let p : 2 ^ suc (length s) ≡ 2 ^ length s * 2 = pow-suc 2 (length s) in omega (arith, h, p)

number-lowest : (b : Bool) (n : ℕ) → bit_of (cond b 1 0 + 2 * n) 0 ≡ b
number-lowest true n = bit_lowest (1 + 2 * n) ∙ (let q : (1 + 2 * n) % 2 ≡ 1 = omega arith in ap (λ (k : ℕ). eqb k 1) q)
number-lowest false n = bit_lowest (0 + 2 * n) ∙ (let q : (0 + 2 * n) % 2 ≡ 0 = omega arith in ap (λ (k : ℕ). eqb k 1) q)

number-higher : (b : Bool) (n j : ℕ) → bit_of (cond b 1 0 + 2 * n) (suc j) ≡ bit_of n j
number-higher b n j = bit_higher (cond b 1 0 + 2 * n) j ∙ ap (λ (k : ℕ). bit_of k j) (half b)
  where
    half : (b : Bool) → (cond b 1 0 + 2 * n) / 2 ≡ n
    half true = omega arith
    half false = omega arith

number-bits : (s : List Bool) (i : ℕ) → i < length s → bit_of (number_of s) i ≡ holds s i
unfolding number_of
number-bits [] i h = absurd (not-suc-le-zero h)
number-bits (b ∷ s) zero h = number-lowest b (number_of s)
number-bits (b ∷ s) (suc i) h = number-higher b (number_of s) i ∙ number-bits s i (le_of_suc-le-suc h)

-- every set is the set of its number
pub set-number : (s : List Bool) → set_of (length s) (number_of s) ≡ s
set-number s =
    same_flags (set_of (length s) (number_of s)) s (set-length (length s) (number_of s)) λ i h.
    let k : i < length s = (let q = set-length (length s) (number_of s) in omega (arith, q, h)) in
    set-holds (length s) (number_of s) i k ∙ number-bits s i k
