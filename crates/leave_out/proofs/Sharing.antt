-- Bits that words share, counted, and the pairs of a set among those that are counted.
use Prim.Native.Nat.{ℕ, zero, suc, ◌+◌, ◌*◌, ◌/◌, ◌%◌, ◌^◌, ◌≤◌, ◌<◌, min}
use native.Mathlib.Nat.{pow-suc, not-suc-le-zero, le_of_suc-le-suc}
use native.Mathlib.Omega.{arith}
use mathlib.Core.Path.{◌≡◌, refl, sym, ap, ap₂, ◌∙◌}
use mathlib.Core.Bool.{Bool, true, false, ◌&&◌, cond}
use mathlib.Core.List.{List, [], ◌∷◌, ◌++◌}
use lib.Bits.{bit_and, and_step, and_shr, and_le_l}
use lib.Count.{ones, ones_in, ones_step}
use lib.Dec.{eqb}
use lib.ListN.{length, length-append, get_or}
use Rattle.words.specs.Words.{only, count_of, table_from, from}
use Rattle.words.proofs.Steps.{only-append}
use Rattle.marks.specs.Marks.{bit_of, is_marked}
use Rattle.marks.proofs.Bits.{bit_lowest, bit_higher}
use Rattle.marks.proofs.Places.{of_word}
use Rattle.parts.specs.Parts.{chosen, size, holds}
use Rattle.leave_out.specs.Bits.{Unmarked, Bits}

-- ---- two words
low_bit : (a b : ℕ) → bit_and a b % 2 ≡ min (a % 2) (b % 2)
low_bit a b = let h = and_step a b in omega (arith, h)

min-bit : (p q : ℕ) → p < 2 → q < 2 → eqb (min p q) 1 ≡ eqb p 1 && eqb q 1
min-bit zero q h k = let z : min 0 q ≡ 0 = omega arith in ap (λ (n : ℕ). eqb n 1) z
min-bit (suc zero) q h k = let z : min 1 q ≡ q = omega (arith, k) in ap (λ (n : ℕ). eqb n 1) z
min-bit (suc (suc p)) q h k = absurd (omega (arith, h))

bit_and_lem : (a b j : ℕ) → bit_of (bit_and a b) j ≡ bit_of a j && bit_of b j
unfolding bit_of
bit_and_lem a b j =
    let x = a / 2 ^ j in
    let y = b / 2 ^ j in
    ap (λ (n : ℕ). eqb (n % 2) 1) (and_shr a b j) ∙ ap (λ (n : ℕ). eqb n 1) (low_bit x y) ∙ min-bit (x % 2) (y % 2) (omega arith) (omega arith)

-- ---- counts
pub count-first : {A : Type 0} (t : A → Bool) (x : A) (l : List A) → count_of t (x ∷ l) ≡ cond (t x) 1 0 + count_of t l
unfolding count_of only
count-first {A} t x l = go (t x)
  where
    go : (b : Bool) → length (cond b (x ∷ only t l) (only t l)) ≡ cond b 1 0 + length (only t l)
    go true = omega arith
    go false = omega arith

pub count-append : {A : Type 0} (t : A → Bool) (l m : List A) → count_of t (l ++ m) ≡ count_of t l + count_of t m
unfolding count_of
count-append t l m = ap length (only-append t l m) ∙ length-append (only t l) (only t m)

pub count_empty : {A : Type 0} (t : A → Bool) → count_of t [] ≡ 0
unfolding count_of only
count_empty t = refl

digit : (p : ℕ) → p < 2 → p ≡ cond (eqb p 1) 1 0
digit zero h = refl
digit (suc zero) h = refl
digit (suc (suc p)) h = absurd (omega (arith, h))

no_ones : ones 0 ≡ 0
unfolding ones ones_in
no_ones = refl

-- the bits of a number of d digits, counted by a test of places from one on
pub ones-counted : (d x i : ℕ) (t : ℕ → Bool) → x < 2 ^ d → ((j : ℕ) → j < d → bit_of x j ≡ t (i + j)) → ones x ≡ count_of t (from i d)
unfolding table_from
ones-counted zero x i t h b = let z : x ≡ 0 = omega (arith, h) in ap ones z ∙ no_ones ∙ sym (count_empty t)
ones-counted (suc d) x i t h b =
    let half : x / 2 < 2 ^ d = omega (arith, h, pow-suc 2 d) in
    let here : i + 0 ≡ i = omega arith in
    let first : x % 2 ≡ cond (t i) 1 0 =
    digit (x % 2) (omega arith) ∙ ap (λ (c : Bool). cond c 1 0) (sym (bit_lowest x) ∙ b 0 (omega arith) ∙ ap t here) in
    let next : (j : ℕ) → j < d → bit_of (x / 2) j ≡ t (suc i + j) =
    λ j q. sym (bit_higher x j) ∙ b (suc j) (omega (arith, q)) ∙ (let e : i + suc j ≡ suc i + j = omega arith in ap t e) in
    ones_step x ∙ ap₂ (λ (m n : ℕ). m + n) first (ones-counted d (x / 2) (suc i) t half next) ∙ sym (count-first t i (from (suc i) d))

-- 256 places, by 64
pub count-four : (t : ℕ → Bool)
    → count_of t (from 0 64) + count_of t (from 64 64) + count_of t (from 128 64) + count_of t (from 192 64) ≡ count_of t (from 0 256)
count-four t =
    let e : from 0 64 ++ from 64 64 ++ from 128 64 ++ from 192 64 ≡ from 0 256 = unfold table_from in refl in
    let a = count-append t (from 0 64 ++ from 64 64 ++ from 128 64) (from 192 64) in
    let b = count-append t (from 0 64 ++ from 64 64) (from 128 64) in
    let c = count-append t (from 0 64) (from 64 64) in
    sum4 _ _ _ _ _ _ _ c b a ∙ ap (count_of t) e
  where
    sum4 : (p q r s x y z : ℕ) → x ≡ p + q → y ≡ x + r → z ≡ y + s → p + q + r + s ≡ z
    sum4 p q r s x y z e f g = omega (arith, e, f, g)

-- word k of one list and word at + k of another
pub word-shared : (left m : List ℕ) (at k : ℕ) → get_or left k 0 < 2 ^ 64
    → ones (bit_and (get_or left k 0) (get_or m (at + k) 0)) ≡ count_of (λ j. is_marked left j && is_marked m (64 * at + j)) (from (64 * k) 64)
word-shared left m at k small =
    ones-counted 64 (bit_and (get_or left k 0) (get_or m (at + k) 0)) (64 * k) (λ j. is_marked left j && is_marked m (64 * at + j))
    (let l = and_le_l (get_or left k 0) (get_or m (at + k) 0) in omega (arith, l, small))
    (λ j h.
    let e : 64 * (at + k) + j ≡ 64 * at + (64 * k + j) = omega arith in
    bit_and_lem (get_or left k 0) (get_or m (at + k) 0) j
    ∙ ap₂ (λ (a b : Bool). a && b) (of_word left k j h) (of_word m (at + k) j h ∙ ap (is_marked m) e))

-- ---- the pairs of a set
pub holds-past : (s : List Bool) (j : ℕ) → length s ≤ j → holds s j ≡ false
holds-past [] j h = refl
holds-past (b ∷ s) zero h = absurd (not-suc-le-zero h)
holds-past (b ∷ s) (suc j) h = holds-past s j (le_of_suc-le-suc h)

none-counted : (t : ℕ → Bool) (i m : ℕ) → ((j : ℕ) → i ≤ j → t j ≡ false) → count_of t (from i m) ≡ 0
unfolding table_from
none-counted t i zero h = count_empty t
none-counted t i (suc m) h =
    count-first t i (from (suc i) m)
    ∙ ap₂ (λ (b : Bool) (n : ℕ). cond b 1 0 + n) (h i (omega arith)) (none-counted t (suc i) m (λ j q. h j (omega (arith, q))))

-- places that fail behind n need not be counted
count-short : (t : ℕ → Bool) (i n m : ℕ) → n ≤ m → ((j : ℕ) → i + n ≤ j → t j ≡ false) → count_of t (from i m) ≡ count_of t (from i n)
unfolding table_from
count-short t i zero m h f = none-counted t i m (λ j q. f j (omega (arith, q))) ∙ sym (count_empty t)
count-short t i (suc n) zero h f = absurd (not-suc-le-zero h)
count-short t i (suc n) (suc m) h f =
    count-first t i (from (suc i) m)
    ∙ ap (λ (k : ℕ). cond (t i) 1 0 + k) (count-short t (suc i) n m (le_of_suc-le-suc h) (λ j q. f j (omega (arith, q))))
    ∙ sym (count-first t i (from (suc i) n))

size-first : (b : Bool) (l : List Bool) → size (b ∷ l) ≡ cond b 1 0 + size l
unfolding size
size-first b l = count-first (λ c. c) b l

-- those of a set among what a table says of its pairs
chosen-counted : (s : List Bool) (i : ℕ) (f g : ℕ → Bool) → ((k : ℕ) → k < length s → g (i + k) ≡ holds s k)
    → size (chosen s (table_from i (length s) f)) ≡ count_of (λ j. g j && f j) (from i (length s))
unfolding table_from chosen
chosen-counted [] i f g h = unfold size count_of only in refl
chosen-counted (b ∷ s) i f g h =
    let here : i + 0 ≡ i = omega arith in
    let e : g i ≡ b = ap g (sym here) ∙ h 0 (omega arith) in
    let rest = chosen-counted s (suc i) f g
    (λ k q. (let p : suc i + k ≡ i + suc k = omega arith in ap g p) ∙ h (suc k) (omega (arith, q))) in
    go b (f i) (chosen s (table_from (suc i) (length s) f))
    ∙ ap₂ (λ (m n : ℕ). m + n) (ap (λ (c : Bool). cond (c && f i) 1 0) (sym e)) rest
    ∙ sym (count-first (λ j. g j && f j) i (from (suc i) (length s)))
  where
    go : (b c : Bool) (l : List Bool) → size (cond b (c ∷ l) l) ≡ cond (b && c) 1 0 + size l
    go true c l = size-first c l
    go false c l = omega arith

-- of few pairs, one word has them all
pub count-few : (n : ℕ) (left m : List ℕ) (at : ℕ) → n ≤ 64 → Unmarked n left
    → count_of (λ j. is_marked left j && is_marked m (at + j)) (from 0 64) ≡ count_of (λ j. is_marked left j && is_marked m (at + j)) (from 0 256)
count-few n left m at h none =
    sym (count-short (λ j. is_marked left j && is_marked m (at + j)) 0 64 256 (omega arith)
    (λ j q. ap (λ (b : Bool). b && is_marked m (at + j)) (none j (omega (arith, q, h)))))

-- as bits
pub chosen-shared : (s : List Bool) (left m : List ℕ) (at : ℕ) → length s ≤ 256 → Bits s left
    → count_of (λ j. is_marked left j && is_marked m (at + j)) (from 0 256)
    ≡ size (chosen s (table_from 0 (length s) (λ j. is_marked m (at + j))))
chosen-shared s left m at h bits =
    count-short (λ j. is_marked left j && is_marked m (at + j)) 0 (length s) 256 h
    (λ j q. ap (λ (b : Bool). b && is_marked m (at + j)) (bits j ∙ holds-past s j (omega (arith, q))))
    ∙ sym (chosen-counted s 0 (λ j. is_marked m (at + j)) (is_marked left)
    (λ k q. (let e : 0 + k ≡ k = omega arith in ap (is_marked left) e) ∙ bits k))
