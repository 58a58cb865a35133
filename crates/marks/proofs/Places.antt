-- Marked places: what a store of a word does to them, which of them a word tells, and none where all words are 0; and words that are 0.
use Prim.Native.Nat.{ℕ, zero, suc, ◌+◌, ◌*◌, ◌/◌, ◌%◌, ◌^◌, ◌≤◌, ◌<◌}
use native.Mathlib.Nat.{eq-or-lt_of_le, le_of_suc-le-suc, not-suc-le-zero}
use native.Mathlib.Omega.{arith}
use mathlib.Core.Path.{◌≡◌, refl, sym, ap, ap₂, ◌∙◌}
use mathlib.Core.Bool.{Bool, true, false, ◌||◌}
use mathlib.Core.List.{List, [], ◌∷◌}
use mathlib.Core.Logic.{⊎_elim}
use lib.Bits.{bit_or}
use lib.Dec.{eqb, ltb}
use lib.ListN.{length, get_or, set}
use lib.Seq.{get_or-set_same, get_or-set_other}
use borrow.Author.Tests.{eq-eqb, ne_eqb, eqb-true, eqb-false, ltb-true, ltb-false}
use Rattle.std.proofs.lemmas.Nat.{le_or_l, le_or_r}
use Rattle.marks.specs.Marks.{bit_of, is_marked}
use Rattle.marks.proofs.Bits.{bit_shift, bit_none}

or_false : (a : Bool) → a ≡ a || false
or_false true = refl
or_false false = refl

-- two places of one word are told apart by their bits
bits_apart : (i j : ℕ) → i / 64 ≡ j / 64 → eqb (i % 64) (j % 64) ≡ eqb i j
bits_apart i j q = go (eqb i j) refl
  where
    go : (t : Bool) → eqb i j ≡ t → eqb (i % 64) (j % 64) ≡ t
    go true e = eq-eqb (i % 64) (j % 64) (ap (λ (n : ℕ). n % 64) (eqb-true i j e))
    go false e = ne_eqb (i % 64) (j % 64) (λ r. eqb-false i j e (omega (arith, q, r)))

-- a word stored that has one bit more
pub mark_set : (m : List ℕ) (i w : ℕ) → i < 64 * length m → ((j : ℕ) → bit_of w j ≡ bit_of (get_or m (i / 64) 0) j || eqb (i % 64) j) → (j : ℕ)
    → is_marked (set m (i / 64) w) j ≡ is_marked m j || eqb i j
unfolding is_marked
mark_set m i w room bits j = go (eqb (i / 64) (j / 64)) refl
  where
    go : (t : Bool) → eqb (i / 64) (j / 64) ≡ t
        → bit_of (get_or (set m (i / 64) w) (j / 64) 0) (j % 64) ≡ bit_of (get_or m (j / 64) 0) (j % 64) || eqb i j
    go true h =
        let q : i / 64 ≡ j / 64 = eqb-true (i / 64) (j / 64) h in
        ap (λ (k : ℕ). bit_of (get_or (set m (i / 64) w) k 0) (j % 64)) (sym q)
        ∙ ap (λ (x : ℕ). bit_of x (j % 64)) (get_or-set_same m (i / 64) w 0 (omega arith))
        ∙ bits (j % 64)
        ∙ ap₂ (λ (k : ℕ) (t : Bool). bit_of (get_or m k 0) (j % 64) || t) q (bits_apart i j q)
    go false h =
        let apart : eqb i j ≡ false = ne_eqb i j (λ e. eqb-false (i / 64) (j / 64) h (ap (λ (n : ℕ). n / 64) e)) in
        ap (λ (x : ℕ). bit_of x (j % 64)) (get_or-set_other m (i / 64) (j / 64) w 0 (λ e. eqb-false (i / 64) (j / 64) h (sym e)))
        ∙ or_false (bit_of (get_or m (j / 64) 0) (j % 64))
        ∙ ap (λ (t : Bool). bit_of (get_or m (j / 64) 0) (j % 64) || t) (sym apart)

-- the places of a word from one on
pub in_word : (m : List ℕ) (i j : ℕ) → i % 64 + j < 64 → bit_of (get_or m (i / 64) 0 / 2 ^ (i % 64)) j ≡ is_marked m (i + j)
unfolding is_marked
in_word m i j h =
    let p : i / 64 ≡ (i + j) / 64 = omega (arith, h) in
    let q : i % 64 + j ≡ (i + j) % 64 = omega (arith, h) in
    bit_shift (get_or m (i / 64) 0) (i % 64) j ∙ ap₂ (λ (k l : ℕ). bit_of (get_or m k 0) l) p q

-- the places of word k
pub of_word : (m : List ℕ) (k j : ℕ) → j < 64 → bit_of (get_or m k 0) j ≡ is_marked m (64 * k + j)
unfolding is_marked
of_word m k j h =
    let p : k ≡ (64 * k + j) / 64 = omega (arith, h) in
    let q : j ≡ (64 * k + j) % 64 = omega (arith, h) in
    ap₂ (λ (k l : ℕ). bit_of (get_or m k 0) l) p q

-- a place in a word that is 0
pub none_in_word : (m : List ℕ) (j : ℕ) → get_or m (j / 64) 0 ≡ 0 → is_marked m j ≡ false
unfolding is_marked
none_in_word m j empty = ap (λ (x : ℕ). bit_of x (j % 64)) empty ∙ bit_none (j % 64)

past : (m : List ℕ) (k : ℕ) → length m ≤ k → get_or m k 0 ≡ 0
past [] k h = refl
past (x ∷ m) zero h = absurd (not-suc-le-zero h)
past (x ∷ m) (suc k) h = past m k (le_of_suc-le-suc h)

-- words that are all 0
pub none-marked : (m : List ℕ) → ((k : ℕ) → k < length m → get_or m k 0 ≡ 0) → (j : ℕ) → is_marked m j ≡ false
none-marked m zeros j = none_in_word m j (go (ltb (j / 64) (length m)) refl)
  where
    go : (t : Bool) → ltb (j / 64) (length m) ≡ t → get_or m (j / 64) 0 ≡ 0
    go true h = zeros (j / 64) (ltb-true (j / 64) (length m) h)
    go false h = past m (j / 64) (ltb-false (j / 64) (length m) h)

-- ---- words that are 0, from one on to another
abbrev pub Empty : List ℕ → ℕ → ℕ → Type 0
Empty m first i = (k : ℕ) → first ≤ k → k < i → get_or m k 0 ≡ 0

-- one more
empty-more : (m : List ℕ) (first i j : ℕ) → i ≡ j → Empty m first i → get_or m j 0 ≡ 0 → Empty m first (j + 1)
empty-more m first i j s h e k p q =
    ⊎_elim
    (λ (z : k ≡ j). ap (λ (n : ℕ). get_or m n 0) z ∙ e)
    (λ (l : k < j). h k p (omega (arith, l, s)))
    (eq-or-lt_of_le (omega (arith, q)))

-- four more, where the four joined are 0
pub empty_four : (m : List ℕ) (first i : ℕ) → Empty m first i
    → bit_or (bit_or (bit_or (get_or m i 0) (get_or m (i + 1) 0)) (get_or m (i + 2) 0)) (get_or m (i + 3) 0) ≡ 0 → Empty m first (i + 4)
empty_four m first i h e =
    let one = get_or m i 0 in
    let two = get_or m (i + 1) 0 in
    let three = get_or m (i + 2) 0 in
    let four = get_or m (i + 3) 0 in
    let x = bit_or one two in
    let y = bit_or x three in
    let d : four ≡ 0 = omega (arith, le_or_r y four, e) in
    let c : three ≡ 0 = omega (arith, le_or_l y four, le_or_r x three, e) in
    let b : two ≡ 0 = omega (arith, le_or_l y four, le_or_l x three, le_or_r one two, e) in
    let a : one ≡ 0 = omega (arith, le_or_l y four, le_or_l x three, le_or_l one two, e) in
    λ k p q.
    empty-more m first (i + 2 + 1) (i + 3) (omega arith)
    (empty-more m first (i + 1 + 1) (i + 2) (omega arith)
    (empty-more m first (i + 1) (i + 1) refl (empty-more m first i i refl h a) b) c) d k p (omega (arith, q))
