-- Sets by their numbers as bits: the pairs that one leaves, and how many it has.
use Prim.Native.Nat.{ℕ, zero, suc, ◌+◌, ◌-◌, ◌*◌, ◌/◌, ◌%◌, ◌^◌, ◌≤◌, ◌<◌}
use native.Mathlib.Nat.{pow-suc, div-eq_of_lt, not-suc-le-zero, le_of_suc-le-suc}
use native.Mathlib.Omega.{arith}
use mathlib.Core.Path.{◌≡◌, refl, sym, ap, ◌∙◌}
use mathlib.Core.Bool.{Bool, true, false, not}
use mathlib.Core.List.{List, [], ◌∷◌, map}
use lib.Count.{ones}
use lib.Dec.{eqb, ltb}
use lib.ListN.{get_or}
use lib.Pow.{pow_mono}
use borrow.Author.Tests.{ltb-true, ltb-false}
use Rattle.words.specs.Words.{from}
use Rattle.words.proofs.Tables.{table_same, map-table}
use Rattle.marks.specs.Marks.{bit_of, is_marked}
use Rattle.marks.proofs.Bits.{bit_lowest, bit_higher}
use Rattle.marks.proofs.Places.{of_word, none_in_word}
use Rattle.parts.specs.Parts.{size}
use Rattle.cause.proofs.Choosing.{size-map}
use Rattle.leave_out.specs.LeaveOut.{set_of}
use Rattle.leave_out.specs.Bits.{Unmarked, marked_of}
use Rattle.leave_out.proofs.Sharing.{ones-counted}

-- ---- the other bits of a number
other-bit : (p q : ℕ) → p < 2 → q ≡ 1 - p → eqb q 1 ≡ not (eqb p 1)
other-bit zero q h e = ap (λ (k : ℕ). eqb k 1) e
other-bit (suc zero) q h e = ap (λ (k : ℕ). eqb k 1) e
other-bit (suc (suc p)) q h e = absurd (omega (arith, h))

turned : (n m j : ℕ) → m < 2 ^ n → j < n → bit_of (2 ^ n - 1 - m) j ≡ not (bit_of m j)
turned zero m j h k = absurd (not-suc-le-zero k)
turned (suc n) m zero h k =
    let twice : 2 ^ suc n ≡ 2 ^ n * 2 = pow-suc 2 n in
    let x = 2 ^ suc n - 1 - m in
    let other : x % 2 ≡ 1 - m % 2 = omega (arith, twice, h) in
    bit_lowest x ∙ other-bit (m % 2) (x % 2) (omega arith) other ∙ ap not (sym (bit_lowest m))
turned (suc n) m (suc j) h k =
    let twice : 2 ^ suc n ≡ 2 ^ n * 2 = pow-suc 2 n in
    let half : (2 ^ suc n - 1 - m) / 2 ≡ 2 ^ n - 1 - m / 2 = omega (arith, twice, h) in
    let small : m / 2 < 2 ^ n = omega (arith, twice, h) in
    bit_higher (2 ^ suc n - 1 - m) j ∙ ap (λ (x : ℕ). bit_of x j) half ∙ turned n (m / 2) j small (le_of_suc-le-suc k)
    ∙ ap not (sym (bit_higher m j))

bit_past : (n x j : ℕ) → x < 2 ^ n → n ≤ j → bit_of x j ≡ false
unfolding bit_of
bit_past n x j h k = ap (λ (d : ℕ). eqb (d % 2) 1) (div-eq_of_lt (let p : 2 ^ n ≤ 2 ^ j = pow_mono k in omega (arith, h, p)))

-- ---- a number in the first of four words
one_word : (w k : ℕ) → get_or (w ∷ 0 ∷ 0 ∷ 0 ∷ []) (suc k) 0 ≡ 0
one_word w zero = refl
one_word w (suc zero) = refl
one_word w (suc (suc zero)) = refl
one_word w (suc (suc (suc k))) = refl

module _ (n m w : ℕ) (few : n ≤ 16) (small : m < 2 ^ n) (is : w ≡ 2 ^ n - 1 - m) where
  abbrev words : List ℕ
  words = w ∷ 0 ∷ 0 ∷ 0 ∷ []

  first : (j : ℕ) → j < 64 → is_marked words j ≡ bit_of w j
  first j h = let q : j ≡ 64 * 0 + j = omega arith in ap (is_marked words) q ∙ sym (of_word words 0 j h)

  within : (j : ℕ) → j < n → is_marked words j ≡ not (bit_of m j)
  within j h = first j (omega (arith, h, few)) ∙ ap (λ (x : ℕ). bit_of x j) is ∙ turned n m j small h

  pub left-flags : marked_of n words ≡ map not (set_of n m)
  unfolding set_of
  left-flags = table_same n (is_marked words) (λ j. not (bit_of m j)) within ∙ sym (map-table not n (bit_of m))

  pub left-none : Unmarked n words
  left-none j h = go (ltb j 64) refl
    where
      go : (b : Bool) → ltb j 64 ≡ b → is_marked words j ≡ false
      go true e = first j (ltb-true j 64 e) ∙ bit_past n w j (omega (arith, is, small)) h
      go false e =
          let q : j / 64 ≡ suc (j / 64 - 1) = (let l : 64 ≤ j = ltb-false j 64 e in omega (arith, l)) in
          none_in_word words j (ap (λ (k : ℕ). get_or words k 0) q ∙ one_word w (j / 64 - 1))

pub few-sets : (n : ℕ) → n ≤ 16 → 2 ^ n ≤ 65536
few-sets n h = pow_mono h

-- ---- how many pairs
pub number-size : (n m : ℕ) → m < 2 ^ n → ones m ≡ size (set_of n m)
unfolding set_of
number-size n m h =
    ones-counted n m 0 (bit_of m) h (λ j q. (let e : j ≡ 0 + j = omega arith in ap (bit_of m) e))
    ∙ sym (size-map (bit_of m) (from 0 n)) ∙ ap size (map-table (bit_of m) n (λ j. j))
