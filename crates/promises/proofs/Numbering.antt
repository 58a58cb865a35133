-- A set by its number: the powers of two of its pairs add up to it. By induction on how many pairs there are.
use Prim.Native.Nat.{ℕ, zero, suc, ◌+◌, ◌*◌, ◌/◌, ◌%◌, ◌^◌, ◌<◌}
use native.Mathlib.Nat.{pow-suc}
use native.Mathlib.Omega.{arith}
use mathlib.Core.Path.{◌≡◌, refl, ap, ap₂, ◌∙◌}
use mathlib.Core.Bool.{Bool, true, false, cond}
use mathlib.Core.List.{List, ◌∷◌}
use lib.Dec.{eqb}
use lib.ListN.{length}
use Rattle.words.specs.Words.{only, sum_of, table_from, from}
use Rattle.words.proofs.Elements.{table-later}
use Rattle.words.proofs.Tables.{length-table, table_same}
use Rattle.marks.specs.Marks.{bit_of}
use Rattle.marks.proofs.Bits.{bit_lowest, bit_higher}
use Rattle.parts.specs.Parts.{holds, numbers_of}
use Rattle.leave_out.specs.LeaveOut.{set_of}

power : ℕ → ℕ
power i = 2 ^ i

-- one on, each power is twice what it was
twice : (t : ℕ → Bool) (k n : ℕ) → sum_of power (only t (from (suc k) n)) ≡ 2 * sum_of power (only (λ i. t (suc i)) (from k n))
unfolding power only sum_of table_from
twice t k zero = refl
twice t k (suc n) = go (t (suc k)) (twice t (suc k) n)
  where
    go : (b : Bool) → sum_of power (only t (from (suc (suc k)) n)) ≡ 2 * sum_of power (only (λ i. t (suc i)) (from (suc k) n))
        → sum_of power (cond b (suc k ∷ only t (from (suc (suc k)) n)) (only t (from (suc (suc k)) n)))
        ≡ 2 * sum_of power (cond b (k ∷ only (λ i. t (suc i)) (from (suc k) n)) (only (λ i. t (suc i)) (from (suc k) n)))
    go true h = let p = pow-suc 2 k in omega (arith, h, p)
    go false h = h

sum-cons : (b : Bool) (s : List Bool) → sum_of power (numbers_of (b ∷ s)) ≡ cond b 1 0 + 2 * sum_of power (numbers_of s)
unfolding power numbers_of only sum_of table_from
sum-cons b s = go b (twice (holds (b ∷ s)) 0 (length s))
  where
    go : (c : Bool) → sum_of power (only (holds (b ∷ s)) (from 1 (length s))) ≡ 2 * sum_of power (only (holds s) (from 0 (length s)))
        → sum_of power (cond c (0 ∷ only (holds (b ∷ s)) (from 1 (length s))) (only (holds (b ∷ s)) (from 1 (length s))))
        ≡ cond c 1 0 + 2 * sum_of power (only (holds s) (from 0 (length s)))
    go true h = omega (arith, h)
    go false h = omega (arith, h)

set-next : (n m : ℕ) → set_of (suc n) m ≡ eqb (m % 2) 1 ∷ set_of n (m / 2)
unfolding set_of table_from
set-next n m =
    ap₂ (λ (b : Bool) (s : List Bool). b ∷ s) (bit_lowest m)
    (table-later 1 0 n (bit_of m) ∙ table_same n (λ j. bit_of m (j + 1)) (bit_of (m / 2)) λ j _.
    let q : j + 1 ≡ suc j = omega arith in
    ap (bit_of m) q ∙ bit_higher m j)

none-sum : (m : ℕ) → sum_of power (numbers_of (set_of 0 m)) ≡ 0
unfolding set_of numbers_of only sum_of table_from
none-sum m = refl

set-sum : (n m : ℕ) → m < 2 ^ n → sum_of power (numbers_of (set_of n m)) ≡ m
set-sum zero m h = let z = none-sum m in omega (arith, h, z)
set-sum (suc n) m h =
    let p : 2 ^ suc n ≡ 2 ^ n * 2 = pow-suc 2 n in
    let k = set-sum n (m / 2) (omega (arith, h, p)) in
    let c = sum-cons (eqb (m % 2) 1) (set_of n (m / 2)) in
    ap (λ (s : List Bool). sum_of power (numbers_of s)) (set-next n m) ∙ c ∙ go (m % 2) refl k
  where
    go : (r : ℕ) → m % 2 ≡ r → sum_of power (numbers_of (set_of n (m / 2))) ≡ m / 2
        → cond (eqb r 1) 1 0 + 2 * sum_of power (numbers_of (set_of n (m / 2))) ≡ m
    go zero e k = omega (arith, e, k)
    go (suc zero) e k = omega (arith, e, k)
    go (suc (suc r)) e k = let no : ⊥ = omega (arith, e) in absurd no

-- it is of n pairs, and its numbers are the bits of its own
pub set-numbered : (n m : ℕ) → m < 2 ^ n → (length (set_of n m) ≡ n) × (sum_of (λ i. 2 ^ i) (numbers_of (set_of n m)) ≡ m)
unfolding power set_of
set-numbered n m h = (length-table 0 n (bit_of m), set-sum n m h)
