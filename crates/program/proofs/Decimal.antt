-- The digits that `itoa` spells, which are std's, are `decimal`, and how long it is.
use Rattle.std.proofs.Common.{ℕ, zero, suc, ◌+◌, ◌/◌, ◌%◌, ◌^◌, ◌<◌, ◌≤◌, ◌≡◌, arith, [], ◌∷◌, ◌++◌, cond, Bool, true, false, length, ap, ◌∙◌}
use Prim.Native.Nat.{zero-le}
use lib.Dec.{ltb}
use lib.ListN.{length-append}
use borrow.Author.Tests.{lt-ltb, le-ltb}
use Rattle.std.specs.Fmt as Fmt
use Rattle.std.proofs.lemmas.Fmt.{decimal_from_appends, length-decimal-le}
use Rattle.program.specs.Text.{decimal_of, decimal}

one-digit : (f n : ℕ) → n < 10 → decimal_of (suc f) n ≡ (48 + n) ∷ []
unfolding decimal_of
one-digit f n h =
    let e : n % 10 ≡ n = omega arith in
    ap (λ (t : Bool). cond t [] (decimal_of f (n / 10)) ++ (48 + n % 10) ∷ []) (lt-ltb n 10 h) ∙ ap (λ (d : ℕ). (48 + d) ∷ []) e

more-digits : (f n : ℕ) → 10 ≤ n → decimal_of (suc f) n ≡ decimal_of f (n / 10) ++ (48 + n % 10) ∷ []
unfolding decimal_of
more-digits f n h = ap (λ (t : Bool). cond t [] (decimal_of f (n / 10)) ++ (48 + n % 10) ∷ []) (le-ltb n 10 h)

pub std-decimal : (n : ℕ) → n < 2 ^ 64 → decimal n ≡ Fmt.decimal n
unfolding decimal
std-decimal n h =
    decimal_from_appends decimal_of (record { one = one-digit; more = more-digits }) 20 n h (length-decimal-le 20 n (omega arith) (omega arith) h)

short_of : (k n : ℕ) → length (decimal_of k n) ≤ k
unfolding decimal_of
short_of zero n = zero-le
short_of (suc k) n = go (ltb n 10) (short_of k (n / 10))
  where
    go : (t : Bool) → length (decimal_of k (n / 10)) ≤ k → length (cond t [] (decimal_of k (n / 10)) ++ (48 + n % 10) ∷ []) ≤ suc k
    go true h = omega arith
    go false h = omega (arith, length-append (decimal_of k (n / 10)) ((48 + n % 10) ∷ []), h)

pub decimal-short : (n : ℕ) → length (decimal n) ≤ 20
unfolding decimal
decimal-short n = short_of 20 n
