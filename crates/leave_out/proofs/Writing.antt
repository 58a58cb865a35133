-- What the call writes: two numbers, then those of the pairs.
use Prim.Native.Nat.{ℕ, ◌+◌, ◌*◌, ◌≤◌}
use native.Mathlib.Omega.{arith}
use mathlib.Core.Path.{◌≡◌, sym, ap, ap₂, ◌∙◌}
use mathlib.Core.Bool.{Bool}
use mathlib.Core.List.{List, ◌++◌}
use lib.ListN.{length, length-append, take}
use Rattle.words.specs.Words.{each}
use Rattle.image.specs.Bytes.{le, put}
use Rattle.image.proofs.Stores.{length-le, length-put, put-append}
use Rattle.parts.specs.Parts.{size, numbers_of}
use Rattle.cause.proofs.Numbering.{bytes-size}

-- a number written keeps the length
pub put-long : (l out : List ℕ) (at x : ℕ) → l ≡ put out at (le 4 x) → length l ≡ length out
put-long l out at x e = ap length e ∙ length-put out at (le 4 x)

module _ (tries distance : ℕ) (off : List Bool) (n : ℕ) (few : n ≤ length off) where
  abbrev pub numbers : List ℕ
  numbers = each (numbers_of (take n off)) (le 4)

  abbrev pub bytes : List ℕ
  bytes = le 4 tries ++ le 4 distance ++ numbers

  head_size : length (le 4 tries ++ le 4 distance) ≡ 8
  head_size =
      length-append (le 4 tries) (le 4 distance) ∙ ap₂ (λ (a b : ℕ). a + b) (length-le 4 tries) (length-le 4 distance)

  pub written-size : length bytes ≡ 8 + 4 * size (take n off)
  written-size =
      length-append (le 4 tries ++ le 4 distance) numbers ∙ ap₂ (λ (a b : ℕ). a + b) head_size (bytes-size off n few)

  pub put-three : (out : List ℕ) → put (put (put out 0 (le 4 tries)) 4 (le 4 distance)) 8 numbers ≡ put out 0 bytes
  put-three out =
      let four : 0 + length (le 4 tries) ≡ 4 = omega (arith, length-le 4 tries) in
      let eight : 0 + length (le 4 tries ++ le 4 distance) ≡ 8 = omega (arith, head_size) in
      sym (put-append out 0 (le 4 tries ++ le 4 distance) numbers
      ∙ ap (λ (at : ℕ). put (put out 0 (le 4 tries ++ le 4 distance)) at numbers) eight
      ∙ ap (λ (l : List ℕ). put l 8 numbers)
      (put-append out 0 (le 4 tries) (le 4 distance) ∙ ap (λ (at : ℕ). put (put out 0 (le 4 tries)) at (le 4 distance)) four))
