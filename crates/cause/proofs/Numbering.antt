-- The numbers of those of the first n whose flags are set, and their bytes: one more at a time.
use Prim.Native.Nat.{ℕ, zero, suc, ◌+◌, ◌*◌, ◌-◌, ◌≤◌, ◌<◌}
use native.Mathlib.Nat.{zero-add}
use native.Mathlib.Omega.{arith}
use mathlib.Core.Path.{◌≡◌, refl, sym, ap, ap₂, ◌∙◌, subst}
use mathlib.Core.Bool.{Bool, true, false, cond}
use mathlib.Core.List.{List, [], ◌∷◌, ◌++◌, append-nil}
use lib.ListN.{length, length-append, get_or, take}
use lib.Seq.{length-take-le}
use Rattle.std.proofs.lemmas.List.{get_or-take}
use Rattle.words.specs.Words.{table_from, table, from, each, only}
use Rattle.words.proofs.Steps.{each_append}
use Rattle.words.proofs.Tables.{only-more}
use Rattle.image.specs.Bytes.{le, put}
use Rattle.image.proofs.Stores.{length-le, put-append}
use Rattle.parts.specs.Parts.{size, holds, numbers_of}
use Rattle.cause.proofs.Choosing.{size-none, size-end}
use Rattle.cause.proofs.Entries.{each-length}

only-same : (t u : ℕ → Bool) (a n : ℕ) → ((j : ℕ) → j < a + n → t j ≡ u j) → only t (from a n) ≡ only u (from a n)
unfolding only table_from
only-same t u a zero h = refl
only-same t u a (suc n) h =
    ap₂ (λ (b : Bool) (l : List ℕ). cond b (a ∷ l) l) (h a (omega arith)) (only-same t u (suc a) n (λ j q. h j (omega (arith, q))))

-- four bytes for one more
pub four-more : (n : ℕ) (b : Bool) → 4 * n + cond b 4 0 ≡ 4 * (n + cond b 1 0)
four-more n true = omega arith
four-more n false = omega arith

module _ (k : List Bool) where
  numbers-first : (i : ℕ) → i ≤ length k → numbers_of (take i k) ≡ only (holds k) (from 0 i)
  unfolding numbers_of
  numbers-first i h =
      ap (λ (n : ℕ). only (holds (take i k)) (from 0 n)) (length-take-le i k h)
      ∙ only-same (holds (take i k)) (holds k) 0 i (λ j q. get_or-take i k j false (omega (arith, q)))

  pub numbers-none : numbers_of (take 0 k) ≡ []
  unfolding numbers_of only table_from
  numbers-none = refl

  pub numbers-end : (i : ℕ) → i < length k → numbers_of (take (i + 1) k) ≡ numbers_of (take i k) ++ cond (get_or k i false) (i ∷ []) []
  numbers-end i h =
      numbers-first (i + 1) (omega (arith, h)) ∙ only-more (λ j. j) (holds k) i
      ∙ ap (λ (l : List ℕ). l ++ cond (get_or k i false) (i ∷ []) []) (sym (numbers-first i (omega (arith, h))))

  -- as many as are set
  pub numbers-size : (i : ℕ) → i ≤ length k → length (numbers_of (take i k)) ≡ size (take i k)
  numbers-size zero h = ap (λ (l : List ℕ). length l) numbers-none ∙ sym size-none
  numbers-size (suc i) h =
      let q : i + 1 ≡ suc i = omega arith in
      subst (λ (m : ℕ). length (numbers_of (take m k)) ≡ size (take m k)) q
      (ap (λ (l : List ℕ). length l) (numbers-end i (omega (arith, h)))
      ∙ length-append (numbers_of (take i k)) (cond (get_or k i false) (i ∷ []) [])
      ∙ ap₂ (λ (a b : ℕ). a + b) (numbers-size i (omega (arith, h))) (last (get_or k i false))
      ∙ sym (size-end k i (omega (arith, h))))
    where
      last : (b : Bool) → length (cond b (i ∷ []) []) ≡ cond b 1 0
      last true = refl
      last false = refl

  pub bytes-size : (i : ℕ) → i ≤ length k → length (each (numbers_of (take i k)) (le 4)) ≡ 4 * size (take i k)
  bytes-size i h = each-length (le 4) 4 (length-le 4) (numbers_of (take i k)) ∙ ap (λ (n : ℕ). 4 * n) (numbers-size i h)

  -- the size grows
  size-up : (i d : ℕ) → i + d ≤ length k → size (take i k) ≤ size (take (i + d) k)
  size-up i zero h = let q : i ≡ i + 0 = omega arith in subst (λ (m : ℕ). size (take i k) ≤ size (take m k)) q (omega arith)
  size-up i (suc d) h =
      let q : (i + d) + 1 ≡ i + suc d = omega arith in
      let a = size-up i d (omega (arith, h)) in
      let b = size-end k (i + d) (omega (arith, h)) in
      subst (λ (m : ℕ). size (take i k) ≤ size (take m k)) q (omega (arith, a, b))

  -- there is room for one more
  pub room-next : (i n : ℕ) → i < n → n ≤ length k → 4 * size (take i k) + cond (get_or k i false) 4 0 ≤ 4 * size (take n k)
  room-next i n h m =
      let q : (i + 1) + (n - (i + 1)) ≡ n = omega (arith, h) in
      let a = size-end k i (omega (arith, h, m)) in
      let b = subst (λ (j : ℕ). size (take (i + 1) k) ≤ size (take j k)) q (size-up (i + 1) (n - (i + 1)) (omega (arith, h, m))) in
      four (get_or k i false) (size (take i k)) (size (take (i + 1) k)) (size (take n k)) a b
    where
      four : (b : Bool) (x y z : ℕ) → y ≡ x + cond b 1 0 → y ≤ z → 4 * x + cond b 4 0 ≤ 4 * z
      four true x y z a b = omega (arith, a, b)
      four false x y z a b = omega (arith, a, b)

  -- one number more is put behind the others, which stand from place b on
  pub put-next : (o out after : List ℕ) (b at i : ℕ) → i < length k → at ≡ b + 4 * size (take i k)
      → out ≡ put o b (each (numbers_of (take i k)) (le 4)) → after ≡ cond (get_or k i false) (put out at (le 4 i)) out
      → after ≡ put o b (each (numbers_of (take (i + 1) k)) (le 4))
  unfolding each
  put-next o out after b at i h a e p =
      let ns = numbers_of (take i k) in
      let bs = each ns (le 4) in
      let len : b + length bs ≡ at = omega (arith, bytes-size i (omega (arith, h)), a) in
      p ∙ ap (λ (l : List ℕ). cond (get_or k i false) (put l at (le 4 i)) l) e
      ∙ go (get_or k i false) bs len
      ∙ ap (put o b) (sym (ap (λ (l : List ℕ). each l (le 4)) (numbers-end i h) ∙ each_append (le 4) ns (cond (get_or k i false) (i ∷ []) [])))
    where
      go : (f : Bool) (bs : List ℕ) → b + length bs ≡ at → cond f (put (put o b bs) at (le 4 i)) (put o b bs) ≡ put o b (bs ++ each (cond f (i ∷ []) []) (le 4))
      go true bs len =
          ap (λ (m : ℕ). put (put o b bs) m (le 4 i)) (sym len)
          ∙ sym (put-append o b bs (le 4 i)) ∙ ap (λ (l : List ℕ). put o b (bs ++ l)) (sym (append-nil (le 4 i)))
      go false bs len = ap (put o b) (sym (append-nil bs))
