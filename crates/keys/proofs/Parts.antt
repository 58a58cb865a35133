-- Keys in a part of a slice, which are those of the whole from that place on; and where a key can stand.
use Rattle.std.proofs.Common.{◌≡◌, ℕ, ◌+◌, ◌*◌, ◌/◌, ◌<◌, ◌≤◌, Bool, List, length, take, drop, ℤ, sym, ap, ◌∙◌, subst, ap₂, arith}
use Rattle.std.specs.Prelude.{Some}
use Rattle.words.specs.Words.{table, in_order, same}
use Rattle.words.proofs.Tables.{table_same, find-below}
use Rattle.image.specs.Bytes.{i32_at}
use Rattle.image.proofs.Parts.{part_length, part-i32}
use Rattle.keys.specs.Keys.{key_at, Sorted, place_of}

module _ (b : List ℕ) (at n : ℕ) where
  pub part-key : (i : ℕ) → i < n → key_at (take (4 * n) (drop at b)) i ≡ i32_at b (at + 4 * i)
  part-key i h = part-i32 b at (4 * n) (4 * i) (omega arith)

  pub part-keys : table n (key_at (take (4 * n) (drop at b))) ≡ table n (λ i. i32_at b (at + 4 * i))
  part-keys = table_same n _ _ part-key

  -- an order of the keys of a part, which are as many as it has room for
  pub part-order : (r : ℤ → ℤ → Bool) {l : List ℕ} → at + 4 * n ≤ length b → l ≡ take (4 * n) (drop at b)
      → in_order r (table (length l / 4) (key_at l)) ≡ in_order r (table n (λ i. i32_at b (at + 4 * i)))
  part-order r {l} h e =
      let many : length l / 4 ≡ n = omega (arith, ap length e, part_length b at (4 * n) h) in
      ap (λ (k : ℕ). in_order r (table k (key_at l))) many ∙ ap (in_order r) (ap (λ (m : List ℕ). table n (key_at m)) e ∙ part-keys)

-- an id stands at one of the n places
pub place-below : (keys : List ℕ) (n : ℕ) (id : ℤ) (i : ℕ) → place_of keys n id ≡ Some i → i < n
unfolding place_of
place-below keys n id i e = find-below (λ k. same (key_at keys k) id) n i e

-- the same keys, as many, the same id
module _ (l m : List ℕ) (k n : ℕ) (e : l ≡ m) (q : k ≡ n) where
  pub place-alike : (y z : ℤ) → y ≡ z → place_of l k y ≡ place_of m n z
  place-alike y z h = ap₂ (λ (x : List ℕ) (i : ℕ). place_of x i y) e q ∙ ap (place_of m n) h

  pub sorted_alike : Sorted m n → Sorted l k
  sorted_alike s = subst (λ (x : List ℕ). Sorted x k) (sym e) (subst (λ (i : ℕ). Sorted m i) (sym q) s)
