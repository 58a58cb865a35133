-- The bytes that widening writes: how long they are, one value after another, and behind the front.
use Prim.Native.Nat.{ℕ, zero, suc, ◌+◌, ◌*◌, ◌≤◌}
use native.Mathlib.Omega.{arith}
use mathlib.Core.Path.{◌≡◌, sym, ap, ◌∙◌}
use mathlib.Core.List.{List, [], ◌++◌}
use lib.ListN.{length, take, drop, length-append}
use lib.Seq.{length-take-le}
use Rattle.words.proofs.Tables.{each_more, each_none}
use Rattle.image.specs.Bytes.{le, put}
use Rattle.image.proofs.Stores.{length-le, put-append}
use Rattle.image.proofs.Parts.{part_length}
use Rattle.catalogue.specs.Catalogue.{base_count, base_values_at, size_of}
use Rattle.widening.specs.Old.{old_size_of, old_value_at}
use Rattle.widening.specs.Widen.{wide_bits, wide_value, wide_values, widened}

module _ (b : List ℕ) where
  pub value-length : (at : ℕ) → at + 4 ≤ length b → length (wide_value b at) ≡ 12
  unfolding wide_value
  value-length at h =
      length-append (take 4 (drop at b)) (le 8 (wide_bits b (at + 4)))
      ∙ omega (arith, part_length b at 4 h, length-le 8 (wide_bits b (at + 4)))

  -- the attribute id stored, then the value
  pub put-wide : (l : List ℕ) (at to : ℕ) → at + 4 ≤ length b
      → put (put l to (take 4 (drop at b))) (to + 4) (le 8 (wide_bits b (at + 4))) ≡ put l to (wide_value b at)
  unfolding wide_value
  put-wide l at to h =
      let id = take 4 (drop at b) in
      let e : to + 4 ≡ to + length id = omega (arith, part_length b at 4 h) in
      ap (λ (k : ℕ). put (put l to id) k (le 8 (wide_bits b (at + 4)))) e ∙ sym (put-append l to id (le 8 (wide_bits b (at + 4))))

  -- no value, and one more
  values_none : wide_values b 0 ≡ []
  unfolding wide_values
  values_none = each_none (λ i. i) (λ i. wide_value b (old_value_at b i))

  values_more : (n : ℕ) → wide_values b (n + 1) ≡ wide_values b n ++ wide_value b (old_value_at b n)
  unfolding wide_values
  values_more n = each_more (λ i. i) (λ i. wide_value b (old_value_at b i)) n

  pub values_length : (n : ℕ) → base_values_at b + 8 * n ≤ length b → length (wide_values b n) ≡ 12 * n
  values_length zero h = ap length values_none
  values_length (suc n) h =
      let e : suc n ≡ n + 1 = omega arith in
      ap (λ (k : ℕ). length (wide_values b k)) e
      ∙ ap length (values_more n)
      ∙ length-append (wide_values b n) (wide_value b (old_value_at b n))
      ∙ omega (arith, values_length n (omega arith), value-length (old_value_at b n) (omega arith))

  module _ (size : length b ≡ old_size_of b) where
    pub front_length : length (take (base_values_at b) b) ≡ base_values_at b
    front_length = length-take-le (base_values_at b) b (omega arith)

    pub widened-length : length (widened b) ≡ size_of b
    unfolding widened
    widened-length =
        length-append (take (base_values_at b) b) (wide_values b (base_count b))
        ∙ omega (arith, front_length, values_length (base_count b) (omega arith))

    -- the front stored, then the values
    pub put-widened : (l : List ℕ) (at n : ℕ) → at ≡ base_values_at b → n ≡ base_count b
        → put (put l 0 (take at b)) at (wide_values b n) ≡ put l 0 (widened b)
    unfolding widened
    put-widened l at n e f =
        let front = take (base_values_at b) b in
        let end : at ≡ 0 + length front = omega (arith, e, front_length) in
        ap (λ (k : ℕ). put (put l 0 (take k b)) at (wide_values b n)) e
        ∙ ap (λ (k : ℕ). put (put l 0 front) k (wide_values b n)) end
        ∙ ap (λ (k : ℕ). put (put l 0 front) (0 + length front) (wide_values b k)) f
        ∙ sym (put-append l 0 front (wide_values b (base_count b)))

  -- no value stored, and one behind those before it
  pub put-no_values : (l : List ℕ) (at : ℕ) → l ≡ put l at (wide_values b 0)
  put-no_values l at = ap (put l at) (sym values_none)

  pub put-value : (l : List ℕ) (at n : ℕ) → at ≡ base_values_at b → at + 8 * n ≤ length b
      → put (put l at (wide_values b n)) (at + 12 * n) (wide_value b (at + 8 * n)) ≡ put l at (wide_values b (n + 1))
  put-value l at n e h =
      let values = wide_values b n in
      let end : at + 12 * n ≡ at + length values = omega (arith, e, values_length n (omega (arith, e))) in
      ap (λ (k : ℕ). put (put l at values) k (wide_value b (at + 8 * n))) end
      ∙ sym (put-append l at values (wide_value b (at + 8 * n)))
      ∙ ap (λ (k : ℕ). put l at (values ++ wide_value b (k + 8 * n))) e
      ∙ ap (put l at) (sym (values_more n))
