-- The old form's refusals: both forms have the same keys and fields, and an old catalogue that is not refused is as long as its sizes say.
use Prim.Native.Nat.{ℕ, ◌≤◌}
use mathlib.Core.Path.{◌≡◌, refl, sym, ◌∙◌}
use mathlib.Core.Bool.{true, false}
use mathlib.Core.List.{List, map}
use lib.ListN.{length}
use Rattle.words.specs.Words.{table}
use Rattle.words.proofs.Tables.{map-table}
use Rattle.catalogue.specs.Catalogue.{Base, catalogue_of, base_count, base_at}
use Rattle.catalogue.specs.Refusals.{bad_order, bad_field}
use Rattle.catalogue.proofs.Sound.{length-is, length-limit, first-1, first-2, first-3, first-none, none_first}
use Rattle.widening.specs.Old.{old_size_of, old_base_at, old_catalogue_of, old_bad_length, old_refusals, old_refusal}

module _ (b : List ℕ) where
  -- the keys of the bases are the same numbers
  keys : map (λ (x : Base). x.type) (table (base_count b) (base_at b)) ≡ map (λ (x : Base). x.type) (table (base_count b) (old_base_at b))
  keys = map-table (λ (x : Base). x.type) (base_count b) (base_at b) ∙ sym (map-table (λ (x : Base). x.type) (base_count b) (old_base_at b))

  order_alike : bad_order (old_catalogue_of b) ≡ bad_order (catalogue_of b)
  unfolding bad_order catalogue_of old_catalogue_of
  order_alike = rw keys

  fields-alike : bad_field (old_catalogue_of b) ≡ bad_field (catalogue_of b)
  unfolding bad_field old_catalogue_of
  fields-alike = refl

  -- ---- the first refusal, by the tests of the new form
  module _ (l : old_bad_length b ≡ false) where
    pub refused-2 : bad_order (catalogue_of b) ≡ true → 2 ≡ old_refusal b
    unfolding old_refusal old_refusals
    refused-2 o = first-2 _ l (order_alike ∙ o)

    pub refused-3 : bad_order (catalogue_of b) ≡ false → bad_field (catalogue_of b) ≡ true → 3 ≡ old_refusal b
    unfolding old_refusal old_refusals
    refused-3 o f = first-3 l (order_alike ∙ o) (fields-alike ∙ f)

    pub refused_none : bad_order (catalogue_of b) ≡ false → bad_field (catalogue_of b) ≡ false → 0 ≡ old_refusal b
    unfolding old_refusal old_refusals
    refused_none o f = first-none l (order_alike ∙ o) (fields-alike ∙ f)

  pub refused-1 : old_bad_length b ≡ true → 1 ≡ old_refusal b
  unfolding old_refusal old_refusals
  refused-1 l = first-1 _ _ l

  pub old-size : old_bad_length b ≡ false → length b ≡ old_size_of b
  unfolding old_bad_length
  old-size e = length-is b (old_size_of b) e

  pub accepted-old : old_refusal b ≡ 0 → (length b ≡ old_size_of b) × (length b ≤ 16777216)
  unfolding old_refusal old_refusals old_bad_length
  accepted-old e =
      let n = none_first (old_bad_length b) (bad_order (old_catalogue_of b)) (bad_field (old_catalogue_of b)) e in
      (length-is b (old_size_of b) n.0, length-limit b (old_size_of b) n.0)
