-- What the decoded lists of a fit hold at each place, and how its results stand in a row.
use Prim.Native.Nat.{ℕ, zero, suc, ◌+◌, ◌*◌, ◌-◌, ◌≤◌, ◌<◌}
use native.Mathlib.Nat.{add-zero, add-suc, mul-add, mul-le-mul_left, le_refl, le_trans}
use native.Mathlib.Numerals.{add-one}
use native.Mathlib.Omega.{arith}
use mathlib.Core.Path.{◌≡◌, refl, sym, ap, ◌∙◌, subst}
use mathlib.Core.List.{List, map}
use Rattle.std.specs.Prelude.{Some}
use lib.ListN.{length, get_or}
use Rattle.std.specs.Prelude.{slice_get}
use lib.Ieee.{binary64, of_bits}
use Rattle.words.specs.Words.{table, sum_of}
use Rattle.words.proofs.Tables.{length-table, get_or-table, map-table, table_same, sum_more}
use Rattle.words.proofs.Elements.{sum_none, table-two, elem_table}
use Rattle.image.specs.Bytes.{u64_at, i32_at}
use Rattle.image.proofs.Parts.{part_length, part-u64}
use Rattle.floats.specs.Floats.{f64_at}
use Rattle.keys.specs.Keys.{key_at}
use Rattle.keys.proofs.Parts.{part-key}
use Rattle.fit.specs.Fit.{Item, Result, fit_of, skill_count, item_count, result_count, item_at, attribute_count, ids_at, values_at, attribute_at, count_at, start_at, result_of, all_results, result_at}
use Rattle.fit.specs.Sound.{Sized, Starts, ids_part, values_part}

module _ (b : List ℕ) where
  pub item_at_lem : (i : ℕ) (d : Item) → i < item_count b → get_or (fit_of b).items i d ≡ item_at b i
  unfolding fit_of
  item_at_lem i d h = get_or-table (item_count b) (item_at b) i d h

  pub levels_length : length (fit_of b).levels ≡ skill_count b
  unfolding fit_of
  levels_length = length-table 0 (skill_count b) _

  pub results-length : length (fit_of b).results ≡ result_count b
  unfolding fit_of
  results-length = length-table 0 (result_count b) _

  -- the ship's and the character's result stand before those of the items
  pub all_results_lem : all_results (fit_of b) ≡ table (result_count b + 2) (result_of b)
  unfolding fit_of
  all_results_lem = sym (table-two (result_count b) (result_of b))

  pub result-some : (n : ℕ) → n < result_count b + 2 → result_at (fit_of b) n ≡ Some (result_of b n)
  unfolding result_at
  result-some n h = ap (λ (l : List Result). slice_get l n) all_results_lem ∙ elem_table (result_count b + 2) (result_of b) n h

  -- where the next result's attributes begin
  pub start-next : (j : ℕ) → start_at b (j + 1) ≡ start_at b j + count_at b j
  unfolding start_at
  start-next j = rw add-one

  pub start_none : start_at b 0 ≡ 0
  unfolding start_at
  start_none = refl

  -- no result's attributes begin before an earlier one's
  pub start-le : (j n : ℕ) → start_at b j ≤ start_at b (j + n)
  unfolding start_at
  start-le j zero = rw add-zero (le_refl (start_at b j))
  start-le j (suc n) = rw add-suc (le_trans (start-le j n) (omega arith))

  -- each result's attributes end within all
  pub start-within : Sized b → (j : ℕ) → j < result_count b + 2 → start_at b j + count_at b j ≤ attribute_count b
  start-within z j h =
      let k = result_count b + 2 - (j + 1) in
      let e : j + 1 + k ≡ result_count b + 2 = omega arith in
      omega (arith, start-le (j + 1) k, ap (start_at b) e, z.counts, start-next j)

  -- where what a result has begins and ends in a block with w bytes for each attribute
  module _ (s : List ℕ) (z : Sized b) (t : Starts b s) (j : ℕ) (h : j < result_count b + 2) (w : ℕ) where
    pub block_begin : {x : ℕ} → x ≡ get_or s j 0 → w * x ≡ w * start_at b j
    block_begin e = ap (λ (k : ℕ). w * k) (e ∙ t.begins j (omega arith))

    pub block_end : {y : ℕ} → y ≡ get_or s (j + 1) 0 → w * y ≡ w * start_at b j + w * count_at b j
    block_end e = ap (λ (k : ℕ). w * k) (e ∙ t.begins (j + 1) (omega arith) ∙ start-next j) ∙ mul-add w (start_at b j) (count_at b j)

    pub block_within : w * start_at b j + w * count_at b j ≤ w * attribute_count b
    block_within = subst (λ (k : ℕ). k ≤ w * attribute_count b) (mul-add w (start_at b j) (count_at b j)) (mul-le-mul_left w (start-within z j h))

  -- the ids of a result's attributes
  pub attribute-ids : (j : ℕ) → map (λ x. x.id) (result_of b j).attributes ≡ table (count_at b j) (λ i. i32_at b (ids_at b + 4 * (start_at b j + i)))
  attribute-ids j = map-table (λ x. x.id) (count_at b j) (λ i. attribute_at b (start_at b j + i))

  pub id-at : (start n i : ℕ) → i < n → key_at (ids_part b start n) i ≡ i32_at b (ids_at b + 4 * (start + i))
  unfolding ids_part
  id-at start n i h =
      let e : ids_at b + 4 * start + 4 * i ≡ ids_at b + 4 * (start + i) = omega arith in
      part-key b (ids_at b + 4 * start) n i h ∙ ap (i32_at b) e

  pub ids_length : (start n : ℕ) → ids_at b + 4 * (start + n) ≤ length b → length (ids_part b start n) ≡ 4 * n
  unfolding ids_part
  ids_length start n h = part_length b (ids_at b + 4 * start) (4 * n) (omega arith)

  pub value-at : (start n i : ℕ) → i < n → f64_at (values_part b start n) (8 * i) ≡ f64_at b (values_at b + 8 * (start + i))
  unfolding values_part f64_at
  value-at start n i h =
      let e : values_at b + 8 * start + 8 * i ≡ values_at b + 8 * (start + i) = omega arith in
      ap (of_bits binary64) (part-u64 b (values_at b + 8 * start) (8 * n) (8 * i) (omega arith) ∙ ap (u64_at b) e)

  pub values_length : (start n : ℕ) → values_at b + 8 * (start + n) ≤ length b → length (values_part b start n) ≡ 8 * n
  unfolding values_part
  values_length start n h = part_length b (values_at b + 8 * start) (8 * n) (omega arith)

  pub ids_all : (start n : ℕ) → table n (key_at (ids_part b start n)) ≡ table n (λ i. i32_at b (ids_at b + 4 * (start + i)))
  ids_all start n = table_same n (key_at (ids_part b start n)) (λ i. i32_at b (ids_at b + 4 * (start + i))) (id-at start n)

  sum_starts : (n : ℕ) → sum_of (λ r. length r.attributes) (table n (result_of b)) ≡ start_at b n
  unfolding start_at
  sum_starts zero = sum_none (λ r. length r.attributes) (result_of b)
  sum_starts (suc n) =
      let m = sum_more (result_of b) (λ r. length r.attributes) n in
      let l : length (result_of b n).attributes ≡ count_at b n = length-table 0 (count_at b n) _ in
      let q : sum_of (λ r. length r.attributes) (table (suc n) (result_of b)) ≡ sum_of (λ r. length r.attributes) (table (n + 1) (result_of b)) = rw add-one refl in
      let s = sum_starts n in
      omega (arith, m, l, q, s)

  -- the counts add up to where the attributes end
  pub counts-sum : sum_of (λ r. length r.attributes) (all_results (fit_of b)) ≡ start_at b (result_count b + 2)
  counts-sum = ap (sum_of (λ r. length r.attributes)) all_results_lem ∙ sum_starts (result_count b + 2)
