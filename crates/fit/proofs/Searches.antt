-- What a search through a part of the image finds: a result's value, and a trained level.
use Prim.Native.Nat.{ℕ, zero, suc, ◌+◌, ◌*◌, ◌/◌, ◌<◌}
use native.Mathlib.Omega.{arith}
use mathlib.Core.Path.{◌≡◌, refl, sym, ap, ◌∙◌}
use mathlib.Core.Bool.{Bool, true, false, cond}
use mathlib.Core.List.{List}
use Rattle.std.specs.Prelude.{Option, None, Some}
use lib.ListN.{length, take, drop}
use lib.Signed.{lt_z}
use lib.Ieee.{Float}
use Rattle.words.specs.Words.{table_from, from, find, given, same, in_order}
use Rattle.words.proofs.Tables.{find-table, find-alike}
use Rattle.image.specs.Bytes.{u8_at, i32_at}
use Rattle.floats.specs.Floats.{f64_at}
use Rattle.keys.specs.Keys.{key_at, Sorted, place_of}
use Rattle.keys.proofs.Orders.{ascending_sorted}
use Rattle.keys.proofs.Parts.{part-key, part-keys, sorted_alike}
use Rattle.catalogue.specs.Catalogue.{Id}
use Rattle.fit.specs.Fit.{fit_of, skill_count, result_count, skills_at, levels_at, values_at, count_at, start_at, attribute_at, result_of}
use Rattle.fit.specs.Lookups.{value, trained}
use Rattle.fit.specs.Sound.{Sound, ids_part}
use Rattle.fit.proofs.Decoded.{attribute-ids, id-at, ids_all, ids_length, start-within}
use Rattle.fit.proofs.Soundness.{skill-order, result-order}

level-from : (f : ℕ → Id) (g : ℕ → ℕ) (t : Id) (i n : ℕ) → trained (table_from i n f) (table_from i n g) t ≡ given (find (λ k. same (f k) t) (from i n)) 0 g
unfolding trained table_from find given
level-from f g t i zero = refl
level-from f g t i (suc n) = go (same (f i) t) (level-from f g t (suc i) n)
  where
    go : (x : Bool) → trained (table_from (suc i) n f) (table_from (suc i) n g) t ≡ given (find (λ k. same (f k) t) (from (suc i) n)) 0 g
        → cond x (g i) (trained (table_from (suc i) n f) (table_from (suc i) n g) t) ≡ given (cond x (Some i) (find (λ k. same (f k) t) (from (suc i) n))) 0 g
    go true e = refl
    go false e = e

module _ (b : List ℕ) where
  -- what a search of a result's ids says of its value
  abbrev value_at : ℕ → Option ℕ → Option Float
  value_at j o = given o None (λ i. Some (f64_at b (values_at b + 8 * (start_at b j + i))))

  passed : (j : ℕ) (o : Option ℕ) → given (given o None (λ i. Some (attribute_at b (start_at b j + i)))) None (λ x. Some x.value) ≡ value_at j o
  unfolding given
  passed j None = refl
  passed j (Some i) = refl

  value_found : (j : ℕ) (id : Id) → value (result_of b j) id ≡ value_at j (place_of (ids_part b (start_at b j) (count_at b j)) (count_at b j) id)
  unfolding value place_of
  value_found j id =
      let n = count_at b j in
      let ids = ids_part b (start_at b j) n in
      ap (λ o. given o None (λ x. Some x.value)) (find-table (λ x. same x.id id) n (λ i. attribute_at b (start_at b j + i)))
      ∙ passed j (find (λ i. same (attribute_at b (start_at b j + i)).id id) (from 0 n))
      ∙ ap (value_at j) (find-alike (λ i. same (attribute_at b (start_at b j + i)).id id) (λ i. same (key_at ids i) id) n (λ i h. ap (λ z. same z id) (sym (id-at b (start_at b j) n i h))))

  -- an id that stands at place i has the value at place i
  pub value_told : (j : ℕ) (id : Id) {o : Option ℕ} → o ≡ place_of (ids_part b (start_at b j) (count_at b j)) (count_at b j) id
      → given o None (λ i. Some (f64_at b (values_at b + 8 * (start_at b j + i)))) ≡ value (result_of b j) id
  value_told j id e = ap (value_at j) e ∙ sym (value_found j id)

  pub ids-sorted : Sound b → (j : ℕ) → j < result_count b + 2 → Sorted (ids_part b (start_at b j) (count_at b j)) (count_at b j)
  ids-sorted s j h =
      ascending_sorted (ids_part b (start_at b j) (count_at b j)) (count_at b j)
      (ap (in_order lt_z) (ids_all b (start_at b j) (count_at b j) ∙ sym (attribute-ids b j)) ∙ result-order b s j h)

  -- a search of the part that holds a result's ids, in words of the image
  module _ (s : Sound b) (j : ℕ) (h : j < result_count b + 2) {l : List ℕ} (e : l ≡ ids_part b (start_at b j) (count_at b j)) where
    pub ids-count : length l ≡ 4 * count_at b j
    ids-count = ap length e ∙ ids_length b (start_at b j) (count_at b j) (omega (arith, start-within b s.sized j h))

    many : length l / 4 ≡ count_at b j
    many = omega (arith, ids-count)

    pub part-sorted : Sorted l (length l / 4)
    part-sorted = sorted_alike _ _ _ _ e many (ids-sorted s j h)

  -- ---- skills
  -- what a search of the skill ids says of a level
  abbrev level_at : Option ℕ → ℕ
  level_at o = given o 0 (λ i. u8_at b (levels_at b + i))

  abbrev pub skill_ids : List ℕ
  skill_ids = take (4 * skill_count b) (drop (skills_at b) b)

  level-found : (id : Id) → trained (fit_of b).skills (fit_of b).levels id ≡ level_at (place_of skill_ids (skill_count b) id)
  unfolding fit_of place_of
  level-found id =
      let n = skill_count b in
      level-from (λ i. i32_at b (skills_at b + 4 * i)) (λ i. u8_at b (levels_at b + i)) id 0 n
      ∙ ap level_at (find-alike (λ i. same (i32_at b (skills_at b + 4 * i)) id) (λ i. same (key_at skill_ids i) id) n (λ i h. ap (λ z. same z id) (sym (part-key b (skills_at b) n i h))))

  -- a skill that stands at place i has the level at place i
  pub level_told : (id : Id) {o : Option ℕ} → o ≡ place_of skill_ids (skill_count b) id
      → given o 0 (λ i. u8_at b (levels_at b + i)) ≡ trained (fit_of b).skills (fit_of b).levels id
  level_told id e = ap level_at e ∙ sym (level-found id)

  pub skills-sorted : Sound b → Sorted skill_ids (skill_count b)
  unfolding fit_of
  skills-sorted s =
      ascending_sorted skill_ids (skill_count b) (ap (in_order lt_z) (part-keys b (skills_at b) (skill_count b)) ∙ skill-order b s)
