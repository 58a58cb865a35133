-- What the tests of the code say in terms of the definitions: the mode by its bits, and each refusal from its parts.
use Prim.Native.Nat.{ℕ, ◌+◌, ◌*◌, ◌-◌, ◌^◌}
use native.Mathlib.Omega.{arith}
use mathlib.Core.Path.{◌≡◌, refl, sym, ap, ap₂, ◌∙◌}
use mathlib.Core.Bool.{Bool, true, false, not, cond, ◌&&◌, ◌||◌}
use mathlib.Core.List.{List}
use lib.Dec.{ltb, eqb}
use lib.IntN.{ℤ, pos, negsuc}
use lib.Signed.{lt_z}
use borrow.Author.Tests.{ltb-false, ne_eqb}
use Rattle.words.specs.Words.{any_of, in_order, table, same}
use Rattle.image.specs.Bytes.{u32_at, i32_at, signed32}
use Rattle.fit.specs.Fit.{fit_of, skill_count, skills_at, ids_at, count_at, start_at, result_of, all_results}
use Rattle.fit.specs.Refusals.{bad_item, bad_result, bad_order, bad_field}
use Rattle.fit.proofs.Decoded.{attribute-ids}
use Rattle.fit.proofs.Soundness.{bad_mode, disordered}

-- a number of 32 bits is 0 where its bits are
same-zero : (x : ℕ) → same (signed32 x) (pos 0) ≡ eqb x 0
unfolding signed32 same
same-zero x = go (ltb x (2 ^ 31)) refl
  where
    go : (t : Bool) → ltb x (2 ^ 31) ≡ t → same (cond t (pos x) (negsuc (2 ^ 32 - 1 - x))) (pos 0) ≡ eqb x 0
    go true e = refl
    go false e = sym (ne_eqb x 0 (λ q. omega (arith, q, ltb-false x (2 ^ 31) e)))

module _ (b : List ℕ) where
  pub mode-bits : bad_mode (fit_of b) ≡ ltb 1 (u32_at b 20) || (eqb (u32_at b 20) 0 && not (eqb (u32_at b 24) 0))
  unfolding fit_of i32_at
  mode-bits = ap (λ (t : Bool). ltb 1 (u32_at b 20) || (eqb (u32_at b 20) 0 && not t)) (same-zero (u32_at b 24))

  pub field_parts : bad_field (fit_of b) ≡ bad_mode (fit_of b) || any_of bad_item (fit_of b).items || any_of bad_result (all_results (fit_of b))
  unfolding bad_field
  field_parts = refl

  pub order-parts : bad_order (fit_of b) ≡ not (in_order lt_z (table (skill_count b) (λ i. i32_at b (skills_at b + 4 * i)))) || any_of disordered (all_results (fit_of b))
  unfolding bad_order fit_of
  order-parts = refl

  -- what the order of the ids from a result's start on says of the result
  pub result-told : (j start n : ℕ) → start ≡ start_at b j → n ≡ count_at b j → not (in_order lt_z (table n (λ i. i32_at b (ids_at b + 4 * (start + i))))) ≡ disordered (result_of b j)
  result-told j start n p q =
      ap₂ (λ (st k : ℕ). not (in_order lt_z (table k (λ i. i32_at b (ids_at b + 4 * (st + i)))))) p q
      ∙ ap (λ (ids : List ℤ). not (in_order lt_z ids)) (sym (attribute-ids b j))
