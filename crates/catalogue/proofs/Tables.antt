-- The keys of a block, read in their part as in the whole, and the refusals as tests of tables.
use Prim.Native.Nat.{ℕ, ◌+◌, ◌*◌}
use native.Mathlib.Omega.{arith}
use mathlib.Core.Path.{◌≡◌, ap}
use mathlib.Core.Bool.{Bool, not, ◌||◌}
use mathlib.Core.List.{List}
use lib.ListN.{take, drop}
use lib.Dec.{ltb}
use lib.Signed.{lt_z, le_z}
use lib.IntN.{ℤ}
use Rattle.words.specs.Words.{table, from, in_order, any_of, find, same}
use Rattle.words.proofs.Tables.{table_same, map-table, any-table, find-alike}
use Rattle.image.specs.Bytes.{u32_at, i32_at}
use Rattle.image.proofs.Parts.{part-u32, part-i32}
use Rattle.keys.specs.Keys.{place_of}
use Rattle.catalogue.specs.Catalogue.{catalogue_of, name_count, effect_count, type_count, link_count, base_count, names_at, effects_at}
use Rattle.catalogue.specs.Catalogue.{types_at, links_at, bases_at, name_at, effect_at, type_at, link_at, base_at}
use Rattle.catalogue.specs.Refusals.{bad_order, bad_field}

-- ---- a part of 4 * n bytes that holds n keys
module _ (b : List ℕ) (at n : ℕ) where
  pub numbers_part : table n (λ i. u32_at (take (4 * n) (drop at b)) (4 * i)) ≡ table n (λ i. u32_at b (at + 4 * i))
  numbers_part = table_same n _ _ (λ i h. part-u32 b at (4 * n) (4 * i) (omega (arith, h)))

  pub find-part : (id : ℤ) → place_of (take (4 * n) (drop at b)) n id ≡ find (λ i. same (i32_at b (at + 4 * i)) id) (from 0 n)
  unfolding place_of
  find-part id = find-alike _ _ n (λ i h. ap (λ (z : ℤ). same z id) (part-i32 b at (4 * n) (4 * i) (omega (arith, h))))

-- ---- the tests of a catalogue, by the bytes
module _ (b : List ℕ) where
  abbrev pub names-ascend : Bool
  names-ascend = in_order ltb (table (name_count b) (λ i. u32_at b (names_at b + 4 * i)))

  abbrev pub effects-ascend : Bool
  effects-ascend = in_order lt_z (table (effect_count b) (λ i. i32_at b (effects_at b + 4 * i)))

  abbrev pub types-ascend : Bool
  types-ascend = in_order lt_z (table (type_count b) (λ i. i32_at b (types_at b + 4 * i)))

  abbrev pub links-rise : Bool
  links-rise = in_order le_z (table (link_count b) (λ i. i32_at b (links_at b + 4 * i)))

  abbrev pub bases-rise : Bool
  bases-rise = in_order le_z (table (base_count b) (λ i. i32_at b (bases_at b + 4 * i)))

  pub bad-order : bad_order (catalogue_of b) ≡ not names-ascend || not effects-ascend || not types-ascend || not links-rise || not bases-rise
  unfolding bad_order catalogue_of
  bad-order =
      rw (
        map-table (λ x. x.number) (name_count b) (name_at b),
        map-table (λ x. x.id) (effect_count b) (effect_at b),
        map-table (λ x. x.id) (type_count b) (type_at b),
        map-table (λ x. x.type) (link_count b) (link_at b),
        map-table (λ x. x.type) (base_count b) (base_at b),
      )

  abbrev pub name_over : Bool
  name_over = any_of (ltb 87) (table (name_count b) (λ i. u32_at b (names_at b + 4 * i)))

  abbrev pub mark-over : Bool
  mark-over = any_of (ltb 8) (table (effect_count b) (λ i. u32_at b (effects_at b + 4 * effect_count b + 4 * i)))

  abbrev pub flag_over : Bool
  flag_over = any_of (ltb 1) (table (type_count b) (λ i. u32_at b (types_at b + 4 * type_count b + 8 + 16 * i)))

  pub bad-field : bad_field (catalogue_of b) ≡ name_over || mark-over || flag_over
  unfolding bad_field catalogue_of
  bad-field =
      rw (
        any-table (ltb 87) (λ x. x.number) (name_count b) (name_at b),
        any-table (ltb 8) (λ x. x.mark) (effect_count b) (effect_at b),
        any-table (ltb 1) (λ x. x.volume_flag) (type_count b) (type_at b),
        table_same (type_count b) (λ i. (type_at b i).volume_flag) (λ i. u32_at b (types_at b + 4 * type_count b + 8 + 16 * i)) (λ i h. ap (u32_at b) (omega arith)),
      )
