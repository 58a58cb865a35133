-- What a sound catalogue lets a reader rely on: sorted keys, and fields within their limits.
use Prim.Native.Nat.{ℕ, ◌+◌, ◌*◌, ◌≤◌, ◌<◌}
use native.Mathlib.Omega.{arith}
use mathlib.Core.Path.{◌≡◌, sym, ap, ◌∙◌}
use mathlib.Core.Bool.{true, false, not, ◌||◌}
use mathlib.Core.List.{List}
use mathlib.Mathlib.Data.Bool.Basic.{or-eq-false-eq-eq-false-and-eq-false as neither}
use lib.ListN.{take, drop}
use lib.Dec.{ltb}
use lib.IntN.{pos}
use lib.Signed.{lt_z, le_z}
use borrow.Author.Tests.{lt-ltb, ltb-false, not-false}
use Rattle.words.specs.Words.{in_order}
use Rattle.words.proofs.Tables.{any_false}
use Rattle.image.specs.Bytes.{i32_at, signed32}
use Rattle.image.proofs.Parts.{part-i32}
use Rattle.keys.specs.Keys.{Sorted, key_at, rank_of}
use Rattle.keys.proofs.Parts.{part-keys}
use Rattle.keys.proofs.Orders.{ascending_sorted, descending_sorted, any-le}
use Rattle.catalogue.specs.Catalogue.{name_count, effect_count, type_count, link_count, base_count, names_at, effects_at, types_at, links_at}
use Rattle.catalogue.specs.Catalogue.{bases_at, name_at, effect_at}
use Rattle.catalogue.specs.Sound.{Sound}
use Rattle.catalogue.proofs.Tables.{names-ascend, effects-ascend, types-ascend, links-rise, bases-rise, bad-order}
use Rattle.catalogue.proofs.Tables.{name_over, mark-over, flag_over, bad-field}

-- below 2 ^ 31 a number of 32 bits is itself
pub signed_small : (x : ℕ) → x < 2147483648 → signed32 x ≡ pos x
unfolding signed32
signed_small x h = rw (lt-ltb x 2147483648 h)

rank_small : (x : ℕ) → x < 2147483648 → rank_of (signed32 x) ≡ x + 2147483648
unfolding rank_of
rank_small x h = ap rank_of (signed_small x h)

-- none of the tests of refusals 2 and 3 holds
record Passed (b : List ℕ) : Type 0 where
  names : names-ascend b ≡ true
  effects : effects-ascend b ≡ true
  types : types-ascend b ≡ true
  links : links-rise b ≡ true
  bases : bases-rise b ≡ true
  number : name_over b ≡ false
  mark : mark-over b ≡ false
  flag : flag_over b ≡ false

passed : (b : List ℕ) → Sound b → Passed b
passed b s =
    let n = not (names-ascend b) in
    let e = not (effects-ascend b) in
    let t = not (types-ascend b) in
    let l = not (links-rise b) in
    let four = (neither (n || e || t || l) (not (bases-rise b))).0 (sym (bad-order b) ∙ s.order) in
    let three = (neither (n || e || t) l).0 four.0 in
    let two = (neither (n || e) t).0 three.0 in
    let one = (neither n e).0 two.0 in
    let fields = (neither (name_over b || mark-over b) (flag_over b)).0 (sym (bad-field b) ∙ s.fields) in
    let field = (neither (name_over b) (mark-over b)).0 fields.0 in
    record {
      names = not-false _ one.0;
      effects = not-false _ one.1;
      types = not-false _ two.1;
      links = not-false _ three.1;
      bases = not-false _ four.1;
      number = field.0;
      mark = field.1;
      flag = fields.1;
    }

module _ (b : List ℕ) (s : Sound b) where
  -- ---- fields within their limits
  pub number_small : (i : ℕ) → i < name_count b → (name_at b i).number ≤ 87
  number_small i h = ltb-false _ _ (any_false (ltb 87) (name_count b) (λ j. (name_at b j).number) (passed b s).number i h)

  pub mark-small : (i : ℕ) → i < effect_count b → (effect_at b i).mark ≤ 8
  mark-small i h = ltb-false _ _ (any_false (ltb 8) (effect_count b) (λ j. (effect_at b j).mark) (passed b s).mark i h)

  -- ---- the keys of each block, which a search wants sorted
  pub names-sorted : Sorted (take (4 * name_count b) (drop (names_at b) b)) (name_count b)
  unfolding i32_at
  names-sorted j k p q =
      let key : (i : ℕ) → i < name_count b → rank_of (key_at (take (4 * name_count b) (drop (names_at b) b)) i) ≡ (name_at b i).number + 2147483648 =
      λ i h. ap rank_of (part-i32 b (names_at b) (4 * name_count b) (4 * i) (omega (arith, h))) ∙ rank_small (name_at b i).number
      (omega (arith, number_small i h)) in
      omega (arith, key j (omega arith), key k q, any-le true (λ i. (name_at b i).number) (name_count b) (passed b s).names j k p q)

  pub effects-sorted : Sorted (take (4 * effect_count b) (drop (effects_at b) b)) (effect_count b)
  effects-sorted = ascending_sorted _ (effect_count b) (ap (in_order lt_z) (part-keys b (effects_at b) (effect_count b)) ∙ (passed b s).effects)

  pub types-sorted : Sorted (take (4 * type_count b) (drop (types_at b) b)) (type_count b)
  types-sorted = ascending_sorted _ (type_count b) (ap (in_order lt_z) (part-keys b (types_at b) (type_count b)) ∙ (passed b s).types)

  pub links-sorted : Sorted (take (4 * link_count b) (drop (links_at b) b)) (link_count b)
  links-sorted = descending_sorted _ (link_count b) (ap (in_order le_z) (part-keys b (links_at b) (link_count b)) ∙ (passed b s).links)

  pub bases-sorted : Sorted (take (4 * base_count b) (drop (bases_at b) b)) (base_count b)
  bases-sorted = descending_sorted _ (base_count b) (ap (in_order le_z) (part-keys b (bases_at b) (base_count b)) ∙ (passed b s).bases)
