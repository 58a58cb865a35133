-- Lookups as searches for a number: the index of the first record that matches.
use Prim.Native.Nat.{ℕ, ◌+◌, ◌*◌, ◌<◌}
use native.Mathlib.Omega.{arith}
use mathlib.Core.Path.{◌≡◌, ap, ◌∙◌, sym}
use mathlib.Core.List.{List}
use Rattle.std.specs.Prelude.{Option, None, Some}
use lib.ListN.{take, drop}
use lib.Dec.{eqb}
use lib.IntN.{pos}
use borrow.Author.Tests.{ne_eqb}
use Rattle.words.specs.Words.{from, find, given, same}
use Rattle.words.proofs.Tables.{find-made, find-alike, find_none}
use Rattle.image.specs.Bytes.{i32_at}
use Rattle.keys.specs.Keys.{place_of}
use Rattle.keys.proofs.Parts.{place-alike}
use Rattle.catalogue.specs.Catalogue.{Id, catalogue_of, name_count, effect_count, type_count, names_at, effects_at, types_at, name_at, effect_at, type_at}
use Rattle.catalogue.specs.Lookups.{name_id, type_of, effect_mark}
use Rattle.catalogue.specs.Answers.{info_of_type}
use Rattle.catalogue.specs.Sound.{Sound}
use Rattle.catalogue.proofs.Tables.{find-part}
use Rattle.catalogue.proofs.Reading.{signed_small, number_small}

module _ (b : List ℕ) where
  pub effect-search : (e : Id)
      → effect_mark (catalogue_of b) e ≡ given (find (λ j. same (effect_at b j).id e) (from 0 (effect_count b))) None (λ j. Some (effect_at b j).mark)
  unfolding effect_mark catalogue_of
  effect-search e = find-made (λ x. same x.id e) (λ x. x.mark) (effect_count b) (effect_at b)

  pub type-search : (t : Id) → given (type_of (catalogue_of b) t) None (λ x. Some (info_of_type x)) ≡ given
      (find (λ j. same (type_at b j).id t) (from 0 (type_count b))) None (λ j. Some (info_of_type (type_at b j)))
  unfolding type_of catalogue_of
  type-search t = find-made (λ x. same x.id t) info_of_type (type_count b) (type_at b)

  name_table : (n : ℕ)
      → name_id (catalogue_of b).names n ≡ given (find (λ j. eqb (name_at b j).number n) (from 0 (name_count b))) None (λ j. Some (name_at b j).id)
  unfolding name_id catalogue_of
  name_table n = find-made (λ x. eqb x.number n) (λ x. x.id) (name_count b) (name_at b)

  module _ (s : Sound b) where
    -- name numbers are small, so they are told apart as signed numbers
    name_same : (n j : ℕ) → j < name_count b → eqb (name_at b j).number n ≡ same (i32_at b (names_at b + 4 * j)) (pos n)
    unfolding same i32_at
    name_same n j h = rw (signed_small (name_at b j).number (omega (arith, number_small b s j h)))

    pub name_search : (n : ℕ) → name_id (catalogue_of b).names n ≡ given
        (find (λ j. same (i32_at b (names_at b + 4 * j)) (pos n)) (from 0 (name_count b))) None (λ j. Some (name_at b j).id)
    name_search n = name_table n ∙ ap (λ (o : Option ℕ). given o None (λ j. Some (name_at b j).id)) (find-alike _ _ (name_count b) (name_same n))

    pub name_none : (n : ℕ) → 87 < n → name_id (catalogue_of b).names n ≡ None
    unfolding given
    name_none n h =
        name_table n ∙ ap (λ (o : Option ℕ). given o None (λ j. Some (name_at b j).id))
        (find_none _ (name_count b) (λ j. j) (λ j l. ne_eqb (name_at b j).number n (λ e. omega (arith, e, h, number_small b s j l))))

-- ---- what is made of the place that the search of a block's keys ends at, given which keys those were
module _ (b : List ℕ) {keys : List ℕ} {n : ℕ} {z : Id} {o : Option ℕ} (e : o ≡ place_of keys n z) where
  -- the place among the numbers of the block
  found : (at m : ℕ) (t : Id) → keys ≡ take (4 * m) (drop at b) → n ≡ m → z ≡ t → o ≡ find (λ j. same (i32_at b (at + 4 * j)) t) (from 0 m)
  found at m t p q r = e ∙ place-alike _ _ _ _ p q _ _ r ∙ find-part b at m t

  pub effect_told : (t : Id) → keys ≡ take (4 * effect_count b) (drop (effects_at b) b) → n ≡ effect_count b → z ≡ t
      → given o None (λ j. Some (effect_at b j).mark) ≡ effect_mark (catalogue_of b) t
  effect_told t p q r = ap (λ (x : Option ℕ). given x None (λ j. Some (effect_at b j).mark)) (found (effects_at b) (effect_count b) t p q r) ∙ sym (effect-search b t)

  pub type_told : (t : Id) → keys ≡ take (4 * type_count b) (drop (types_at b) b) → n ≡ type_count b → z ≡ t
      → given o None (λ j. Some (info_of_type (type_at b j))) ≡ given (type_of (catalogue_of b) t) None (λ x. Some (info_of_type x))
  type_told t p q r = ap (λ (x : Option ℕ). given x None (λ j. Some (info_of_type (type_at b j)))) (found (types_at b) (type_count b) t p q r) ∙ sym (type-search b t)

  pub name_told : Sound b → (k : ℕ) → keys ≡ take (4 * name_count b) (drop (names_at b) b) → n ≡ name_count b → z ≡ pos k
      → given o None (λ j. Some (name_at b j).id) ≡ name_id (catalogue_of b).names k
  name_told s k p q r = ap (λ (x : Option ℕ). given x None (λ j. Some (name_at b j).id)) (found (names_at b) (name_count b) (pos k) p q r) ∙ sym (name_search b s k)
