-- Document 02, P10: the form that catalogues had, in which a base takes 12 bytes: its value is the i32 attribute id and an f32. All
-- other blocks, and the keys of the bases, are those of the new form (catalogue/specs/Catalogue.antt), and so are the records.
use Rattle.std.specs.Prelude.{ℕ, ◌+◌, ◌*◌, Bool, not, ◌||◌, List, [], ◌∷◌, eqb, ltb, length}
use Rattle.words.specs.Words.{table, first_of}
use Rattle.numbers.specs.Sizes as Sizes
use Rattle.numbers.specs.Refusals as Refusals
use Rattle.image.specs.Bytes.{i32_at}
use Rattle.floats.specs.Floats.{f32_at}
use Rattle.catalogue.specs.Catalogue.{Base, Catalogue, catalogue_of, base_count, bases_at, base_values_at}
use Rattle.catalogue.specs.Refusals.{bad_order, bad_field}

module _ (b : List ℕ) where
  -- the length that the sizes say
  abbrev pub old_size_of : ℕ
  old_size_of = bases_at b + 12 * base_count b

  -- where the value of base i begins
  abbrev pub old_value_at : ℕ → ℕ
  old_value_at i = base_values_at b + 8 * i

  abbrev pub old_base_at : ℕ → Base
  old_base_at i =
      let v = old_value_at i in
      record { type = i32_at b (bases_at b + 4 * i); attribute = i32_at b v; value = f32_at b (v + 4) }

  unfoldable pub old_catalogue_of : Catalogue
  old_catalogue_of =
      let c = catalogue_of b in
      record { names = c.names; effects = c.effects; types = c.types; links = c.links; bases = table (base_count b) old_base_at }

  -- ---- refusals 1 to 3 of this form
  unfoldable pub old_bad_length : Bool
  old_bad_length = ltb Sizes.most_catalogue_bytes (length b) || not (eqb (length b) old_size_of)

  unfoldable pub old_refusals : List (ℕ × Bool)
  old_refusals =
      let c = old_catalogue_of in
      (Refusals.bad_length, old_bad_length) ∷ (Refusals.bad_keys, bad_order c) ∷ (Refusals.bad_entry, bad_field c) ∷ []

  -- the first that holds, or 0
  unfoldable pub old_refusal : ℕ
  old_refusal = first_of old_refusals
