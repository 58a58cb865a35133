-- Document 01, "Refusals in their order", 1 to 3: a catalogue that none of them holds of.
use Rattle.std.specs.Prelude.{ℕ, ◌≤◌, ◌≡◌, false, List, length}
use Rattle.numbers.specs.Sizes as Sizes
use Rattle.catalogue.specs.Catalogue.{catalogue_of, size_of}
use Rattle.catalogue.specs.Refusals.{bad_order, bad_field}

-- as long as its sizes say, not too long, its keys in order, its fields within their limits
pub record Sound (b : List ℕ) : Type 0 where
  pub size : length b ≡ size_of b
  pub small : length b ≤ Sizes.most_catalogue_bytes
  pub order : bad_order (catalogue_of b) ≡ false
  pub fields : bad_field (catalogue_of b) ≡ false
