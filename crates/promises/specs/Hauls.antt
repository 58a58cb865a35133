-- Document 02, P7: Cargo put behind a finished fit. What two list calls left outside the hold, and in it.
use Rattle.std.specs.Prelude.{ℕ, ◌≡◌, Bool, not, ◌&&◌, ◌||◌, eqb}
use mathlib.Core.List.{List, Memᴰ}
use Rattle.words.specs.Words.{only}
use Rattle.numbers.specs.Slots as Slots
use Rattle.numbers.specs.declared.Resource.TheVariants.{CargoBay}
use Rattle.numbers.specs.Resources as Resources
use Rattle.image.specs.Bytes.{u8_at}
use Rattle.fit.specs.Fit.{Item, Fit}
use Rattle.promises.specs.Answers.{Outcome, entries_of}
use Rattle.promises.specs.Compare.{Grown, added_items, Stays}

-- the new fit is the old one with Cargo behind it, of any type and quantity; any number of results, unequal ones included
pub record Hauled (old new : Fit) : Type 0 where
  pub grown : Grown old new
  pub levels : new.levels ≡ old.levels
  pub cargo : (i : Item) → Memᴰ i (added_items old new) → i.slot ≡ Slots.cargo

-- an entry's bytes: CargoBay is rule 1 with sub 11
abbrev pub is_cargo_bay : List ℕ → Bool
is_cargo_bay e = eqb (u8_at e 1) 1 && eqb (u8_at e 2) (Resources.number CargoBay)

-- all entries that a call left but CargoBay and rule 26
abbrev pub outside_hold : Outcome → List (List ℕ)
outside_hold o = only (λ e. not (is_cargo_bay e || eqb (u8_at e 1) 26)) (entries_of o)

-- those of CargoBay
abbrev pub in_hold : Outcome → List (List ℕ)
in_hold o = only is_cargo_bay (entries_of o)

-- an entry that was there is there, its used number no lower
abbrev pub StaysIn : List (List ℕ) → List ℕ → Type 0
StaysIn new e = (e' : List ℕ) × Memᴰ e' new × Stays e e'
