-- `Context::new`: the pairs of two images, and what is gathered of them once per call.
use Rattle.std.specs.Prelude.{ℕ, ◌+◌, ◌<◌, min, ◌≡◌, Bool, List, slice_get}
use Rattle.std.specs.Prelude.{Option, None, Some}
use Rattle.words.specs.Words.{given}
use Rattle.catalogue.specs.Catalogue.{Id, Catalogue, catalogue_of}
use Rattle.catalogue.specs.Lookups.{type_of, rack_of, hardpoint_of}
use Rattle.catalogue.specs.Answers.{info_of_type}
use Rattle.catalogue.specs.declared.TypeInfo.{TypeInfo}
use Rattle.fit.specs.Fit.{item_count, result_count, item_at, result_of, fit_of}
use Rattle.catalogue.specs.Sound as CatalogueSound
use Rattle.fit.specs.Sound as Fit
use Rattle.context.specs.declared.PairFacts.{PairFacts}
use Rattle.entry.specs.declared.Entry.{Entry}
use Rattle.entry.specs.declared.Rule.{Rule}
use Rattle.context.specs.Context.{Pair, said, pair_of, pairs, Context, context}

-- document 01: pairs are the first min(F, R)
abbrev pub pair_count : List ℕ → ℕ
pair_count fit = min (item_count fit) (result_count fit)

-- pair i of two images
abbrev pub pair_at : (catalogue fit : List ℕ) → ℕ → Pair
pair_at catalogue fit i = pair_of (catalogue_of catalogue) i (item_at fit i) (result_of fit (i + 2))

unfoldable pub pairs_of : (catalogue fit : List ℕ) → List Pair
pairs_of catalogue fit = pairs (catalogue_of catalogue) (fit_of fit)

unfoldable pub context_of : (catalogue fit : List ℕ) → Context
context_of catalogue fit = context (catalogue_of catalogue) (fit_of fit).frame

-- what a test by pair index answers is what a test of pairs does
abbrev pub Tests : (ℕ → Bool → Type 0) → (Pair → Bool) → (catalogue fit : List ℕ) → Type 0
Tests answers t catalogue fit = (i : ℕ) (b : Bool) → i < pair_count fit → answers i b → b ≡ t (pair_at catalogue fit i)

-- what is said of a pair by its index is what a rule of pairs says
abbrev pub Says : (ℕ → Option Rule → Type 0) → (Pair → List Entry) → (catalogue fit : List ℕ) → Type 0
Says answers rule catalogue fit = (i : ℕ) (r : Option Rule) → i < pair_count fit → answers i r → said (pair_at catalogue fit i) r ≡ rule (pair_at catalogue fit i)

-- what the type lookup answers, if the type is there
abbrev pub answer_of : Catalogue → Id → Option TypeInfo
answer_of c id = given (type_of c id) None (λ x. Some (info_of_type x))

-- ---- the facts: all that a call gathers
-- what the catalogue says of a type: the marks stand by its id
abbrev pub facts_of : Catalogue → Id → PairFacts
facts_of c id = record { info = answer_of c id; marks = record { rack = rack_of c id; hardpoint = hardpoint_of c id } }

-- the facts of the first n pairs
abbrev pub Pairs : (catalogue fit : List ℕ) → ℕ → List PairFacts → Type 0
Pairs catalogue fit n facts = (i : ℕ) → i < n → slice_get facts i ≡ Some (facts_of (catalogue_of catalogue) (pair_at catalogue fit i).type)

-- both images are accepted, and the facts are theirs
pub record Gathered (catalogue fit : List ℕ) (of_ship : Option TypeInfo) (of_pairs : List PairFacts) : Type 0 where
  pub catalogue_sound : CatalogueSound.Sound catalogue
  pub fit_sound : Fit.Sound fit
  pub ship : of_ship ≡ answer_of (catalogue_of catalogue) (fit_of fit).frame.ship
  pub pairs : Pairs catalogue fit (pair_count fit) of_pairs
