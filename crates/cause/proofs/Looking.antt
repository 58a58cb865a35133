-- Attributes by their names, rows by their numbers, and what another subsystem is: of what the look-ups found.
use Prim.Native.Nat.{ℕ}
use mathlib.Core.Path.{◌≡◌, refl, sym, ap, ◌∙◌}
use mathlib.Core.Bool.{Bool, false}
use mathlib.Core.List.{List}
use Rattle.std.specs.Prelude.{Option, None, Some}
use lib.Ieee.{Float}
use Rattle.words.specs.Words.{given}
use Rattle.numbers.specs.Names as Names
use Rattle.floats.specs.Floats.{zero_f}
use Rattle.catalogue.specs.Catalogue.{Id, catalogue_of}
use Rattle.catalogue.specs.Lookups.{name_id}
use Rattle.fit.specs.Fit.{Result, fit_of, result_of}
use Rattle.fit.specs.Lookups.{value, amount}
use Rattle.context.specs.Context.{Pair, Context, context}
use Rattle.context.specs.Gathered.{context_of}
use Rattle.slot.specs.Slot.{shares_part}
use Rattle.cause.specs.Members.{amount_of, covers}

-- what is made of what is there, and where nothing is
module _ {A B : Type 0} (o : Option A) (missing : B) (f : A → B) where
  pub made : (x : A) → o ≡ Some x → {r : B} → r ≡ f x → r ≡ given o missing f
  unfolding given
  made x e q = q ∙ sym (ap (λ (p : Option A). given p missing f) e)

  pub unmade : o ≡ None → missing ≡ given o missing f
  unfolding given
  unmade e = sym (ap (λ (p : Option A). given p missing f) e)

-- the names of two images
pub names-are : (catalogue fit : List ℕ) (name : ℕ) → name_id (context_of catalogue fit).names name ≡ name_id (catalogue_of catalogue).names name
unfolding context_of context
names-are catalogue fit name = refl

-- the results of the ship and the character
pub of_ship : (catalogue fit : List ℕ) → result_of fit 0 ≡ (context_of catalogue fit).ship_result
unfolding context_of context fit_of
of_ship catalogue fit = refl

pub of_character : (catalogue fit : List ℕ) → result_of fit 1 ≡ (context_of catalogue fit).character_result
unfolding context_of context fit_of
of_character catalogue fit = refl

module _ (x : Context) (name : ℕ) (r : Result) where
  pub amount-named : (id : Id) → name_id x.names name ≡ Some id → {v : Float} → v ≡ amount r id → v ≡ amount_of x name r
  unfolding amount_of
  amount-named id e q = made (name_id x.names name) zero_f (amount r) id e q

  pub amount-unnamed : name_id x.names name ≡ None → zero_f ≡ amount_of x name r
  unfolding amount_of
  amount-unnamed e = unmade (name_id x.names name) zero_f (amount r) e

module _ (x : Context) (p o : Pair) where
  abbrev part_name : Option Id
  part_name = name_id x.names Names.sub_system_slot

  abbrev by_part : Id → Bool
  by_part id = given (value p.result id) false λ part. shares_part id part p o

  pub covers-unnamed : part_name ≡ None → false ≡ covers x p o
  unfolding covers
  covers-unnamed e = unmade part_name false by_part e

  pub covers-missing : (id : Id) → part_name ≡ Some id → value p.result id ≡ None → false ≡ covers x p o
  unfolding covers
  covers-missing id e q = made part_name false by_part id e (unmade (value p.result id) false (λ part. shares_part id part p o) q)

  pub covers-is : (id : Id) (part : Float) → part_name ≡ Some id → value p.result id ≡ Some part
      → {b : Bool} → b ≡ shares_part id part p o → b ≡ covers x p o
  unfolding covers
  covers-is id part e q h =
      made part_name false by_part id e (made (value p.result id) false (λ part. shares_part id part p o) part q h)
