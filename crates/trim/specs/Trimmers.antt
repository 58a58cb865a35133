-- What a trimmer is of, and that it goes on being of it.
use Rattle.std.specs.Prelude.{ℕ, ◌≡◌, List, Result, Ok, is_err}
use Rattle.catalogue.specs.Catalogue.{Id, catalogue_of}
use Rattle.fit.specs.Fit.{fit_of}
use Rattle.skill.specs.declared.walk.TooMany.{TooMany}
use Rattle.trim.specs.Trim.{touched, any_too_many}
use Rattle.trim.specs.declared.trimmer.Trimmer.{Trimmer}

-- the ids that its fit touches
abbrev pub ids_in : Trimmer → List Id
ids_in t = touched (catalogue_of t.window.catalogue.now) (fit_of t.fit.now)

pub record SameImages (before after : Trimmer) : Type 0 where
  pub catalogue : after.window.catalogue.now ≡ before.window.catalogue.now
  pub fit : after.fit.now ≡ before.fit.now

-- one made of two images, where no result wants too many skills
pub record MadeOf (catalogue fit : List ℕ) (r : Result Trimmer TooMany) : Type 0 where
  pub many : is_err r ≡ any_too_many (catalogue_of catalogue) (fit_of fit)
  pub catalogue_same : (t : Trimmer) → r ≡ Ok t → t.window.catalogue.now ≡ catalogue
  pub fit_same : (t : Trimmer) → r ≡ Ok t → t.fit.now ≡ fit
