-- What marking does to a window.
use Rattle.std.specs.Prelude.{ℕ, ◌+◌, ◌<◌, ◌≡◌, Bool, ◌||◌, List, [], ◌++◌, Result, is_err, IsOk}
use Rattle.words.specs.Words.{each}
use Rattle.marks.specs.Marks.{is_marked}
use Rattle.catalogue.specs.Catalogue.{Id, catalogue_of}
use Rattle.fit.specs.Fit.{fit_of, all_results}
use Rattle.skill.specs.declared.walk.TooMany.{TooMany}
use Rattle.trim.specs.Trim.{wanted_ids, touched, any_too_many}
use Rattle.trim.specs.Marked.{Marked, window}
use Rattle.trim.specs.declared.window.Window.{Window}

-- the places that pass a test are marked with those that were
pub record MarkedAt (before after : Window) (t : ℕ → Bool) : Type 0 where
  pub catalogue : after.catalogue.now ≡ before.catalogue.now
  pub low : after.low ≡ before.low
  pub marks : (j : ℕ) → j < window → is_marked after.marks.now j ≡ is_marked before.marks.now j || t (before.low + j)

-- the runs of some ids are marked with those of others
pub record MarkedMore (before after : Window) (ids : List Id) : Type 0 where
  pub catalogue : after.catalogue.now ≡ before.catalogue.now
  pub low : after.low ≡ before.low
  pub marks : (others : List Id) → Marked before.catalogue.now others before.low before.marks.now
      → Marked before.catalogue.now (others ++ ids) before.low after.marks.now

-- the runs of what all results of the fit of an image want are marked with others, where none wants too many skills
pub record MarkedWanted (before after : Window) (fit : List ℕ) (r : Result (Unit {0}) TooMany) : Type 0 where
  pub many : is_err r ≡ any_too_many (catalogue_of before.catalogue.now) (fit_of fit)
  pub catalogue : after.catalogue.now ≡ before.catalogue.now
  pub low : after.low ≡ before.low
  pub marks : IsOk r → MarkedMore before after (each (all_results (fit_of fit)) (wanted_ids (catalogue_of before.catalogue.now)))

-- no run is marked, and the window begins at a place
pub record Cleared (before after : Window) (place : ℕ) : Type 0 where
  pub catalogue : after.catalogue.now ≡ before.catalogue.now
  pub low : after.low ≡ place
  pub marks : Marked before.catalogue.now [] place after.marks.now

-- the window from a place on, marked for all that the fit of an image touches, where no result wants too many skills
pub record Filled (before after : Window) (fit : List ℕ) (place : ℕ) (r : Result (Unit {0}) TooMany) : Type 0 where
  pub catalogue : after.catalogue.now ≡ before.catalogue.now
  pub low : after.low ≡ place
  pub many : is_err r ≡ any_too_many (catalogue_of before.catalogue.now) (fit_of fit)
  pub marks : IsOk r → Marked before.catalogue.now (touched (catalogue_of before.catalogue.now) (fit_of fit)) place after.marks.now
