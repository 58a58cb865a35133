-- `Window::mark_mode` meets its contract, by whether a mode is given.
use mathlib.Core.Path.{◌∙◌, refl, sym, ap}
use mathlib.Core.List.{List, [], ◌∷◌}
use mir.Syntax.{w32}
use mir.ValLaws.{to_z-of_z}
use borrow.Author.Rules.{rules}
use Rattle.std.specs.Prelude.{Option}
use Rattle.words.specs.Words.{given}
use Rattle.catalogue.specs.Catalogue.{Id}
use Rattle.trim.proofs.Marking.{more-none, more-same}
use Rattle.trim.proofs.window.Window.mark_mode.Goals as goal

-- the ids of a mode that may be given
abbrev ids_of : Option Id → List Id
ids_of o = given o [] (λ (m : Id). m ∷ [])

pub returns-in-Some : goal.returns-in-Some
unfolding given
returns-in-Some c =
    let z = to_z-of_z w32 c.in-Some.mode (search rules) in
    more-same _ _ _ _ (ap (λ (x : Id). x ∷ []) z ∙ ap ids_of (sym c.in-Some.is ∙ c.mode.ensures)) c.mark.ensures

pub returns-in_default : goal.returns-in_default
unfolding given
returns-in_default c = more-same _ _ _ _ (ap ids_of (sym c.in_default.is ∙ c.mode.ensures)) (more-none _ _ refl refl refl)
