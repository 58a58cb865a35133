-- The list on a hull and without one.
use Prim.Native.Nat.{ℕ}
use mathlib.Core.Path.{◌≡◌, refl, sym, ap, ◌∙◌}
use mathlib.Core.Bool.{true, false}
use mathlib.Core.List.{List, [], ◌∷◌, ◌++◌, append-nil}
use Rattle.words.specs.Words.{each}
use Rattle.entry.specs.declared.Entry.{Entry}
use Rattle.entry.specs.declared.Rule.TheVariants.{NotAHull}
use Rattle.entry.specs.Entries.{on_ship}
use Rattle.catalogue.specs.Catalogue.{Id, catalogue_of}
use Rattle.fit.specs.Fit.{fit_of, mode_of}
use Rattle.context.specs.Gathered.{context_of, pairs_of}
use Rattle.validate.specs.Kind.{is_hull, not_a_mode, not_a_skill}
use Rattle.validate.specs.Validate.{hull_rules, list_with, list_of}

module _ (catalogue fit : List ℕ) where
  pub on-hull : is_hull (catalogue_of catalogue) (fit_of fit).frame.ship ≡ true → (ids : List Id)
      → not_a_mode (catalogue_of catalogue) (mode_of (fit_of fit).frame) ++ not_a_skill (catalogue_of catalogue) ids
      ++ hull_rules (context_of catalogue fit) (pairs_of catalogue fit)
      ≡ list_with (catalogue_of catalogue) (fit_of fit).frame ids (pairs_of catalogue fit)
  unfolding list_with context_of
  on-hull e ids = rw e

  pub no_skills : is_hull (catalogue_of catalogue) (fit_of fit).frame.ship ≡ true
      → not_a_mode (catalogue_of catalogue) (mode_of (fit_of fit).frame) ++ hull_rules (context_of catalogue fit) (pairs_of catalogue fit)
      ≡ list_with (catalogue_of catalogue) (fit_of fit).frame [] (pairs_of catalogue fit)
  unfolding not_a_skill each
  no_skills e =
      let mode = not_a_mode (catalogue_of catalogue) (mode_of (fit_of fit).frame) in
      ap (λ (l : List Entry). l ++ hull_rules (context_of catalogue fit) (pairs_of catalogue fit)) (sym (append-nil mode)) ∙ on-hull e []

  pub no_hull : is_hull (catalogue_of catalogue) (fit_of fit).frame.ship ≡ false → (ids : List Id)
      → on_ship NotAHull ∷ [] ≡ list_with (catalogue_of catalogue) (fit_of fit).frame ids (pairs_of catalogue fit)
  unfolding list_with
  no_hull e ids = rw e

  pub of_fit_lem : list_with (catalogue_of catalogue) (fit_of fit).frame (fit_of fit).skills (pairs_of catalogue fit) ≡ list_of (catalogue_of catalogue) (fit_of fit)
  unfolding list_of pairs_of
  of_fit_lem = refl
