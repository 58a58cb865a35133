-- What stands behind the Rust's list: on a hull the rules of document 02, else nothing; and of a league nothing without a profile.
use Prim.Native.Nat.{ℕ}
use mathlib.Core.Path.{◌≡◌, refl, sym, ap, ◌∙◌}
use mathlib.Core.Bool.{Bool, true, false, cond}
use mathlib.Core.List.{List, [], ◌++◌, append-nil}
use Rattle.words.specs.Words.{table_from}
use Rattle.image.specs.Bytes.{u32_at}
use Rattle.profile.specs.Profile.{prices_of}
use Rattle.catalogue.specs.Catalogue.{Catalogue, catalogue_of}
use Rattle.fit.specs.Fit.{Fit, fit_of}
use Rattle.entry.specs.declared.Entry.{Entry}
use Rattle.context.specs.Context.{Pair, pairs}
use Rattle.context.specs.Gathered.{pairs_of}
use Rattle.league.proofs.Without.{no_profile}
use Rattle.validate.specs.Kind.{is_hull}
use Rattle.validate.specs.Validate.{list_of}
use Rattle.lists.specs.Terms.{Terms, terms}
use Rattle.lists.specs.Unknown.{unknown_types}
use Rattle.lists.specs.Lists.{on_hull, league_of, league_with, whole_with, league_list, whole_list, for_reader, list_for}
use Rattle.lists.proofs.Guests.{for_behind}

module _ (catalogue fit : List ℕ) (t : Terms) where
  pub whole_on_hull : is_hull (catalogue_of catalogue) (fit_of fit).frame.ship ≡ true
      → list_of (catalogue_of catalogue) (fit_of fit) ++ league_of t (pairs_of catalogue fit) ++ unknown_types (catalogue_of catalogue) (pairs_of catalogue fit)
      ≡ whole_list t (catalogue_of catalogue) (fit_of fit)
  unfolding whole_list whole_with league_with on_hull list_of pairs_of
  whole_on_hull e = rw e

  whole_off_hull : is_hull (catalogue_of catalogue) (fit_of fit).frame.ship ≡ false
      → list_of (catalogue_of catalogue) (fit_of fit) ≡ whole_list t (catalogue_of catalogue) (fit_of fit)
  unfolding whole_list whole_with league_with on_hull list_of
  whole_off_hull e = rw e (sym (append-nil _ ∙ append-nil _))

  pub on-hull : is_hull (catalogue_of catalogue) (fit_of fit).frame.ship ≡ true
      → for_reader t.reader (list_of (catalogue_of catalogue) (fit_of fit))
      ++ league_of t (pairs_of catalogue fit) ++ unknown_types (catalogue_of catalogue) (pairs_of catalogue fit)
      ≡ list_for t (catalogue_of catalogue) (fit_of fit)
  unfolding list_for
  on-hull e =
      sym (for_behind t.reader t (catalogue_of catalogue) (list_of (catalogue_of catalogue) (fit_of fit)) (pairs_of catalogue fit))
      ∙ ap (for_reader t.reader) (whole_on_hull e)

  pub no_hull : is_hull (catalogue_of catalogue) (fit_of fit).frame.ship ≡ false
      → for_reader t.reader (list_of (catalogue_of catalogue) (fit_of fit)) ≡ list_for t (catalogue_of catalogue) (fit_of fit)
  unfolding list_for
  no_hull e = ap (for_reader t.reader) (whole_off_hull e)

pub no_league : (allowance : ℕ) (ps : List Pair) → league_of (terms [] allowance) ps ≡ []
unfolding prices_of table_from u32_at
no_league allowance ps = no_profile allowance ps

-- what stands before rule 26 is the Rust's list, without a profile
pub rust_list_lem : (allowance : ℕ) (c : Catalogue) (f : Fit) → league_list (terms [] allowance) c f ≡ list_of c f
unfolding league_list league_with on_hull list_of
rust_list_lem allowance c f = ap (λ (es : List Entry). list_of c f ++ es) (go (is_hull c f.frame.ship)) ∙ append-nil _
  where
    go : (b : Bool) → cond b (league_of (terms [] allowance) (pairs c f)) [] ≡ []
    go true = no_league allowance (pairs c f)
    go false = refl
