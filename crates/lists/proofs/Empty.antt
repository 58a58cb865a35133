-- Whether the whole list is empty: the Rust's is, and no type is missing.
use Prim.Native.Nat.{ℕ, ◌≤◌}
use native.Mathlib.Omega.{arith}
use mathlib.Core.Path.{◌≡◌, refl, sym, ap, ◌∙◌, subst}
use mathlib.Core.Bool.{Bool, true, false, cond}
use mathlib.Core.List.{List, ◌++◌}
use lib.ListN.{length, length-append}
use Rattle.words.specs.Words.{is_empty}
use Rattle.catalogue.specs.Catalogue.{Catalogue, catalogue_of}
use Rattle.fit.specs.Fit.{Fit, fit_of}
use Rattle.context.specs.Context.{pairs}
use Rattle.context.specs.Gathered.{pairs_of}
use Rattle.validate.specs.Kind.{is_hull}
use Rattle.validate.specs.Validate.{list_with, list_of}
use Rattle.validate.proofs.Empty.{empty-length, off_hull_some}
use Rattle.lists.specs.Terms.{main}
use Rattle.lists.specs.Unknown.{unknown_types}
use Rattle.lists.specs.Lists.{on_hull, league_of, league_with, whole_with, whole_list}
use Rattle.lists.proofs.Behind.{whole_on_hull, no_league}

-- it has the Rust's entries, whatever stands behind them
pub whole_longer : (c : Catalogue) (f : Fit) → length (list_of c f) ≤ length (whole_list main c f)
unfolding list_of whole_list whole_with league_with
whole_longer c f =
    let k = f.frame in
    let ps = pairs c f in
    let es = list_with c k f.skills ps in
    let ls = on_hull c k (league_of main ps) in
    omega (arith, length-append es ls, length-append (es ++ ls) (on_hull c k (unknown_types c ps)))

module _ (catalogue fit : List ℕ) (clear : is_empty (list_of (catalogue_of catalogue) (fit_of fit)) ≡ true) where
  -- a ship that is no hull is listed
  on-a_hull : is_hull (catalogue_of catalogue) (fit_of fit).frame.ship ≡ true
  on-a_hull = go (is_hull (catalogue_of catalogue) (fit_of fit).frame.ship) refl
    where
      go : (b : Bool) → is_hull (catalogue_of catalogue) (fit_of fit).frame.ship ≡ b → b ≡ true
      go true e = refl
      go false e = absurd (subst (λ (t : Bool). cond t ⊥ (Prim.Unit {0})) (sym (off_hull_some catalogue fit e) ∙ clear) tt)

  pub whole_length : length (whole_list main (catalogue_of catalogue) (fit_of fit)) ≡ length (unknown_types (catalogue_of catalogue) (pairs_of catalogue fit))
  whole_length =
      let es = list_of (catalogue_of catalogue) (fit_of fit) in
      let us = unknown_types (catalogue_of catalogue) (pairs_of catalogue fit) in
      let ls = league_of main (pairs_of catalogue fit) in
      let None : length ls ≡ 0 = ap length (no_league 0 (pairs_of catalogue fit)) in
      rw (sym (whole_on_hull catalogue fit main on-a_hull))
      (omega (arith, length-append (es ++ ls) us, length-append es ls, None, empty-length es clear))
