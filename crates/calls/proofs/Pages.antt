-- Pages: how many pairs a fit has beside a limit, and that no list reads a limit.
use Prim.Native.Nat.{ℕ, ◌≤◌, ◌<◌}
use native.Mathlib.Omega.{arith}
use mathlib.Core.Path.{◌≡◌, refl, ap, ◌∙◌}
use mathlib.Core.Bool.{true, false}
use mathlib.Core.List.{List}
use lib.ListN.{length}
use borrow.Author.Tests.{lt-ltb, le-ltb}
use Rattle.words.proofs.Tables.{length-table}
use Rattle.catalogue.specs.Catalogue.{Catalogue, catalogue_of}
use Rattle.fit.specs.Fit.{Fit, fit_of}
use Rattle.fit.specs.Sound as Fit
use Rattle.context.specs.Context.{Pair, pairs}
use Rattle.context.specs.Gathered.{pair_count, pair_at, pairs_of}
use Rattle.context.proofs.Pairs.{pairs-table}
use Rattle.lists.specs.Terms.{Terms, limited, read_by}
use Rattle.lists.specs.Lists.{league_with, whole_with, whole_list, for_reader, list_for}
use Rattle.calls.specs.Answers.{over_pairs}

pub pairs-length : (catalogue fit : List ℕ) → length (pairs (catalogue_of catalogue) (fit_of fit)) ≡ pair_count fit
unfolding pairs_of
pairs-length catalogue fit =
    ap (λ (l : List Pair). length l) (pairs-table catalogue fit) ∙ length-table 0 (pair_count fit) (pair_at catalogue fit)

module _ (t : Terms) (catalogue fit : List ℕ) where
  pub over-pairs : t.pairs < pair_count fit → over_pairs t (catalogue_of catalogue) (fit_of fit) ≡ true
  over-pairs h = lt-ltb _ (length (pairs (catalogue_of catalogue) (fit_of fit))) (omega (arith, h, pairs-length catalogue fit))

  -- a limit above the main page's is not passed either: there are no more pairs than that
  pub pairs-within : Fit.Sound fit → pair_count fit ≤ t.pairs → over_pairs t (catalogue_of catalogue) (fit_of fit) ≡ false
  pairs-within sound h = le-ltb _ (length (pairs (catalogue_of catalogue) (fit_of fit))) (omega (arith, h, pairs-length catalogue fit, sound.sized.items))

-- no list reads a limit, and the whole list no reader
pub whole_unread : (t : Terms) (reader pairs skills : ℕ) (c : Catalogue) (f : Fit) → whole_list t c f ≡ whole_list (read_by reader (limited pairs skills t)) c f
unfolding whole_list whole_with league_with
whole_unread t reader pairs skills c f = refl

pub limits_unread : (t : Terms) (pairs skills : ℕ) (c : Catalogue) (f : Fit) → list_for t c f ≡ list_for (limited pairs skills t) c f
unfolding list_for
limits_unread t pairs skills c f = ap (for_reader t.reader) (whole_unread t t.reader pairs skills c f)
