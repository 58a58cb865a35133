-- The pairs of two images are a table of `pair_at`.
use Prim.Native.Nat.{ℕ, zero, suc, ◌+◌, min}
use native.Mathlib.Omega.{arith}
use mathlib.Core.Path.{◌≡◌, ap}
use mathlib.Core.List.{List, ◌∷◌}
use Rattle.words.specs.Words.{table_from, table}
use Rattle.catalogue.specs.Catalogue.{Catalogue, catalogue_of}
use Rattle.fit.specs.Fit as Fit
use Rattle.fit.specs.Fit.{Result, fit_of, item_count, result_count, item_at, result_of}
use Rattle.context.specs.Context.{Pair, pair_of, pairs_from, pairs}
use Rattle.context.specs.Gathered.{pair_count, pair_at, pairs_of}

module _ (c : Catalogue) (g : ℕ → Fit.Item) (h : ℕ → Result) where
  zipped : (i m n : ℕ) → pairs_from c i (table_from i m g) (table_from i n h) ≡ table_from i (min m n) (λ k. pair_of c k (g k) (h k))
  unfolding pairs_from table_from
  zipped i zero n = let e : min zero n ≡ 0 = omega arith in rw e
  zipped i (suc m) zero = let e : min (suc m) zero ≡ 0 = omega arith in rw e
  zipped i (suc m) (suc n) =
      let e : min (suc m) (suc n) ≡ suc (min m n) = omega arith in
      rw e (ap (λ (l : List Pair). pair_of c i (g i) (h i) ∷ l) (zipped (suc i) m n))

pub pairs-table : (catalogue fit : List ℕ) → pairs_of catalogue fit ≡ table (pair_count fit) (pair_at catalogue fit)
unfolding pairs_of pairs fit_of
pairs-table catalogue fit = zipped (catalogue_of catalogue) (item_at fit) (λ j. result_of fit (j + 2)) 0 (item_count fit) (result_count fit)
