-- Counts above what a ship has, rack by rack.
use Prim.Native.Nat.{ℕ, ◌+◌}
use native.Mathlib.Omega.{arith}
use mathlib.Core.Path.{◌≡◌, refl}
use Rattle.words.specs.Words.{given, sum_of, table_from, from}
use Rattle.words.proofs.Tables.{sum_more}
use Rattle.catalogue.specs.Catalogue.{catalogue_of}
use Rattle.fit.specs.Fit.{fit_of}
use Rattle.context.specs.declared.Context.{Context as Held}
use Rattle.context.specs.Context.{context}
use Rattle.context.specs.Gathered.{context_of, pairs_of}
use Rattle.racks.specs.Racks.{RACKS}
use Rattle.racks.specs.Taking.{takes}
use Rattle.leave_out.specs.LeaveOut.{above}
use Rattle.leave_out.specs.Held.{above_at, above_in, surplus_in}

module _ (x : Held) where
  -- the code's sum over the racks by their numbers is the definition's
  pub surplus-same : surplus_in x ≡ sum_of (above (catalogue_of x.catalogue.now) (fit_of x.fit.now)) RACKS
  unfolding above above_at given sum_of table_from takes context_of context pairs_of
  surplus-same = refl

  pub sum-next : (k sum one : ℕ) → sum ≡ sum_of (above_in x) (from 0 k) → one ≡ above_in x k → sum + one ≡ sum_of (above_in x) (from 0 (k + 1))
  sum-next k sum one e h = omega (arith, e, h, sum_more (λ (j : ℕ). j) (above_in x) k)

  pub sum_none : 0 ≡ sum_of (above_in x) (from 0 0)
  unfolding sum_of table_from
  sum_none = refl
