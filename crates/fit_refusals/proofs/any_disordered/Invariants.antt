-- `fit_refusals::any_disordered` meets its contract. The invariant: the verdict so far is that of the first j results, and `start` is where the next one's ids begin.
use Rattle.std.proofs.Common.{◌≡◌}
use Rattle.words.specs.Words.{any_of, table}
use Rattle.fit.specs.Fit.{start_at, result_of}
use Rattle.fit.proofs.Soundness.{disordered}
use Rattle.fit_refusals.proofs.any_disordered.Given as goal

abbrev pub invariant-loop-j : goal.invariant-loop-j
invariant-loop-j l = (l.start ≡ start_at l.layout l.j) × (l.bad ≡ any_of disordered (table l.j (result_of l.layout)))
