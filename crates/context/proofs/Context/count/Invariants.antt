-- `Context::count` meets its contract. The invariant: the first i pairs are counted.
use Rattle.std.proofs.Common.{◌≡◌, ◌≤◌, Bool}
use Rattle.words.specs.Words.{table, count_of}
use Rattle.context.specs.Context.{Pair}
use Rattle.context.specs.Gathered.{pair_at, Tests}
use Rattle.context.proofs.Context.count.Given as goal

abbrev pub invariant-loop-i : goal.invariant-loop-i
invariant-loop-i g l =
    (l.n ≤ l.i) × ((t : Pair → Bool) → Tests (goal.F-post g l.test) t l.self.catalogue.now l.self.fit.now → l.n ≡ count_of t (table l.i (pair_at l.self.catalogue.now l.self.fit.now)))
