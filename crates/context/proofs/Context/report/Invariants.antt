-- `Context::report` meets its contract. The invariant: what is written so far is said of the first i pairs.
use Prim.Native.Nat.{◌+◌, ◌≤◌}
use mathlib.Core.Path.{◌≡◌}
use mathlib.Core.List.{List}
use Rattle.entry.specs.declared.Entry.{Entry}
use Rattle.context.specs.Context.{Pair}
use Rattle.context.specs.Gathered.{Says}
use Rattle.context.proofs.Loops.{Passed}
use Rattle.context.proofs.Context.report.Given as goal

abbrev pub invariant-loop-i : goal.invariant-loop-i
invariant-loop-i g l =
    (l.entries.out.ghost_name ≡ l.initial.entries.out.ghost_name)
    × (l.entries.n ≤ l.initial.entries.n + l.i)
    × ((rule : Pair → List Entry) → Says (goal.F-post g l.broken) rule l.self.catalogue.now l.self.fit.now
    → Passed l.self.catalogue.now l.self.fit.now rule l.initial.entries l.entries l.i)
