-- `skill::report` meets its contract. The invariant: the entries of the first i skills are written, at most one each.
use Prim.Native.Nat.{◌+◌, ◌≤◌}
use Rattle.words.specs.Words.{each}
use Rattle.fit.specs.Fit.{fit_of}
use Rattle.entry.specs.Emitted.{Emitted}
use Rattle.skill.specs.Skill.{entry_of}
use Rattle.skill.specs.Held.{held_of}
use Rattle.skill.proofs.report.Given as goal

abbrev pub invariant-loop-i : goal.invariant-loop-i
invariant-loop-i l =
    Emitted l.initial.entries l.entries (each (held_of l.walk.ids l.walk.levels l.i) (entry_of (fit_of l.fit) l.res)) × (l.entries.n ≤ l.initial.entries.n + l.i)
