-- `resource::loads` meets its contract. The invariant: the first rows are listed, at most one entry each.
use Rattle.std.proofs.Common.{◌+◌, ◌≤◌, take}
use Rattle.words.specs.Words.{each}
use Rattle.entry.specs.Emitted.{Emitted}
use Rattle.context.specs.Held.{context_in}
use Rattle.resource.specs.Resource.{LOADS, load_of}
use Rattle.resource.proofs.loads.Given as goal

abbrev pub invariant-loop-row : goal.invariant-loop-row
invariant-loop-row l =
    Emitted l.initial.entries l.entries (each (take l.row-index LOADS) (load_of (context_in l.context)))
    × (l.entries.n ≤ l.initial.entries.n + l.row-index)
