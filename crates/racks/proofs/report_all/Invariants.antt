-- `racks::report_all` meets its contract. The invariant: what is written so far is said of the first rows.
use Rattle.std.proofs.Common.{◌+◌, ◌≤◌, map, take}
use Rattle.words.specs.Words.{each}
use Rattle.entry.specs.Emitted.{Emitted}
use Rattle.context.specs.Held.{context_in, pairs_in}
use Rattle.racks.specs.Taking.{taken, row_of}
use Rattle.racks.proofs.report_all.Given as goal

abbrev pub invariant-loop-row : goal.invariant-loop-row
invariant-loop-row l =
    Emitted l.initial.entries l.entries (each (take l.row-index (map row_of l.rows)) (taken (context_in l.context) (pairs_in l.context)))
    × (l.entries.n ≤ l.initial.entries.n + l.row-index)
