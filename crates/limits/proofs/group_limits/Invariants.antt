-- `limits::group_limits` meets its contract. The invariant: what the rows passed say was written, at most 256 entries each.
use Prim.Native.Nat.{◌+◌, ◌*◌, ◌≤◌}
use lib.ListN.{take}
use Rattle.words.specs.Words.{each}
use Rattle.entry.specs.Emitted.{Emitted}
use Rattle.context.specs.Held.{context_in, pairs_in}
use Rattle.limits.specs.Limits.{group_limit_rows, group_limit}
use Rattle.limits.proofs.group_limits.Given as goal

abbrev pub invariant-loop-row : goal.invariant-loop-row
invariant-loop-row l =
    (l.entries.n ≤ l.initial.entries.n + 256 * l.row-index)
    × Emitted l.initial.entries l.entries (each (take l.row-index group_limit_rows) (group_limit (context_in l.fn.context) (pairs_in l.fn.context)))
