-- `slot::validate` meets its contract. The invariant: what is written so far is said of the first i pairs.
use Prim.Native.Nat.{◌+◌, ◌*◌, ◌≤◌}
use Rattle.words.specs.Words.{each, table}
use Rattle.entry.specs.Emitted.{Emitted}
use Rattle.context.specs.Held.{pair_in, pairs_in, context_in}
use Rattle.slot.specs.Slot.{slot_checks}
use Rattle.slot.proofs.validate.Given as goal

abbrev pub invariant-loop-i : goal.invariant-loop-i
invariant-loop-i l =
    let x = l.fn.context in
    (l.entries.n ≤ l.initial.entries.n + 8 * l.i)
    × Emitted l.initial.entries l.entries (each (table l.i (pair_in x)) (slot_checks (context_in x) (pairs_in x)))
