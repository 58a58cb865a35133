-- `Prepared::shares_slot` meets its contract. The invariant: the count so far tells whether another pair is among the first j.
use Prim.Native.Nat.{◌≤◌}
use Rattle.words.specs.Words.{table, any_of}
use Rattle.context.specs.Held.{pair_in}
use Rattle.slot.specs.Slot.{shares_slot}
use Rattle.slot.proofs.Sharing.{Told}
use Rattle.slot.proofs.Prepared.shares_slot.Given as goal

abbrev pub invariant-loop-j : goal.invariant-loop-j
invariant-loop-j l =
    let pair = pair_in l.self.context.now in
    (l.there ≤ l.j) × Told l.i l.j l.there (any_of (shares_slot (pair l.i)) (table l.j pair))
