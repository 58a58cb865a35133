-- `slot::shares_part` meets its contract. The invariant: the answer so far is that of the first j pairs.
use mathlib.Core.Path.{◌≡◌}
use Rattle.words.specs.Words.{table, any_of}
use Rattle.context.specs.Held.{pair_in}
use Rattle.slot.specs.Slot.{shares_part}
use Rattle.slot.proofs.shares_part.Given as goal

abbrev pub invariant-loop-j : goal.invariant-loop-j
invariant-loop-j l =
    let pair = pair_in l.context in
    l.found ≡ any_of (shares_part l.id l.part (pair l.i)) (table l.j pair)
