-- `item::any_flagged` meets its contract. The invariant: whether any of the ids passed is flagged.
use mathlib.Core.Path.{◌≡◌}
use Rattle.words.specs.Words.{any_of, table}
use Rattle.keys.specs.Keys.{key_at}
use Rattle.item.specs.Flags.{flag_of}
use Rattle.item.proofs.any_flagged.Given as goal

abbrev pub invariant-loop-k : goal.invariant-loop-k
invariant-loop-k l = l.found ≡ any_of (flag_of l.flags) (table l.k (key_at l.ids))
