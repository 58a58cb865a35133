-- `keys::ordered` meets its contract: four runs, then one by one. The invariant: the verdict so far is that of the first i keys.
use Rattle.std.proofs.Common.{◌≡◌, ◌*◌, nat_le}
use Rattle.words.specs.Words.{table, in_order}
use Rattle.image.specs.Bytes.{u32_at}
use Rattle.keys.specs.Keys.{sign, biased}
use Rattle.keys.proofs.ordered.Given as goal

abbrev pub invariant-loop-i : goal.invariant-loop-i
invariant-loop-i l = l.ok ≡ in_order nat_le (table l.i (λ j. biased sign (u32_at l.keys (4 * j))))
