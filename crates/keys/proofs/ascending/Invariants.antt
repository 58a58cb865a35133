-- `keys::ascending` meets its contract. The invariant: the verdict so far is that of the first i keys.
use Rattle.std.proofs.Common.{◌≡◌, ◌*◌, ◌≤◌, max, nat_lt}
use Rattle.words.specs.Words.{table, in_order}
use Rattle.image.specs.Bytes.{u32_at}
use Rattle.keys.specs.Keys.{biased}
use Rattle.keys.proofs.ascending.Given as goal

abbrev pub invariant-loop-i : goal.invariant-loop-i
invariant-loop-i l = (l.i ≤ max l.n 1) × (l.ok ≡ in_order nat_lt (table l.i (λ j. biased l.bias (u32_at l.keys (4 * j)))))
