-- `keys::four_runs` meets its contract. The invariant: a fall was noted where the first i keys of some run are in no order.
use Rattle.std.proofs.Common.{◌≡◌, ◌*◌, nat_le, not}
use Rattle.image.specs.Bytes.{u32_at}
use Rattle.keys.specs.Keys.{sign, biased}
use Rattle.keys.proofs.Orders.{runs}
use Rattle.keys.proofs.four_runs.Given as goal

abbrev pub invariant-loop-i : goal.invariant-loop-i
invariant-loop-i l = not l.fall ≡ runs nat_le (λ j. biased sign (u32_at l.keys (4 * j))) l.h l.i
