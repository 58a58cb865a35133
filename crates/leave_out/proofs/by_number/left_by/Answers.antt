-- `by_number::left_by` meets its contract: the other bits.
use Rattle.std.proofs.Common.{◌≡◌, ◌-◌, ◌^◌, ℕ, ap}
use Rattle.leave_out.proofs.Turning.{left-flags, left-none}
use Rattle.leave_out.proofs.by_number.left_by.Goals as goal

pub returns : goal.returns
returns c =
    let a = c.args in
    let w = c.sets-all.result - 1 - a.number in
    let is : w ≡ 2 ^ a.n - 1 - a.number = ap (λ (k : ℕ). k - 1 - a.number) c.sets-all.ensures.0 in
    (left-flags a.n a.number w c.requires.0 c.requires.1 is, left-none a.n a.number w c.requires.0 c.requires.1 is)
