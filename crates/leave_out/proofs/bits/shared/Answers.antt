-- `bits::shared` meets its contract: what the machine counts.
use Rattle.std.proofs.Common.{◌<◌, ◌^◌, refl, arith}
use lib.Bits.{bit_and, and_le_l}
use lib.Count.{ones-le}
use borrow.Author.Rules.{rules}
use Rattle.leave_out.proofs.bits.shared.Goals as goal

pub returns : goal.returns
returns c =
    let a = c.args in
    let small : a.a < 2 ^ 64 = search rules in
    let both : bit_and a.a a.b < 2 ^ 64 = omega (arith, and_le_l a.a a.b, small) in
    (refl, ones-le 64 (bit_and a.a a.b) both, small)
