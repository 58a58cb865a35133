-- `keys::under` meets its contract: the quotient is 1 exactly where x is under y.
use Rattle.std.proofs.Common.{arith}
use Rattle.keys.proofs.Skips.{under-is}
use Rattle.keys.proofs.under.Goals as goal

pub returns : goal.returns
returns c = under-is c.args.x c.args.y (omega (arith, c.ranges.x)) (omega (arith, c.ranges.y))
