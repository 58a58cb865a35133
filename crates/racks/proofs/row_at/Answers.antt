-- `racks::row_at` meets its contract: by the table in which the number is.
use Rattle.std.proofs.Common.{rules, arith}
use Rattle.racks.proofs.Taking.{rack_found, hardpoint_found}
use Rattle.racks.proofs.row_at.Goals as goal

pub returns-then-i-lt6 : goal.returns-then-i-lt6
returns-then-i-lt6 c = rack_found c.args.number (omega (arith, c.if-i-lt6.true)) (search rules)

pub returns : goal.returns
returns c = hardpoint_found c.args.number (omega (arith, c.if-i-lt6.false)) (search rules)
