-- `program::number` meets its contract: the digits that `itoa` spells.
use Rattle.std.proofs.Common.{arith}
use Rattle.program.proofs.Decimal.{std-decimal}
use Rattle.program.proofs.number.Goals as goal

pub returns-clause-text : goal.returns-clause-text
returns-clause-text g c = cc (std-decimal c.args.n (omega arith))
