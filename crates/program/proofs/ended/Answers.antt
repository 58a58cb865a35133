-- `program::ended` meets its contract: a number, and a byte behind it.
use Rattle.std.proofs.Common.{append_assoc, arith}
use Rattle.program.specs.Text.{ended}
use Rattle.program.proofs.ended.Goals as goal

pub returns-clause-text : goal.returns-clause-text
unfolding ended
returns-clause-text g c = rw (c.push.ensures.ascii (omega arith), c.number.ensures.text, append_assoc)
