-- `best::is_smaller` meets its contract.
use Rattle.std.proofs.Common.{ap₂}
use lib.Dec.{ltb}
use Rattle.leave_out.proofs.best.is_smaller.Goals as goal

pub returns : goal.returns
returns c = ap₂ ltb c.count.ensures.0 c.count-2.ensures.0
