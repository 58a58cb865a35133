-- `words::same_id` meets its contract: the machine compares bits.
use Rattle.words.proofs.Ids.{bits_same}
use Rattle.words.proofs.same_id.Goals as goal

pub returns : goal.returns
returns c = bits_same c.args.a c.args.b c.ranges.a c.ranges.b
