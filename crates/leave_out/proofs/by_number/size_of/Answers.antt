-- `by_number::size_of` meets its contract: the bits that are set.
use Rattle.leave_out.proofs.Turning.{number-size}
use Rattle.leave_out.proofs.by_number.size_of.Goals as goal

pub returns : goal.returns
returns c = λ n h. number-size n c.args.number h
