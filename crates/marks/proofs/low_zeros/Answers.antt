-- `marks::low_zeros` meets its contract: what the machine counts.
use lib.Count.{trailing_le}
use mir.Syntax.{w64}
use borrow.Author.Rules.{rules}
use Rattle.std.proofs.lemmas.Nat.Bits.{bit_at-trailing_zeros}
use Rattle.marks.proofs.Bits.{low-none, low-here}
use Rattle.marks.proofs.low_zeros.Goals as goal

pub overflow_cast-result : goal.overflow_cast-result
overflow_cast-result c = search (rules, trailing_le 64 c.args.x)

pub returns : goal.returns
returns c = (trailing_le 64 c.args.x, low-none 64 c.args.x, low-here 64 c.args.x, λ h. (bit_at-trailing_zeros w64 c.args.x h (search rules)).0)
