-- `floats::to_u32` meets its contract: std's cast, and the law of any width at 32 bits.
use Rattle.std.proofs.Common.{rules, lit≤}
use Rattle.floats.proofs.Casts.{unsigned_stops}
use Rattle.floats.proofs.to_u32.Goals as goal

pub returns : goal.returns
returns c = unsigned_stops 32 (lit≤ tt) _ c.args.x (search rules)
