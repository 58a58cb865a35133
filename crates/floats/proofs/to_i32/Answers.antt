-- `floats::to_i32` meets its contract: std's cast, and the law of any width at 31 bits and a sign.
use Rattle.std.proofs.Common.{rules, lit≤}
use Rattle.floats.proofs.Casts.{signed_stops}
use Rattle.floats.proofs.to_i32.Goals as goal

pub returns : goal.returns
returns c = signed_stops 31 (lit≤ tt) _ c.args.x (search rules)
