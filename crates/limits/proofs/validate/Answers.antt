-- `limits::validate` meets its contract: the two lists, one after the other.
use native.Mathlib.Omega.{arith}
use Rattle.entry.proofs.Emitted.{emitted-append}
use Rattle.limits.proofs.validate.Goals as goal

pub returns : goal.returns
returns c =
    (emitted-append c.group_limits.ensures.0 c.type_limit.ensures.0, omega (arith, c.type_limit.ensures.1, c.group_limits.ensures.1))
