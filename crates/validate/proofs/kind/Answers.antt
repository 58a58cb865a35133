-- `validate::kind` meets its contract: the mode, then the skills.
use native.Mathlib.Omega.{arith}
use Rattle.entry.proofs.Emitted.{emitted-append}
use Rattle.validate.proofs.kind.Goals as goal

pub returns : goal.returns
returns c =
    (emitted-append c.not_a_mode.ensures.0 c.not_a_skill.ensures.0, omega (arith, c.not_a_mode.ensures.1, c.not_a_skill.ensures.1))
