-- `skill::target_of` meets its contract, by the result's number.
use Rattle.skill.proofs.Reports.{target_ship, target_item}
use native.Mathlib.Omega.{arith}
use Rattle.skill.proofs.target_of.Goals as goal

pub returns-then-res-lt2 : goal.returns-then-res-lt2
returns-then-res-lt2 c = target_ship c.args.res (omega (arith, c.if-res-lt2.true))

pub returns : goal.returns
returns c = target_item c.args.res _ (omega (arith, c.if-res-lt2.false))
