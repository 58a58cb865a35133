-- `calls::skill_list` meets its contract: the list is written where there is room for any, else counted first.
use native.Mathlib.Omega.{arith}
use mathlib.Core.Path.{refl}
use Rattle.entry.proofs.Wrote.{wrote_count}
use Rattle.fit.specs.Fit.{fit_of}
use Rattle.skill.specs.Skill.{reported}
use Rattle.skill.specs.Held.{walk_of}
use Rattle.calls.proofs.Giving.{gave_short, gave_list}
use Rattle.calls.proofs.skill_list.Goals as goal

pub returns-then-out-ge-ANY_SKILL_LIST : goal.returns-then-out-ge-ANY_SKILL_LIST
returns-then-out-ge-ANY_SKILL_LIST c =
    let w = c.write.ensures in
    let a = c.args in
    gave_list (reported (fit_of a.fit.now) a.res (walk_of a.walk)) (omega (arith, w.1, wrote_count w.0, c.if-out-ge-ANY_SKILL_LIST.true)) w.0

pub returns-then-out-missing : goal.returns-then-out-missing
returns-then-out-missing c =
    let w = c.write-missing.ensures in
    let a = c.args in
    gave_short (reported (fit_of a.fit.now) a.res (walk_of a.walk)) (omega (arith, wrote_count w.0, c.if-out-missing.true)) refl

pub returns : goal.returns
returns c =
    let w = c.write-2.ensures in
    let v = c.write-missing.ensures in
    let a = c.args in
    gave_list (reported (fit_of a.fit.now) a.res (walk_of a.walk)) (omega (arith, wrote_count v.0, c.if-out-missing.false)) w.0
