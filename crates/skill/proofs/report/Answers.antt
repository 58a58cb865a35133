-- `skill::report` meets its contract. The invariant: the entries of the first i skills are written, at most one each.
use lib.IntN.{pos}
use lib.ListN.{get_or}
use mir.Syntax.{w32}
use mir.ValLaws.{to_z-of_z}
use native.Mathlib.Omega.{arith}
use mathlib.Core.Path.{refl, ap}
use borrow.Author.Rules.{rules}
use Rattle.fit.specs.Fit.{fit_of}
use Rattle.entry.proofs.Emitted.{emitted-same, emitted-table_none, emitted-table_next, emitted-table_all}
use Rattle.skill.specs.Skill.{entry_of}
use Rattle.skill.specs.Held.{zip_to, held_at}
use Rattle.skill.proofs.Zips.{pair_eq}
use Rattle.skill.proofs.Reports.{few-entry}
use Rattle.skill.proofs.report.Goals as goal

pub loop-i-init : goal.loop-i-init
unfolding zip_to
loop-i-init c =
    let a = c.args in
    let w = a.walk in
    (emitted-table_none (entry_of (fit_of a.fit.now) a.res) (held_at w.ids w.levels) _, omega arith)

pub loop-i-preserved : goal.loop-i-preserved
unfolding zip_to
loop-i-preserved c =
    let l = c.loop-i in
    let a = c.args in
    let w = a.walk in
    let f = entry_of (fit_of a.fit.now) a.res in
    let skill = get_or w.ids l.i (pos 0) in
    let e = pair_eq (to_z-of_z w32 skill (search rules)) (refl {a = get_or w.levels l.i 0}) in
    let r = emitted-same (ap f e) c.report_skill.ensures in
    let few = few-entry (fit_of a.fit.now) a.res (held_at w.ids w.levels l.i) in
    (emitted-table_next f (held_at w.ids w.levels) l.i l.invariant.0 r, omega (arith, r.count, few, l.invariant.1))

pub report_skill-requires : goal.report_skill-requires
report_skill-requires c =
    let l = c.loop-i in
    (omega (arith, c.requires.0, c.is_sound.ensures.sized.results), omega (arith, l.invariant.1, c.args.walk.few, c.loop-i-test.true, c.requires.1))

pub returns : goal.returns
unfolding zip_to
returns c =
    let l = c.loop-i in
    let a = c.args in
    let w = a.walk in
    let f = entry_of (fit_of a.fit.now) a.res in (
      emitted-table_all f (held_at w.ids w.levels) l.auto.i-end c.loop-i-test.false l.invariant.0,
      omega (arith, l.auto.i-end, l.invariant.1, w.few),
    )
