-- `validate::one_by_one` meets its contract. The invariant: whatever was written before, the skills up to i are looked at.
use native.Mathlib.Omega.{arith}
use mathlib.Core.Path.{ap, ◌∙◌}
use mir.Syntax.{w32}
use mir.ValLaws.{to_z-of_z}
use Rattle.catalogue.specs.Catalogue.{catalogue_of}
use Rattle.entry.proofs.Emitted.{emitted-table_next, emitted-same}
use Rattle.validate.specs.Kind.{not_a_skill_at}
use Rattle.validate.specs.Skills.{skill_at}
use Rattle.validate.proofs.Tests.{skill-few}
use Rattle.validate.proofs.one_by_one.Goals as goal

pub loop-i-preserved : goal.loop-i-preserved
loop-i-preserved c =
    let a = c.args.context.now in
    let x = catalogue_of a.catalogue.now in
    let f = not_a_skill_at x in
    let k = c.skill_id in
    let e = emitted-same (ap f (to_z-of_z w32 k.result (record { sfits = k.type_inv }) ∙ k.ensures)) c.not_a_skill_at.ensures in
    let few = skill-few x (skill_at a.fit.now c.loop-i.i) in (
      omega (arith, c.loop-i.invariant.0),
      omega (arith, c.loop-i-test.true, c.skill_count-count.ensures),
      omega (arith, c.loop-i.invariant.0, c.loop-i.invariant.2, e.count, few),
      λ b v. emitted-table_next f (skill_at a.fit.now) c.loop-i.i (c.loop-i.invariant.3 b v) e,
    )
