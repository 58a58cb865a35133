-- `validate::four_skills` meets its contract: one skill after the other, by what the lookup answered of each.
use native.Mathlib.Omega.{arith}
use mathlib.Core.Path.{◌∙◌}
use mir.Syntax.{w32}
use mir.ValLaws.{to_z-of_z}
use Rattle.catalogue.specs.Catalogue.{catalogue_of}
use Rattle.entry.proofs.Emitted.{emitted-same}
use Rattle.validate.proofs.Tests.{skill-told, skills-four}
use Rattle.validate.proofs.four_skills.Goals as goal

pub returns : goal.returns
returns c = λ b v.
    let a = c.args in
    let x = catalogue_of a.context.now.catalogue.now in
    let id₁ = to_z-of_z w32 c.skill_id-a.result (record { sfits = c.skill_id-a.type_inv }) ∙ c.skill_id-a.ensures in
    let id₂ = to_z-of_z w32 c.skill_id-b.result (record { sfits = c.skill_id-b.type_inv }) ∙ c.skill_id-b.ensures in
    let id₃ = to_z-of_z w32 c.skill_id-c.result (record { sfits = c.skill_id-c.type_inv }) ∙ c.skill_id-c.ensures in
    let id₄ = to_z-of_z w32 c.skill_id-d.result (record { sfits = c.skill_id-d.type_inv }) ∙ c.skill_id-d.ensures in
    let found = c.four_types.ensures in
    skills-four x a.context.now.fit.now a.i v
    (emitted-same (skill-told x _ id₁ id₁ (found 0 (omega arith))) c.unless_skill.ensures.0)
    (emitted-same (skill-told x _ id₂ id₂ (found 1 (omega arith))) c.unless_skill-2.ensures.0)
    (emitted-same (skill-told x _ id₃ id₃ (found 2 (omega arith))) c.unless_skill-3.ensures.0)
    (emitted-same (skill-told x _ id₄ id₄ (found 3 (omega arith))) c.unless_skill-4.ensures.0)
