-- `validate::not_a_skill_at` meets its contract: an entry where the type is no skill.
use mir.Syntax.{w32}
use mir.ValLaws.{to_z-of_z}
use Rattle.catalogue.specs.Catalogue.{catalogue_of}
use Rattle.entry.proofs.Emitted.{emitted-same}
use Rattle.validate.proofs.Tests.{skill-told}
use Rattle.validate.proofs.not_a_skill_at.Goals as goal

pub returns : goal.returns
returns c =
    let id = to_z-of_z w32 c.args.id c.ranges.id in
    emitted-same (skill-told (catalogue_of c.args.catalogue.now) c.type_of-answer.result id id c.type_of-answer.ensures) c.unless_skill.ensures.0
