-- `validate::unless_skill` meets its contract: an entry where the type is no skill.
use native.Mathlib.Omega.{arith}
use mathlib.Core.Path.{ap₂}
use mathlib.Core.Bool.{Bool, false, not}
use mir.Syntax.{w32}
use mir.ValLaws.{to_z-of_z}
use Rattle.words.specs.Words.{when, given, same}
use Rattle.words.proofs.Lengths.{few-when}
use Rattle.numbers.specs.Categories as Categories
use Rattle.catalogue.specs.Catalogue.{Id}
use Rattle.entry.specs.declared.Rule.TheVariants.{NotASkill}
use Rattle.entry.specs.Entries.{on_ship}
use Rattle.entry.proofs.Emitted.{emitted-same}
use Rattle.validate.proofs.unless_skill.Goals as goal

pub returns : goal.returns
returns c =
    let id = to_z-of_z w32 c.args.id c.ranges.id in
    let skill = given c.args.answer false (λ x. same x.category Categories.skill) in
    let v = emitted-same (ap₂ (λ (t : Bool) (i : Id). when (not t) (on_ship (NotASkill i))) c.is_skill.ensures id) c.emit_when.ensures in
    (v, omega (arith, v.count, few-when (not skill) (on_ship (NotASkill c.args.id))))
