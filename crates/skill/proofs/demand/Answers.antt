-- `skill::demand` meets its contract: both values are cast as the definition says.
use mathlib.Core.Path.{ap, ◌∙◌}
use mir.Syntax.{w32}
use mir.ValLaws.{to_z-of_z}
use Rattle.floats.specs.Floats.{to_u}
use Rattle.skill.proofs.Zips.{pair_eq}
use Rattle.skill.proofs.demand.Goals as goal

pub returns : goal.returns
returns c =
    let id = c.to_i32 in
    let level = c.to_u8.ensures.0 ∙ ap (to_u 8) c.amount.ensures in
    pair_eq (to_z-of_z w32 id.result (record { sfits = id.type_inv }) ∙ id.ensures.0) level
