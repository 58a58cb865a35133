-- `training::is_listed` meets its contract: by the search through the skill ids.
use mathlib.Core.Path.{◌∙◌}
use mir.ValLaws.{to_z-of_z}
use mir.Syntax.{w32}
use Rattle.keys.proofs.Parts.{place-alike}
use Rattle.training.proofs.Counting.{listed_found}
use Rattle.training.proofs.is_listed.Goals as goal

pub returns : goal.returns
returns c =
    let a = c.args in
    let k = c.skill_keys.ensures in
    c.is_some.ensures ∙ listed_found a.fit.now a.id (c.place_of.ensures ∙ place-alike _ _ _ _ k.0 k.1 _ _ (to_z-of_z w32 a.id c.ranges.id))
