-- `skill::asked` meets its contract, by whether the skill is given.
use mathlib.Core.Path.{sym, ap, ◌∙◌}
use mathlib.Core.List.{[], ◌∷◌}
use Rattle.std.specs.Prelude.{option_to_list}
use Rattle.skill.specs.Skill.{Demand}
use Rattle.skill.proofs.Requirements.{looked, asked-one, asked-none}
use Rattle.skill.proofs.asked.Goals as goal

pub returns-in_err-wanted : goal.returns-in_err-wanted
returns-in_err-wanted g c = λ values reads.
    ap option_to_list c.from_residual.ensures
    ∙ asked-none values (c.args.skill, c.args.level) (sym (looked c.args.skill c.ranges.skill reads c.look.ensures) ∙ c.in_err-wanted.was)

pub returns : goal.returns
returns g c = λ values reads.
    ap (λ (d : Demand). d ∷ []) c.demand.ensures
    ∙ asked-one values (c.args.skill, c.args.level) (sym (looked c.args.skill c.ranges.skill reads c.look.ensures) ∙ c.in_ok-wanted.was)
    (looked c.args.level c.ranges.level reads c.look-2.ensures)
