-- `skill::requirement` meets its contract, by whether both names have attributes.
use mathlib.Core.Path.{sym, ap, ◌∙◌}
use mathlib.Core.List.{[], ◌∷◌}
use mir.Syntax.{w32}
use mir.ValLaws.{to_z-of_z}
use borrow.Author.Rules.{rules}
use Rattle.std.specs.Prelude.{option_to_list}
use Rattle.catalogue.specs.Catalogue.{catalogue_of}
use Rattle.catalogue.specs.Lookups.{name_id}
use Rattle.skill.specs.Skill.{Requirement}
use Rattle.skill.proofs.Zips.{pair_eq}
use Rattle.skill.proofs.Requirements.{both-known, no_skill, no_level}
use Rattle.skill.proofs.requirement.Goals as goal

pub returns-in_err-skill : goal.returns-in_err-skill
returns-in_err-skill c =
    ap option_to_list c.from_residual.ensures
    ∙ sym (no_skill (name_id (catalogue_of c.args.catalogue.now).names c.args.row.1) (sym c.in_err-skill.ensures))

pub returns-in_err-level : goal.returns-in_err-level
returns-in_err-level c =
    ap option_to_list c.from_residual-in_err-level.ensures
    ∙ sym (no_level (sym c.in_ok-skill.ensures) (sym c.in_err-level.ensures))

pub returns : goal.returns
returns c =
    ap (λ (r : Requirement). r ∷ []) (pair_eq (to_z-of_z w32 c.in_ok-skill.skill (search rules)) (to_z-of_z w32 c.in_ok-level.level (search rules)))
    ∙ sym (both-known (sym c.in_ok-skill.ensures) (sym c.in_ok-level.ensures))
