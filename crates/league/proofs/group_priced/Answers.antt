-- `league::group_priced` meets its contract: what `map_or` answers.
use mathlib.Core.Path.{◌∙◌}
use lib.IntN.{pos}
use mir.Syntax.{w32}
use mir.ValLaws.{to_z-of_z}
use borrow.Author.Rules.{rules}
use Rattle.context.proofs.Types.{given-option}
use Rattle.league.proofs.group_priced.Goals as goal

pub returns : goal.returns
returns c =
    to_z-of_z w32 c.map_or.result (record { sfits = c.map_or.type_inv })
    ∙ given-option (pos 0) (λ x. x.group) c.args.answer (λ x e p. search rules) c.map_or.ensures
