-- `Window::mark_found` meets its contract: one block after the other.
use mathlib.Core.Path.{ap}
use mathlib.Core.List.{[], ◌∷◌}
use mir.Syntax.{w32}
use mir.ValLaws.{to_z-of_z}
use Rattle.catalogue.specs.Catalogue.{Id}
use Rattle.trim.proofs.Marking.{marked-id, more-same}
use Rattle.trim.proofs.window.Window.mark_found.Goals as goal

pub returns : goal.returns
returns c =
    more-same _ _ _ _ (ap (λ (x : Id). x ∷ []) (to_z-of_z w32 c.args.id c.ranges.id))
    (marked-id _ _ _ _ _ c.mark_in.ensures c.mark_in-2.ensures c.mark_in-3.ensures)
