-- `Fit::ship` meets its contract: the decoded ship is what stands there.
use mathlib.Core.Path.{◌∙◌}
use mir.ValLaws.{to_z-of_z}
use mir.Syntax.{w32}
use Rattle.fit.specs.Fit.{fit_of}
use Rattle.fit.proofs.Fit.ship.Goals as goal

pub returns : goal.returns
unfolding fit_of
returns c = rw (← c.self.view_is) (to_z-of_z w32 c.i32_at.result (record { sfits = c.i32_at.type_inv }) ∙ c.i32_at.ensures)
