-- `Fit::amount` meets its contract: what is missing reads as 0.
use Rattle.std.specs.Prelude.{Option}
use mathlib.Core.Path.{◌∙◌, ap}
use lib.Ieee.{Float}
use mir.ValLaws.{to_z-of_z}
use mir.Syntax.{w32}
use Rattle.words.specs.Words.{given}
use Rattle.floats.specs.Floats.{zero_f}
use Rattle.fit.specs.Lookups.{value, amount}
use Rattle.fit.specs.Fit.{result_of}
use Rattle.fit.proofs.Fit.amount.Goals as goal

pub returns : goal.returns
unfolding amount
returns c =
    let a = c.args in
    c.amount.ensures ∙ ap (λ (o : Option Float). given o zero_f (λ v. v)) (c.value.ensures ∙ ap (value (result_of a.self.now a.j)) (to_z-of_z w32 a.id c.ranges.id))
