-- `item::takes_capitals` meets its contract: two tests.
use mathlib.Core.Path.{ap, ◌∙◌}
use lib.Ieee.{Float, ne, of_bits}
use mir.Syntax.{w32}
use mir.ValLaws.{to_z-of_z}
use Rattle.floats.specs.Floats.{zero_f}
use Rattle.fit.specs.Fit.{result_of, fit_of}
use Rattle.fit.specs.Lookups.{amount}
use Rattle.context.specs.Context.{context}
use Rattle.context.specs.Gathered.{context_of}
use Rattle.item.proofs.Tests.{or-then, or-else}
use Rattle.item.proofs.takes_capitals.Goals as goal

pub returns-then-amount : goal.returns-then-amount
unfolding of_bits context_of context fit_of
returns-then-amount c =
    let e = ap (λ (v : Float). ne v zero_f)
    (c.amount.ensures ∙ ap (amount (result_of c.args.context.now.fit.now 0)) (to_z-of_z w32 c.args.capital c.ranges.capital)) in
    or-then e _ c.if-amount.true

pub returns-else-amount : goal.returns-else-amount
unfolding of_bits context_of context fit_of
returns-else-amount c =
    let e = ap (λ (v : Float). ne v zero_f)
    (c.amount.ensures ∙ ap (amount (result_of c.args.context.now.fit.now 0)) (to_z-of_z w32 c.args.capital c.ranges.capital)) in
    or-else e c.if-amount.false c.is_structure.ensures
