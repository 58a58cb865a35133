-- `item::is_capital_item` meets its contract, test by test.
use Prim.Native.Nat.{◌+◌}
use mathlib.Core.Path.{◌≡◌, sym, ap, ◌∙◌}
use mathlib.Core.Bool.{not, ◌&&◌}
use lib.Ieee.{Float, of_bits, of_int, lt}
use mir.Syntax.{w32}
use mir.ValLaws.{to_z-of_z}
use Rattle.numbers.specs.Slots as Slots
use Rattle.fit.specs.Fit.{result_of}
use Rattle.fit.specs.Lookups.{amount}
use Rattle.context.specs.Context.{is_in, is_fitted}
use Rattle.context.specs.Held.{pair_in}
use Rattle.item.specs.Item.{capital_volume}
use Rattle.item.proofs.Rules.{capital-more, capital-less}
use Rattle.item.proofs.Tests.{and-then, and-else}
use Rattle.item.proofs.is_capital_item.Goals.{then-is_fitted_at, else-is_fitted_at}
use Rattle.item.proofs.is_capital_item.Goals as goal

pub returns-then-not-is_in : goal.returns-then-not-is_in
unfolding of_bits of_int
returns-then-not-is_in c =
    let p = pair_in c.args.context.now c.args.i in
    let first : c.if-is_fitted_at.value ≡ is_fitted p && not (is_in Slots.rig p) =
    elim c.if-is_fitted_at.branch [
      | then-is_fitted_at w ↦ and-then (c.is_fitted_at.ensures) w.if-is_fitted_at.true (w.value-is ∙ ap not (w.is_in.ensures))
      | else-is_fitted_at w ↦ and-else (c.is_fitted_at.ensures) _ w.if-is_fitted_at.false w.value-is
    ] in
    capital-more c.args.volume p (sym first ∙ c.if-not-is_in.true)
    (ap (λ (v : Float). lt capital_volume v)
    (c.amount.ensures ∙ ap (amount (result_of c.args.context.now.fit.now (c.args.i + 2))) (to_z-of_z w32 c.args.volume c.ranges.volume)))

pub returns-else-not-is_in : goal.returns-else-not-is_in
returns-else-not-is_in c =
    let p = pair_in c.args.context.now c.args.i in
    let first : c.if-is_fitted_at.value ≡ is_fitted p && not (is_in Slots.rig p) =
    elim c.if-is_fitted_at.branch [
      | then-is_fitted_at w ↦ and-then (c.is_fitted_at.ensures) w.if-is_fitted_at.true (w.value-is ∙ ap not (w.is_in.ensures))
      | else-is_fitted_at w ↦ and-else (c.is_fitted_at.ensures) _ w.if-is_fitted_at.false w.value-is
    ] in
    c.if-not-is_in.false ∙ capital-less c.args.volume p (sym first ∙ c.if-not-is_in.false)
