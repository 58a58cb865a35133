-- `context::is_fitted_at` meets its contract: a pair's slot is its item's.
use Prim.Native.Nat.{ℕ}
use mathlib.Core.Path.{ap, ◌∙◌}
use lib.Dec.{leb}
use Rattle.numbers.specs.Slots as Slots
use Rattle.context.specs.Context.{is_fitted}
use Rattle.context.proofs.is_fitted_at.Goals as goal

pub returns : goal.returns
unfolding is_fitted
returns c catalogue = c.is_fitted.ensures ∙ ap (λ (s : ℕ). leb s Slots.service) c.item_slot.ensures
