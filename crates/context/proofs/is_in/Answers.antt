-- `context::is_in` meets its contract: a pair's slot is its item's.
use Prim.Native.Nat.{ℕ}
use mathlib.Core.Path.{ap}
use lib.Dec.{eqb}
use Rattle.context.specs.Context.{is_in}
use Rattle.context.proofs.is_in.Goals as goal

pub returns : goal.returns
unfolding is_in
returns c catalogue = ap (λ (s : ℕ). eqb s c.args.slot) c.item_slot.ensures
