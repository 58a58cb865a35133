-- `resource::launched_at` meets its contract, by the slot and the state.
use Rattle.std.proofs.Common.{◌≡◌, ◌+◌, true, false, eqb, leb, sym, ap, ◌∙◌, lit<, eq-eqb, ne_eqb, le-leb, rules}
use borrow.Author.Tests.{lt-leb}
use Rattle.numbers.specs.Slots as Slots
use Rattle.numbers.specs.States as States
use Rattle.fit.specs.Fit.{item_at, result_of}
use Rattle.context.specs.Context.{is_in}
use Rattle.resource.specs.Resource.{is_launched}
use Rattle.resource.proofs.launched_at.Goals as goal

pub returns-then-slot-ne-DRONE_BAY : goal.returns-then-slot-ne-DRONE_BAY
unfolding is_launched is_in
returns-then-slot-ne-DRONE_BAY c =
    let a = c.args in
    let e : eqb (item_at a.context.now.fit.now a.i).slot Slots.drone_bay ≡ false = ne_eqb _ _ (λ q. c.if-slot-ne-DRONE_BAY.true (c.item_slot-slot.ensures ∙ q)) in
    (rw e, lit< tt)

pub returns-then-state-lt-ACTIVE : goal.returns-then-state-lt-ACTIVE
unfolding is_launched is_in
returns-then-state-lt-ACTIVE c =
    let a = c.args in
    let fit = a.context.now.fit.now in
    let state = (result_of fit (a.i + 2)).state in
    let e : eqb (item_at fit a.i).slot Slots.drone_bay ≡ true = eq-eqb _ _ (sym c.item_slot-slot.ensures ∙ c.if-slot-ne-DRONE_BAY.false) in
    let g : leb States.active state ≡ false =
    ap (leb States.active) (sym c.result_state-state.ensures) ∙ lt-leb _ _ c.if-state-lt-ACTIVE.true in
    (rw (e, g), lit< tt)

pub returns : goal.returns
unfolding is_launched is_in
returns c =
    let a = c.args in
    let fit = a.context.now.fit.now in
    let state = (result_of fit (a.i + 2)).state in
    let e : eqb (item_at fit a.i).slot Slots.drone_bay ≡ true = eq-eqb _ _ (sym c.item_slot-slot.ensures ∙ c.if-slot-ne-DRONE_BAY.false) in
    let g : leb States.active state ≡ true =
    ap (leb States.active) (sym c.result_state-state.ensures) ∙ le-leb _ _ c.if-state-lt-ACTIVE.false in
    (rw (e, g) (c.from.ensures ∙ c.item_quantity.ensures), search rules)
