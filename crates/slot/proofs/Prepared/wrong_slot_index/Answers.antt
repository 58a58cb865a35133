-- `Prepared::wrong_slot_index` meets its contract: a slot with a number, a name that is known, and the value of its attribute.
use mathlib.Core.Path.{◌≡◌, sym, ap, ◌∙◌}
use mir.Syntax.{w32}
use mir.Val.{of_z, to_z}
use borrow.Author.Rules.{rules}
use Rattle.fit.specs.Lookups.{value}
use Rattle.context.specs.Held.{pair_in, context_in}
use Rattle.slot.proofs.Numbers.{unnumbered, unnamed, right_index, wrong_index}
use Rattle.slot.proofs.Prepared.wrong_slot_index.Goals as goal

pub returns-in_err-id : goal.returns-in_err-id
returns-in_err-id c =
    let a = c.args in
    let y = a.self.now.context.now in
    rw c.from_residual.ensures (unnumbered (context_in y) (pair_in y a.i)
    (sym c.slot_number.ensures ∙ c.in_err-id.was))

pub returns-in_err-value : goal.returns-in_err-value
returns-in_err-value c =
    let a = c.args in
    let y = a.self.now.context.now in
    let p = pair_in y a.i in
    let z : c.in_ok-id.id ≡ to_z w32 (of_z w32 c.in_ok-id.id) = search rules in
    rw c.from_residual-in_err-value.ensures (unnamed (context_in y) p c.in_ok-id.id
    (sym c.slot_number.ensures ∙ c.in_ok-id.was) (ap (value p.result) z ∙ sym c.value.ensures ∙ c.in_err-value.was))

pub returns-then-expected-item_index : goal.returns-then-expected-item_index
returns-then-expected-item_index c =
    let a = c.args in
    let y = a.self.now.context.now in
    let p = pair_in y a.i in
    let z : c.in_ok-id.id ≡ to_z w32 (of_z w32 c.in_ok-id.id) = search rules in
    right_index (context_in y) p c.in_ok-id.id (sym c.slot_number.ensures ∙ c.in_ok-id.was) c.in_ok-value.value
    (ap (value p.result) z ∙ sym c.value.ensures ∙ c.in_ok-value.was) c.to_u16-expected.ensures.0
    (c.if-expected-item_index.true ∙ c.item_index.ensures)

pub returns : goal.returns
returns c =
    let a = c.args in
    let y = a.self.now.context.now in
    let p = pair_in y a.i in
    let z : c.in_ok-id.id ≡ to_z w32 (of_z w32 c.in_ok-id.id) = search rules in
    wrong_index (context_in y) p c.in_ok-id.id (sym c.slot_number.ensures ∙ c.in_ok-id.was) c.in_ok-value.value
    (ap (value p.result) z ∙ sym c.value.ensures ∙ c.in_ok-value.was) c.to_u16-expected.ensures.0
    (λ e. c.if-expected-item_index.false (e ∙ sym c.item_index.ensures))
