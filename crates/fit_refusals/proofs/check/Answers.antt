-- `fit_refusals::check` meets its contract: the first of three tests that holds.
use mathlib.Core.Path.{◌∙◌, sym}
use Rattle.fit.proofs.Soundness.{sized, refusal}
use Rattle.fit_refusals.proofs.check.Goals as goal

pub returns-then-bad_size : goal.returns-then-bad_size
returns-then-bad_size c = sym (refusal _ ∙ rw (sym c.bad_size.ensures, c.if-bad_size.true))

pub new-layout-requires : goal.new-layout-requires
new-layout-requires c = sized _ (sym c.bad_size.ensures ∙ c.if-bad_size.false)

pub returns-then-bad_order : goal.returns-then-bad_order
returns-then-bad_order c = sym (refusal _ ∙ rw (sym c.bad_size.ensures, c.if-bad_size.false, sym (rw c.new-layout.ensures at c.bad_order.ensures), c.if-bad_order.true))

pub returns-then-bad_field : goal.returns-then-bad_field
returns-then-bad_field c = sym (refusal _ ∙ rw (sym c.bad_size.ensures, c.if-bad_size.false, sym (rw c.new-layout.ensures at c.bad_order.ensures), c.if-bad_order.false, sym (rw c.new-layout.ensures at c.bad_field.ensures), c.if-bad_field.true))

pub returns : goal.returns
returns c = sym (refusal _ ∙ rw (sym c.bad_size.ensures, c.if-bad_size.false, sym (rw c.new-layout.ensures at c.bad_order.ensures), c.if-bad_order.false, sym (rw c.new-layout.ensures at c.bad_field.ensures), c.if-bad_field.false))
