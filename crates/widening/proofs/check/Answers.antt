-- `widening::check` meets its contract: each test is that of its refusal, in their order.
use native.Mathlib.Omega.{arith}
use mathlib.Core.Path.{◌∙◌, sym}
use Rattle.widening.proofs.Judging.{old-size, refused-1, refused-2, refused-3, refused_none}
use Rattle.widening.proofs.check.Goals as goal

pub returns-then-bad_length : goal.returns-then-bad_length
returns-then-bad_length c = refused-1 _ (sym c.bad_length.ensures ∙ c.if-bad_length.true)

pub new-blocks-requires : goal.new-blocks-requires
new-blocks-requires c = omega (arith, old-size _ (sym c.bad_length.ensures ∙ c.if-bad_length.false))

pub returns-then-bad_order : goal.returns-then-bad_order
returns-then-bad_order c =
    refused-2 _ (sym c.bad_length.ensures ∙ c.if-bad_length.false) (rw c.new-blocks.ensures at (sym c.bad_order.ensures ∙ c.if-bad_order.true))

pub returns-then-bad_field : goal.returns-then-bad_field
returns-then-bad_field c =
    refused-3 _ (sym c.bad_length.ensures ∙ c.if-bad_length.false) (rw c.new-blocks.ensures at (sym c.bad_order.ensures ∙ c.if-bad_order.false))
    (rw c.new-blocks.ensures at (sym c.bad_field.ensures ∙ c.if-bad_field.true))

pub returns : goal.returns
returns c =
    refused_none _ (sym c.bad_length.ensures ∙ c.if-bad_length.false) (rw c.new-blocks.ensures at (sym c.bad_order.ensures ∙ c.if-bad_order.false))
    (rw c.new-blocks.ensures at (sym c.bad_field.ensures ∙ c.if-bad_field.false))
