-- `catalogue_refusals::check` meets its contract: each test is that of its refusal, in their order.
use Rattle.std.proofs.Common.{ℕ, Bool, List, ◌≡◌, ◌+◌, ◌*◌, not, ◌||◌, sym, ◌∙◌, ltb, eqb, length, arith}
use Rattle.numbers.specs.Sizes as Sizes
use Rattle.catalogue.specs.Catalogue.{base_count, bases_at}
use Rattle.catalogue.specs.Refusals.{bad_length}
use Rattle.catalogue.proofs.Sound.{fits-size, refused-1, refused-2, refused-3, refused_none}
use Rattle.catalogue_refusals.proofs.check.Goals as goal

-- a base takes 16 bytes
of-length : (b : List ℕ) {r t : Bool} → r ≡ (ltb Sizes.most_catalogue_bytes (length b) || not (eqb (length b) (bases_at b + 16 * base_count b))) → r ≡ t
    → bad_length b ≡ t
unfolding bad_length
of-length b e f = sym e ∙ f

pub returns-then-bad_length : goal.returns-then-bad_length
returns-then-bad_length c = refused-1 _ (of-length _ c.bad_length.ensures c.if-bad_length.true)

pub new-blocks-requires : goal.new-blocks-requires
new-blocks-requires c = omega (arith, fits-size _ (of-length _ c.bad_length.ensures c.if-bad_length.false))

pub returns-then-bad_order : goal.returns-then-bad_order
returns-then-bad_order c =
    refused-2 _ (of-length _ c.bad_length.ensures c.if-bad_length.false) (rw c.new-blocks.ensures at (sym c.bad_order.ensures ∙ c.if-bad_order.true))

pub returns-then-bad_field : goal.returns-then-bad_field
returns-then-bad_field c =
    refused-3 _ (of-length _ c.bad_length.ensures c.if-bad_length.false) (rw c.new-blocks.ensures at (sym c.bad_order.ensures ∙ c.if-bad_order.false))
    (rw c.new-blocks.ensures at (sym c.bad_field.ensures ∙ c.if-bad_field.true))

pub returns : goal.returns
returns c =
    refused_none _ (of-length _ c.bad_length.ensures c.if-bad_length.false) (rw c.new-blocks.ensures at (sym c.bad_order.ensures ∙ c.if-bad_order.false))
    (rw c.new-blocks.ensures at (sym c.bad_field.ensures ∙ c.if-bad_field.false))
