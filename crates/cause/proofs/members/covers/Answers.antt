-- `members::covers` meets its contract: a name that is known, the value of its attribute, and the other's.
use mathlib.Core.Path.{◌≡◌, sym, ap, ◌∙◌}
use lib.IntN.{ℤ}
use mir.Syntax.{w32}
use mir.Val.{of_z, to_z}
use borrow.Author.Rules.{rules}
use Rattle.numbers.specs.Names as Names
use Rattle.fit.specs.Lookups.{value}
use Rattle.context.specs.Held.{pair_in, context_in}
use Rattle.slot.specs.Slot.{shares_part}
use Rattle.cause.proofs.Looking.{names-are, covers-unnamed, covers-missing, covers-is}
use Rattle.cause.proofs.members.covers.Goals as goal

pub returns-in_default : goal.returns-in_default
returns-in_default c =
    let a = c.args in
    let x = a.context.now in
    covers-unnamed (context_in x) (pair_in x a.i) (pair_in x a.j)
    (names-are x.catalogue.now x.fit.now Names.sub_system_slot ∙ sym c.attribute_id.ensures ∙ c.in_default.is)

pub returns-in_default-value : goal.returns-in_default-value
returns-in_default-value c =
    let a = c.args in
    let x = a.context.now in
    let p = pair_in x a.i in
    let z : c.in-Some.id ≡ to_z w32 (of_z w32 c.in-Some.id) = search rules in
    covers-missing (context_in x) p (pair_in x a.j) c.in-Some.id
    (names-are x.catalogue.now x.fit.now Names.sub_system_slot ∙ sym c.attribute_id.ensures ∙ c.in-Some.is)
    (ap (value p.result) z ∙ sym c.value.ensures ∙ c.in_default-value.is)

pub returns : goal.returns
returns c =
    let a = c.args in
    let x = a.context.now in
    let p = pair_in x a.i in
    let o = pair_in x a.j in
    let z : c.in-Some.id ≡ to_z w32 (of_z w32 c.in-Some.id) = search rules in
    covers-is (context_in x) p o c.in-Some.id c.in-Some-value.part
    (names-are x.catalogue.now x.fit.now Names.sub_system_slot ∙ sym c.attribute_id.ensures ∙ c.in-Some.is)
    (ap (value p.result) z ∙ sym c.value.ensures ∙ c.in-Some-value.is)
    (c.same_part.ensures ∙ ap (λ (i : ℤ). shares_part i c.in-Some-value.part p o) (sym z))
