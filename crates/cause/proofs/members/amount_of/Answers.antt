-- `members::amount_of` meets its contract, by whether the name has an id.
use mathlib.Core.Path.{◌≡◌, sym, ap, ◌∙◌}
use lib.Ieee.{of_bits}
use mir.Syntax.{w32}
use mir.Val.{to_z, of_z}
use borrow.Author.Rules.{rules}
use Rattle.fit.specs.Fit.{result_of}
use Rattle.fit.specs.Lookups.{amount}
use Rattle.context.specs.Held.{context_in}
use Rattle.cause.proofs.Looking.{names-are, amount-named, amount-unnamed}
use Rattle.cause.proofs.members.amount_of.Goals as goal

pub returns-in-Some : goal.returns-in-Some
returns-in-Some c =
    let a = c.args in
    let x = a.context.now in
    let r = result_of x.fit.now a.j in
    let z : to_z w32 (of_z w32 c.in-Some.id) ≡ c.in-Some.id = search rules in
    amount-named (context_in x) a.name r c.in-Some.id
    (names-are x.catalogue.now x.fit.now a.name ∙ sym c.attribute_id.ensures ∙ c.in-Some.is) (c.amount.ensures ∙ ap (amount r) z)

pub returns-in-None : goal.returns-in-None
unfolding of_bits
returns-in-None c =
    let a = c.args in
    let x = a.context.now in
    amount-unnamed (context_in x) a.name (result_of x.fit.now a.j)
    (names-are x.catalogue.now x.fit.now a.name ∙ sym c.attribute_id.ensures ∙ c.in-None.is)
