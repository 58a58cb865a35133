-- `item::marked_under` meets its contract, by whether the id is there.
use mathlib.Core.Path.{◌≡◌, ap, ◌∙◌}
use borrow.Author.Rules.{rules}
use mir.Syntax.{w32}
use mir.Val.{to_z, of_z}
use lib.Ieee.{Float, ne, of_bits}
use Rattle.words.specs.Words.{given}
use Rattle.floats.specs.Floats.{zero_f}
use Rattle.fit.specs.Fit.{result_of}
use Rattle.fit.specs.Lookups.{amount}
use Rattle.item.specs.Ids.{marked_under}
use Rattle.item.proofs.marked_under.Goals as goal

pub returns-in-Some : goal.returns-in-Some
unfolding marked_under of_bits given
returns-in-Some c =
    let z : to_z w32 (of_z w32 c.in-Some.id) ≡ c.in-Some.id = search rules in
    rw c.in-Some.is (ap (λ (v : Float). ne v zero_f) (c.amount.ensures ∙ ap (amount (result_of c.args.context.now.fit.now c.args.j)) z))

pub returns-in-None : goal.returns-in-None
unfolding marked_under given
returns-in-None c = rw c.in-None.is
