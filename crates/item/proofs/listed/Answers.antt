-- `item::listed` meets its contract. The invariant: the ids passed name no ship or others.
use mathlib.Core.Path.{◌≡◌, sym, ap, ◌∙◌}
use mir.Syntax.{w32}
use mir.Val.{to_z, of_z}
use borrow.Author.Rules.{rules}
use Rattle.std.specs.Prelude.{Some}
use Rattle.words.proofs.Sames.{same_not}
use Rattle.fit.specs.Fit.{result_of}
use Rattle.item.proofs.Listings.{listed_none, listed_nothing, listed_other, listed_all, listed_ship}
use Rattle.item.proofs.listed.Goals.{in-Some+else-named-ship, in_default}
use Rattle.item.proofs.listed.Goals as goal

pub loop-id-init : goal.loop-id-init
loop-id-init c = listed_none _ _ _

pub returns-then-named-ship : goal.returns-then-named-ship
returns-then-named-ship c =
    let a = c.args in
    let e : c.in-Some.named ≡ a.ship = search rules in
    listed_ship a.ship (result_of a.context.now.fit.now a.j) a.ids.now c.loop-id.id-index c.loop-id-test.true
    (sym c.listed_under.ensures ∙ c.in-Some.is ∙ ap Some e)

pub loop-id-preserved : goal.loop-id-preserved
loop-id-preserved c =
    let l = c.loop-id in
    let z : to_z w32 (of_z w32 c.args.ship) ≡ c.args.ship = search rules in
    elim c.match-listed_under.branch [
      | in-Some+else-named-ship w ↦ rw (w.listing-is, z) (listed_other _ _ _ l.id-index c.loop-id-test.true l.listing (rw z at l.invariant) w.in-Some.named
          (sym c.listed_under.ensures ∙ w.in-Some.is)
          (same_not c.args.ship w.in-Some.named (λ e. w.if-named-ship.false (ap (of_z w32) (sym e)))))
      | in_default w ↦ rw w.listing-is (listed_nothing _ _ _ l.id-index c.loop-id-test.true l.listing l.invariant
          (sym c.listed_under.ensures ∙ w.in_default.is))
    ]

pub returns : goal.returns
returns c =
    let a = c.args in
    let z : to_z w32 (of_z w32 a.ship) ≡ a.ship = search rules in
    listed_all a.ship (result_of a.context.now.fit.now a.j) a.ids.now c.loop-id.id-index c.loop-id.listing c.loop-id-test.false (rw z at c.loop-id.invariant)
