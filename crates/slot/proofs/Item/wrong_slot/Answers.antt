-- `Item::wrong_slot` meets its contract, by whether there is a rack and its number is that of a kind.
use Rattle.std.proofs.Common.{Bool, not, ◌&&◌, eqb, sym, ap, ◌∙◌, arith}
use Rattle.words.specs.Words.{when}
use Rattle.entry.specs.Entries.{on_item}
use Rattle.entry.specs.declared.Rule.TheVariants.{WrongSlot}
use Rattle.entry.proofs.Emitted.{emitted_none}
use Rattle.slot.specs.Slot.{wrong_slot}
use Rattle.slot.proofs.Checks.{checked, wrong_slot-shown, wrong_slot-none, wrong_slot-no_rack}
use Rattle.slot.proofs.Item.wrong_slot.Goals as goal

pub returns-in_default : goal.returns-in_default
returns-in_default c =
    checked (λ x ps p. wrong_slot x p) (emitted_none _, omega arith) (λ x ps p h. wrong_slot-no_rack c.args.self x h c.in_default.is)

pub returns-in_default-of : goal.returns-in_default-of
returns-in_default-of c =
    checked (λ x ps p. wrong_slot x p) (emitted_none _, omega arith)
    (λ x ps p h. wrong_slot-none c.args.self x h c.in-Some.is (sym c.of.ensures ∙ c.in_default-of.is))

pub returns : goal.returns
returns c =
    let item = c.args.self in
    let rack = c.in-Some.rack in
    let expected = c.in-Some-of.expected in
    checked (λ x ps p. wrong_slot x p) c.push_when.ensures
    (λ x ps p h. ap (λ (t : Bool). when (t && not (eqb item.slot rack)) (on_item item.position (WrongSlot expected))) c.is_fitted.ensures
    ∙ wrong_slot-shown item x h c.in-Some.is (sym c.of.ensures ∙ c.in-Some-of.is))
