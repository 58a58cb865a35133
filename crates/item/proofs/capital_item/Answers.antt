-- `item::capital_item` meets its contract, by whether the names are there and the ship takes capital items.
use native.Mathlib.Omega.{arith}
use mathlib.Core.Path.{◌≡◌, sym, ap, ◌∙◌}
use mir.Syntax.{w32}
use mir.Val.{to_z, of_z}
use borrow.Author.Rules.{rules}
use lib.IntN.{ℤ}
use lib.Ieee.{ne}
use mathlib.Core.Bool.{◌||◌}
use Rattle.floats.specs.Floats.{zero_f}
use Rattle.fit.specs.Lookups.{amount}
use Rattle.context.specs.Context.{context}
use Rattle.context.specs.Gathered.{context_of}
use Rattle.context.specs.Held.{pair_in, pairs_in, context_in}
use Rattle.std.specs.Bool.{then_some}
use Rattle.entry.specs.declared.Rule.TheVariants.{CapitalItem}
use Rattle.context.specs.Context.{said}
use Rattle.item.specs.Item.{capital_item_at, is_capital_item, is_structure}
use Rattle.item.proofs.Rules.{capital_no_volume, capital_no_capital, capital_taken, capital_each, said-capital}
use Rattle.item.proofs.capital_item.Goals as goal

pub returns-in_default : goal.returns-in_default
unfolding context_of context
returns-in_default c =
    let a = c.args in
    (capital_no_volume (context_in a.context.now) (pairs_in a.context.now) (sym c.attribute_id.ensures ∙ c.in_default.is), omega arith)

pub returns-in_default-attribute_id : goal.returns-in_default-attribute_id
unfolding context_of context
returns-in_default-attribute_id c =
    let a = c.args in (
      capital_no_capital (context_in a.context.now) (pairs_in a.context.now) c.in-Some.volume
          (sym c.attribute_id.ensures ∙ c.in-Some.is) (sym c.attribute_id-2.ensures ∙ c.in_default-attribute_id.is),
      omega arith,
    )

pub returns-then-takes_capitals : goal.returns-then-takes_capitals
unfolding context_of context
returns-then-takes_capitals c =
    let a = c.args in
    let x = context_in a.context.now in
    let z : to_z w32 (of_z w32 c.in-Some-attribute_id.capital) ≡ c.in-Some-attribute_id.capital = search rules in
    let taken = ap (λ (i : ℤ). ne (amount x.ship_result i) zero_f || is_structure x) (sym z) ∙ sym c.takes_capitals.ensures ∙ c.if-takes_capitals.true in (
      capital_taken x (pairs_in a.context.now) c.in-Some.volume c.in-Some-attribute_id.capital
          (sym c.attribute_id.ensures ∙ c.in-Some.is) (sym c.attribute_id-2.ensures ∙ c.in-Some-attribute_id.is) taken,
      omega arith,
    )

pub returns : goal.returns
unfolding context_of context
returns c =
    let a = c.args in
    let x = context_in a.context.now in
    let z : to_z w32 (of_z w32 c.in-Some-attribute_id.capital) ≡ c.in-Some-attribute_id.capital = search rules in
    let open' = ap (λ (i : ℤ). ne (amount x.ship_result i) zero_f || is_structure x) (sym z) ∙ sym c.takes_capitals.ensures ∙ c.if-takes_capitals.false in
    let pair = pair_in a.context.now in
    let w = c.report.ensures.wrote (capital_item_at c.in-Some.volume) (λ i r h p.
    let e : r ≡ then_some (is_capital_item c.in-Some.volume (pair i)) CapitalItem = search rules in
    ap (said (pair i)) e ∙ said-capital c.in-Some.volume (pair i)) in (
      capital_each x (pairs_in a.context.now) c.in-Some.volume c.in-Some-attribute_id.capital
          (sym c.attribute_id.ensures ∙ c.in-Some.is) (sym c.attribute_id-2.ensures ∙ c.in-Some-attribute_id.is) open' w,
      c.report.ensures.few,
    )
