-- `item::rig_size` meets its contract, by whether the name and the ship's value are there.
use native.Mathlib.Omega.{arith}
use mathlib.Core.Path.{◌≡◌, sym, ap, ◌∙◌}
use mir.Syntax.{w32}
use mir.Val.{to_z, of_z}
use borrow.Author.Rules.{rules}
use Rattle.fit.specs.Fit.{result_of, fit_of}
use Rattle.fit.specs.Lookups.{value}
use Rattle.context.specs.Context.{context}
use Rattle.context.specs.Gathered.{context_of}
use Rattle.context.specs.Held.{pairs_in, context_in}
use Rattle.item.specs.Item.{rig_size_at}
use Rattle.item.proofs.Rules.{rig-no_name, rig-no_ship, rig-each}
use Rattle.item.proofs.rig_size.Goals as goal

pub returns-in_default : goal.returns-in_default
unfolding context_of context
returns-in_default c =
    let a = c.args in
    (rig-no_name (context_in a.context.now) (pairs_in a.context.now) (sym c.attribute_id.ensures ∙ c.in_default.is), omega arith)

pub returns-in_default-value : goal.returns-in_default-value
unfolding context_of context fit_of
returns-in_default-value c =
    let a = c.args in
    let z : c.in-Some.id ≡ to_z w32 (of_z w32 c.in-Some.id) = search rules in (
      rig-no_ship (context_in a.context.now) (pairs_in a.context.now) c.in-Some.id (sym c.attribute_id.ensures ∙ c.in-Some.is)
          (ap (value (result_of a.context.now.fit.now 0)) z ∙ sym c.value.ensures ∙ c.in_default-value.is),
      omega arith,
    )

pub returns : goal.returns
unfolding context_of context fit_of
returns c =
    let a = c.args in
    let z : c.in-Some.id ≡ to_z w32 (of_z w32 c.in-Some.id) = search rules in
    let w = c.report.ensures.wrote (rig_size_at c.in-Some.id c.in-Some-value.ship) (λ i r h p. search rules) in (
      rig-each (context_in a.context.now) (pairs_in a.context.now) c.in-Some.id c.in-Some-value.ship
          (sym c.attribute_id.ensures ∙ c.in-Some.is)
          (ap (value (result_of a.context.now.fit.now 0)) z ∙ sym c.value.ensures ∙ c.in-Some-value.is) w,
      c.report.ensures.few,
    )
