-- `item::rig_size_at` meets its contract: where a rig has a size, its test and its entry are those of the rule.
use Prim.Native.Nat.{◌+◌}
use mathlib.Core.Path.{sym, ap, ◌∙◌}
use mir.Syntax.{w32}
use mir.ValLaws.{to_z-of_z}
use Rattle.fit.specs.Fit.{result_of}
use Rattle.fit.specs.Lookups.{value}
use Rattle.context.specs.Held.{pair_in}
use Rattle.item.proofs.Rules.{rig-none, rig-elsewhere, rig-some}
use Rattle.item.proofs.rig_size_at.Goals as goal

pub returns-then-not-is_in : goal.returns-then-not-is_in
returns-then-not-is_in c =
    let a = c.args in
    rig-elsewhere a.id a.ship (pair_in a.context.now a.i) (sym (c.is_in.ensures) ∙ c.if-not-is_in.true)

pub returns-in_err-size : goal.returns-in_err-size
returns-in_err-size c =
    let a = c.args in
    let e = c.value.ensures ∙ ap (value (result_of a.context.now.fit.now (a.i + 2))) (to_z-of_z w32 a.id c.ranges.id) in
    rw c.from_residual.ensures (rig-none a.id a.ship (pair_in a.context.now a.i) (sym e ∙ c.in_err-size.was))

pub returns : goal.returns
returns c =
    let a = c.args in
    let e = c.value.ensures ∙ ap (value (result_of a.context.now.fit.now (a.i + 2))) (to_z-of_z w32 a.id c.ranges.id) in
    rw c.then_some.ensures
    (rig-some a.id a.ship (pair_in a.context.now a.i) (sym (c.is_in.ensures) ∙ c.if-not-is_in.false) (sym e ∙ c.in_ok-size.was)
    c.to_u8.ensures.0 c.to_u8-2.ensures.0)
