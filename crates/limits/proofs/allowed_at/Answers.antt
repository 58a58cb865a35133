-- `limits::allowed_at` meets its contract, by whether the pair has the limit and is fitted.
use Prim.Native.Nat.{◌+◌}
use mathlib.Core.Path.{sym, ap, ◌∙◌}
use mir.Syntax.{w32}
use mir.ValLaws.{to_z-of_z}
use Rattle.fit.specs.Fit.{result_of}
use Rattle.fit.specs.Lookups.{value}
use Rattle.context.specs.Held.{pair_in}
use Rattle.limits.proofs.Limits.{no_limit, not_fitted, allows}
use Rattle.limits.proofs.allowed_at.Goals as goal

pub returns-in_err-value : goal.returns-in_err-value
returns-in_err-value c =
    let a = c.args in
    let look = value (result_of a.context.now.fit.now (a.i + 2)) in
    c.from_residual.ensures ∙ no_limit a.id (pair_in a.context.now a.i) (sym (c.in_err-value.ensures ∙ ap look (to_z-of_z w32 a.id c.ranges.id)))

pub returns-then-not-is_fitted_at : goal.returns-then-not-is_fitted_at
returns-then-not-is_fitted_at c =
    let a = c.args in
    let look = value (result_of a.context.now.fit.now (a.i + 2)) in
    not_fitted a.id (pair_in a.context.now a.i) (sym (c.in_ok-value.ensures ∙ ap look (to_z-of_z w32 a.id c.ranges.id)))
    (sym c.is_fitted_at.ensures ∙ c.if-not-is_fitted_at.true)

pub returns : goal.returns
returns c =
    let a = c.args in
    let look = value (result_of a.context.now.fit.now (a.i + 2)) in
    allows a.id (pair_in a.context.now a.i) (sym (c.in_ok-value.ensures ∙ ap look (to_z-of_z w32 a.id c.ranges.id)))
    (sym c.is_fitted_at.ensures ∙ c.if-not-is_fitted_at.false) c.to_u32.ensures.0
