-- `limits::state_at` meets its contract, by whether the pair is fitted.
use Prim.Native.Nat.{ℕ, ◌+◌}
use mathlib.Core.Path.{sym, ap, ◌∙◌}
use mathlib.Core.Bool.{Bool, cond}
use Rattle.context.specs.Held.{pair_in}
use Rattle.limits.specs.Groups.{state_of}
use Rattle.limits.proofs.state_at.Goals as goal

pub returns-then-is_fitted_at : goal.returns-then-is_fitted_at
unfolding state_of
returns-then-is_fitted_at c =
    let p = pair_in c.args.context.now c.args.i in
    let fitted = sym c.is_fitted_at.ensures ∙ c.if-is_fitted_at.true in
    ap (λ (n : ℕ). n + 1) (c.from.ensures ∙ c.result_state.ensures) ∙ sym (ap (λ (b : Bool). cond b (p.result.state + 1) 0) fitted)

pub returns : goal.returns
unfolding state_of
returns c =
    let p = pair_in c.args.context.now c.args.i in
    sym (ap (λ (b : Bool). cond b (p.result.state + 1) 0) (sym c.is_fitted_at.ensures ∙ c.if-is_fitted_at.false))
