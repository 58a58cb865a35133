-- `distance::distance` meets its contract.
use Rattle.std.proofs.Common.{◌-◌, ℕ, ap, ◌∙◌}
use Rattle.leave_out.proofs.distance.distance.Goals as goal

pub returns : goal.returns
returns c = c.saturating_sub.ensures ∙ ap (λ (k : ℕ). c.args.size - k) c.surplus.ensures
