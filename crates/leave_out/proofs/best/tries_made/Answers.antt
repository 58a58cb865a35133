-- `best::tries_made` meets its contract.
use Rattle.std.proofs.Common.{◌+◌, ℕ, min, ap, ◌∙◌}
use Rattle.leave_out.specs.LeaveOut.{all_tries}
use Rattle.leave_out.proofs.best.tries_made.Goals as goal

pub returns : goal.returns
unfolding all_tries
returns c = let a = c.args in c.min.ensures ∙ ap (λ (k : ℕ). min a.budget (a.n + k)) c.numbered.ensures.0
