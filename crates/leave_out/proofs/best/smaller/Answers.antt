-- `best::smaller` meets its contract.
use Rattle.std.proofs.Common.{Bool, cond, sym, ap, ◌∙◌}
use lib.ListN.{take}
use Rattle.leave_out.proofs.best.smaller.Goals as goal

pub returns-then-is_better : goal.returns-then-is_better
returns-then-is_better c =
    let a = c.args in
    ap (λ (b : Bool). cond b (take a.n a.set.now) (take a.n a.best.now)) (sym c.if-is_better.true ∙ c.is_better.ensures)

pub returns : goal.returns
returns c =
    let a = c.args in
    ap (λ (b : Bool). cond b (take a.n a.set.now) (take a.n a.best.now)) (sym c.if-is_better.false ∙ c.is_better.ensures)
