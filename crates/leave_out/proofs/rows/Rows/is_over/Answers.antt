-- `Rows::is_over` meets its contract: the own pair first.
use Rattle.std.proofs.Common.{sym, ◌∙◌}
use Rattle.leave_out.proofs.Rowing.{over-row, spared-row}
use Rattle.leave_out.proofs.rows.Rows.is_over.Goals as goal

pub returns-then-own_left : goal.returns-then-own_left
returns-then-own_left c = λ s h b.
    let a = c.args in
    over-row a.self.now a.r s a.left.now h b c.common.result c.common.ensures (sym (c.own_left.ensures s b) ∙ c.if-own_left.true)

pub returns-else-own_left : goal.returns-else-own_left
returns-else-own_left c = λ s h b.
    let a = c.args in
    c.if-own_left.false ∙ spared-row a.self.now a.r s a.left.now h b (sym (c.own_left.ensures s b) ∙ c.if-own_left.false)
