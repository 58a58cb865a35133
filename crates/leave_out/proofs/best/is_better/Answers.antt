-- `best::is_better` meets its contract: sizes first.
use Rattle.std.proofs.Common.{Bool, ◌&&◌, sym, ap, ◌∙◌}
use lib.ListN.{take}
use Rattle.leave_out.specs.Held.{passes}
use Rattle.leave_out.proofs.Marking.{and_true, and_false}
use Rattle.leave_out.proofs.best.is_better.Goals as goal

pub returns-then-is_smaller : goal.returns-then-is_smaller
returns-then-is_smaller c =
    let a = c.args in
    let p = passes a.rows.now (take a.n a.set.now) in
    c.is_good.ensures ∙ sym (and_true p) ∙ ap (λ (b : Bool). p && b) (sym c.if-is_smaller.true ∙ c.is_smaller.ensures)

pub returns-else-is_smaller : goal.returns-else-is_smaller
returns-else-is_smaller c =
    let a = c.args in
    let p = passes a.rows.now (take a.n a.set.now) in
    c.if-is_smaller.false ∙ sym (and_false p) ∙ ap (λ (b : Bool). p && b) (sym c.if-is_smaller.false ∙ c.is_smaller.ensures)
