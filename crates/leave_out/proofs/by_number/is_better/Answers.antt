-- `by_number::is_better` meets its contract: sizes first.
use Rattle.std.proofs.Common.{ℕ, Bool, ◌&&◌, sym, ap, ◌∙◌}
use lib.Dec.{ltb}
use borrow.Author.Tests.{lt-ltb, le-ltb}
use Rattle.leave_out.specs.LeaveOut.{set_of}
use Rattle.leave_out.specs.Held.{passes}
use Rattle.leave_out.proofs.Marking.{and_true, and_false}
use Rattle.leave_out.proofs.by_number.is_better.Goals as goal

pub returns-then-smaller : goal.returns-then-smaller
returns-then-smaller c =
    let a = c.args in
    let p = passes a.rows.now (set_of a.n a.number) in
    let size = c.size_of.ensures a.n c.requires.1 in
    c.is_good.ensures ∙ sym (and_true p) ∙ ap (λ (b : Bool). p && b) (sym (lt-ltb c.size_of.result a.best c.if-smaller.true) ∙ ap (λ (k : ℕ). ltb k a.best) size)

pub returns-else-smaller : goal.returns-else-smaller
returns-else-smaller c =
    let a = c.args in
    let p = passes a.rows.now (set_of a.n a.number) in
    let size = c.size_of.ensures a.n c.requires.1 in
    let larger = le-ltb c.size_of.result a.best c.if-smaller.false in
    larger ∙ sym (and_false p) ∙ ap (λ (b : Bool). p && b) (sym larger ∙ ap (λ (k : ℕ). ltb k a.best) size)
