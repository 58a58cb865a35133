-- `bits::mark_where` meets its contract, by the flag.
use Rattle.std.proofs.Common.{Bool, refl, sym, ap, ◌∙◌, ◌&&◌, ◌||◌, eqb}
use Rattle.marks.specs.Marks.{is_marked}
use Rattle.leave_out.proofs.Marking.{or_false}
use Rattle.leave_out.proofs.bits.mark_where.Goals as goal

pub returns-then-inside : goal.returns-then-inside
returns-then-inside c =
    let a = c.args in
    let e = c.mark.ensures in
    record {
      marked = λ j. e.marked j ∙ ap (λ (b : Bool). is_marked a.marks.now j || (b && eqb a.place j)) (sym c.if-inside.true);
      long = e.long;
    }

pub returns-else-inside : goal.returns-else-inside
returns-else-inside c =
    let a = c.args in
    record {
      marked = λ j. sym (or_false (is_marked a.marks.now j)) ∙ ap (λ (b : Bool). is_marked a.marks.now j || (b && eqb a.place j)) (sym c.if-inside.false);
      long = refl;
    }
