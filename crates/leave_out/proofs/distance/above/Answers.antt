-- `distance::above` meets its contract, by whether the number is a kind's.
use Rattle.std.proofs.Common.{sym, ap, ◌∙◌}
use Rattle.racks.specs.Taking.{row_of, row_said}
use Rattle.cause.specs.Members.{slots_row}
use Rattle.cause.proofs.Looking.{made, unmade}
use Rattle.leave_out.specs.Held.{above_at}
use Rattle.leave_out.proofs.distance.above.Goals as goal

pub returns-in-Some : goal.returns-in-Some
returns-in-Some c =
    let a = c.args in
    made (slots_row a.kind) 0 (above_at a.context.now) (row_of c.in-Some.row) (sym c.row_at.ensures ∙ ap row_said c.in-Some.is) c.above_at.ensures

pub returns-in-None : goal.returns-in-None
returns-in-None c =
    let a = c.args in
    unmade (slots_row a.kind) 0 (above_at a.context.now) (sym c.row_at.ensures ∙ ap row_said c.in-None.is)
