-- `best::is_good` meets its contract: by the pairs that are left.
use Rattle.std.proofs.Common.{List, Bool, not, ap, ◌∙◌}
use Rattle.leave_out.specs.Held.{any_over}
use Rattle.leave_out.proofs.best.is_good.Goals as goal

pub none_over-requires : goal.none_over-requires
none_over-requires c = record { few = c.requires; inside = c.marks_of-marks.ensures.1 }

pub returns : goal.returns
returns c = c.none_over.ensures ∙ ap (λ (s : List Bool). not (any_over c.args.rows.now s)) (c.marks_of-marks.ensures.0 ∙ c.others-left.ensures)
