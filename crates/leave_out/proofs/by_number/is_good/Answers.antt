-- `by_number::is_good` meets its contract: by the pairs that are left.
use Rattle.std.proofs.Common.{List, Bool, not, ap, ◌∙◌, arith}
use Rattle.leave_out.specs.Held.{any_over}
use Rattle.leave_out.proofs.by_number.is_good.Goals as goal

pub none_over-requires : goal.none_over-requires
none_over-requires c = record { few = (omega (arith, c.requires.0), c.requires.2); inside = c.left_by-left.ensures.1 }

pub returns : goal.returns
returns c = c.none_over.ensures ∙ ap (λ (s : List Bool). not (any_over c.args.rows.now s)) c.left_by-left.ensures.0
