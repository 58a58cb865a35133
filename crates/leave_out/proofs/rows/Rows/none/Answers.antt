-- `Rows::none` meets its contract: words that are all 0.
use Rattle.std.proofs.Common.{refl}
use Rattle.leave_out.proofs.Marking.{unmarked}
use Rattle.leave_out.proofs.rows.Rows.none.Goals as goal

pub returns : goal.returns
returns c = (refl, unmarked 6176 0)
