-- `refusals::drawing::draw` ends: behind a part there is less of the row.
use Rattle.std.proofs.Common.{length}
use Rattle.refusals.proofs.drawing.draw.Given as goal

abbrev pub decreases-loop-mark : goal.decreases-loop-mark
decreases-loop-mark l = length l.parts
