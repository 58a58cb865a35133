-- `widening::wide_size` meets its contract: the new form is as long as the sizes say there.
use native.Mathlib.Omega.{arith}
use Rattle.widening.proofs.Bytes.{widened-length}
use Rattle.widening.proofs.wide_size.Goals as goal

pub returns : goal.returns
returns c =
    omega (arith, widened-length c.args.old.now c.requires, rw c.new.ensures at c.bases-b.ensures)
