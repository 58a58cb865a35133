-- `marks::mark` meets its contract: one word is stored, with one bit more.
use Prim.Native.Nat.{◌/◌}
use lib.ListN.{length-set}
use Rattle.marks.proofs.Places.{mark_set}
use Rattle.marks.proofs.mark.Goals as goal

pub returns : goal.returns
returns c =
    let a = c.args in
    record {
      marked = mark_set a.marks.now a.i c.with_bit.result c.requires c.with_bit.ensures;
      long = length-set a.marks.now (a.i / 64) c.with_bit.result;
    }
