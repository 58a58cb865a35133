-- `marks::next_four` meets its contract: four words that are 0 where the four joined are.
use native.Mathlib.Omega.{arith}
use Rattle.marks.proofs.Places.{empty_four}
use Rattle.marks.proofs.next_four.Goals as goal

pub loop-i-preserved : goal.loop-i-preserved
loop-i-preserved c =
    let l = c.loop-i in (
      omega (arith, l.invariant.0),
      omega (arith, l.invariant.1, c.loop-i-test.true),
      empty_four c.args.marks.now c.args.from l.i l.invariant.2 c.if-all-ne0.false,
    )
