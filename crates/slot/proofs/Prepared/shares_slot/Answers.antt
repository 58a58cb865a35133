-- `Prepared::shares_slot` meets its contract. The invariant: the count so far tells whether another pair is among the first j.
use native.Mathlib.Omega.{arith}
use mathlib.Core.Path.{◌≡◌}
use lib.Dec.{eqb}
use lib.ListN.{get_or}
use Rattle.words.proofs.Tables.{any_none}
use Rattle.context.specs.Gathered.{pair_count}
use Rattle.context.specs.Held.{pair_in}
use Rattle.slot.specs.Slot.{shares_slot}
use Rattle.slot.proofs.Checks.{any-all}
use Rattle.slot.proofs.Sharing.{byte-cond, byte-le, told_none, told-all, shares_next}
use Rattle.slot.proofs.Prepared.shares_slot.Goals as goal

pub loop-j-init : goal.loop-j-init
loop-j-init c = (omega arith, told_none _ (any_none _ _))

pub loop-j-preserved : goal.loop-j-preserved
loop-j-preserved c =
    let l = c.loop-j in
    let a = c.args in
    let x = a.self.now in
    let same = eqb (get_or x.places l.j 0) (get_or x.places a.i 0) in (
      omega (arith, l.invariant.0, byte-le same),
      shares_next x.context.now.catalogue.now x.context.now.fit.now a.i l.j (x.placed a.i c.requires)
          (x.placed l.j (omega (arith, c.loop-j-test.true, c.pair_count-pairs.ensures)))
          (byte-cond same) l.invariant.1,
    )

pub returns : goal.returns
returns c =
    let l = c.loop-j in
    let x = c.args.self.now.context.now in
    let e : l.j ≡ pair_count x.fit.now = omega arith in
    any-all (shares_slot (pair_in x c.args.i)) x.catalogue.now x.fit.now e (told-all (omega (arith, e, c.requires)) l.invariant.1)
