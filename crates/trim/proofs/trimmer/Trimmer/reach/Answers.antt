-- `Trimmer::reach` meets its contract: the window stays, or is marked anew.
use native.Mathlib.Omega.{arith}
use mathlib.Core.Path.{refl}
use Rattle.trim.proofs.Filling.{filled-few, filled_whole}
use Rattle.trim.proofs.trimmer.Trimmer.reach.Goals as goal

pub invariant_of-self : goal.invariant_of-self
invariant_of-self c =
    let t = c.args.self.now in
    let k = c.fill in
    record {
      few = filled-few t.window k.new.self t.fit.now _ k.result k.ensures t.few;
      whole = filled_whole t.window k.new.self t.fit.now _ k.result k.ensures t.few;
    }

pub returns-then-place-low-lt-WINDOW : goal.returns-then-place-low-lt-WINDOW
returns-then-place-low-lt-WINDOW c =
    (record { catalogue = refl; fit = refl }, c.if-low-place.true, omega (arith, c.if-place-low-lt-WINDOW.true, c.if-low-place.true))

pub returns : goal.returns
returns c = (record { catalogue = c.fill.ensures.catalogue; fit = refl }, omega (arith, c.fill.ensures.low), omega (arith, c.fill.ensures.low))
