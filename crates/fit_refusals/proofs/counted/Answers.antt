-- `fit_refusals::counted` meets its contract. The invariant: the sum is how many attributes stand before result j.
use native.Mathlib.Omega.{arith}
use mathlib.Core.Path.{◌≡◌, ◌∙◌, ap, sym}
use Rattle.fit.specs.Fit.{start_at}
use Rattle.fit.proofs.Decoded.{start-next, start_none}
use Rattle.fit_refusals.proofs.counted.Goals as goal

pub loop-j-init : goal.loop-j-init
loop-j-init c = (sym (start_none c.args.fit.now), omega arith)

pub loop-j-preserved : goal.loop-j-preserved
loop-j-preserved c = (omega (arith, start-next c.args.fit.now c.loop-j.j), omega arith)

pub returns : goal.returns
returns c =
    let l = c.loop-j in
    let e : l.j ≡ c.args.n = omega arith in
    l.invariant.0 ∙ ap (start_at c.args.fit.now) e
