-- `best::others` meets its contract: one pair more.
use Rattle.std.proofs.Common.{ℕ, ◌<◌, ◌∙◌, refl, not, false, arith}
use lib.ListN.{get_or, length-set}
use Rattle.limits.proofs.Limits.{kept_next}
use Rattle.leave_out.proofs.Trying.{flags-left}
use Rattle.leave_out.proofs.best.others.Goals as goal

none : (k : ℕ) → k < 0 → ⊥
none k h = omega (arith, h)

pub loop-i-init : goal.loop-i-init
loop-i-init c = (refl, λ k h. absurd (none k h))

pub loop-i-preserved : goal.loop-i-preserved
loop-i-preserved c =
    let l = c.loop-i in
    let off = c.args.off.now in (
      length-set l.left l.i _ ∙ l.invariant.0,
      kept_next (λ k. not (get_or off k false)) false l.left l.i (omega (arith, c.requires, c.loop-i-test.true, l.invariant.0)) l.invariant.1 refl,
    )

pub returns : goal.returns
returns c =
    let l = c.loop-i in
    let a = c.args in
    flags-left a.n l.left a.off.now (omega (arith, c.requires, l.invariant.0)) (omega (arith, c.requires))
    (λ k h. l.invariant.1 k (omega (arith, h, l.auto, c.loop-i-test.false)))
