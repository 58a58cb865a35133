-- `by_number::set_of` meets its contract: one flag more.
use Rattle.std.proofs.Common.{ℕ, ◌<◌, ◌∙◌, refl, false, arith}
use lib.ListN.{length-set}
use Rattle.limits.proofs.Limits.{kept_next}
use Rattle.marks.specs.Marks.{bit_of}
use Rattle.leave_out.proofs.Trying.{flags-numbered}
use Rattle.leave_out.proofs.by_number.set_of.Goals as goal

none : (k : ℕ) → k < 0 → ⊥
none k h = omega (arith, h)

pub loop-i-init : goal.loop-i-init
loop-i-init c = (refl, λ k h. absurd (none k h))

pub loop-i-preserved : goal.loop-i-preserved
unfolding bit_of
loop-i-preserved c =
    let l = c.loop-i in (
      length-set l.set l.i _ ∙ l.invariant.0,
      kept_next (bit_of c.args.number) false l.set l.i (omega (arith, c.requires, c.loop-i-test.true, l.invariant.0)) l.invariant.1 refl,
    )

pub returns : goal.returns
returns c =
    let l = c.loop-i in
    let a = c.args in
    flags-numbered a.n a.number l.set (omega (arith, c.requires, l.invariant.0)) (λ k h. l.invariant.1 k (omega (arith, h, l.auto, c.loop-i-test.false)))
