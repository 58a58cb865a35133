-- `marks::clear` meets its contract: one word more at a time.
use Prim.Native.Nat.{ℕ, ◌<◌}
use native.Mathlib.Nat.{eq-or-lt_of_le}
use native.Mathlib.Omega.{arith}
use mathlib.Core.Logic.{⊎_elim}
use mathlib.Core.Path.{◌≡◌, refl, ap, ◌∙◌}
use lib.ListN.{get_or, set, length-set}
use lib.Seq.{get_or-set_same, get_or-set_other}
use Rattle.marks.proofs.Places.{none-marked}
use Rattle.marks.proofs.clear.Goals as goal

pub loop-i-init : goal.loop-i-init
loop-i-init c = (refl, λ k h. absurd (omega (arith, h)))

pub loop-i-preserved : goal.loop-i-preserved
loop-i-preserved c =
    let l = c.loop-i in (
      length-set l.marks l.i 0 ∙ l.invariant.0,
      λ k h.
          ⊎_elim
          (λ (q : k ≡ l.i). ap (λ (j : ℕ). get_or (set l.marks l.i 0) j 0) q ∙ get_or-set_same l.marks l.i 0 0 (omega (arith, c.loop-i-test.true, l.invariant.0)))
          (λ (q : k < l.i). get_or-set_other l.marks l.i k 0 0 (λ e. omega (arith, e, q)) ∙ l.invariant.1 k q)
          (eq-or-lt_of_le (omega (arith, h))),
    )

pub returns : goal.returns
returns c =
    let l = c.loop-i in
    record {
      none = none-marked l.marks (λ k h. l.invariant.1 k (omega (arith, h, c.loop-i-test.false, l.invariant.0)));
      long = l.invariant.0;
    }
