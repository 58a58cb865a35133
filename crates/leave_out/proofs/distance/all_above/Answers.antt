-- `distance::all_above` meets its contract: one rack more.
use Rattle.std.proofs.Common.{◌≡◌, ◌≤◌, ℕ, ap, ◌∙◌, arith, rules}
use Rattle.words.specs.Words.{sum_of, from}
use Rattle.leave_out.specs.Held.{above_in}
use Rattle.leave_out.proofs.Racking.{sum-next, sum_none}
use Rattle.leave_out.proofs.distance.all_above.Goals as goal

pub loop-kind-init : goal.loop-kind-init
loop-kind-init c = (sum_none c.args.context.now, omega arith)

pub loop-kind-preserved : goal.loop-kind-preserved
loop-kind-preserved c =
    let l = c.loop-kind in
    let small : c.above.result ≤ 4294967295 = search rules in (
      sum-next c.args.context.now l.kind l.sum c.above.result l.invariant.0 c.above.ensures,
      omega (arith, l.invariant.1, small),
    )

pub returns : goal.returns
returns c =
    let l = c.loop-kind in
    let e : l.kind ≡ 6 = omega (arith, l.auto, c.loop-kind-test.false) in
    l.invariant.0 ∙ ap (λ (k : ℕ). sum_of (above_in c.args.context.now) (from 0 k)) e
