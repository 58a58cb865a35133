-- `resource::drones_load` meets its contract: one pair more at a time.
use Rattle.std.proofs.Common.{◌≡◌, ℕ, sym, refl, ap, ◌∙◌, arith}
use Rattle.words.specs.Words.{table}
use Rattle.floats.specs.Floats.{of_nat}
use Rattle.context.specs.Gathered.{pair_count}
use Rattle.context.specs.Held.{pair_in}
use Rattle.context.proofs.Pairs.{pairs-table}
use Rattle.resource.specs.Resource.{launched}
use Rattle.resource.proofs.Sums.{launched-none, launched-more}
use Rattle.resource.proofs.drones_load.Goals as goal

pub loop-i-init : goal.loop-i-init
loop-i-init c = (omega arith, sym (launched-none (pair_in c.args.context.now)))

pub loop-i-preserved : goal.loop-i-preserved
loop-i-preserved c =
    let l = c.loop-i in
    let e = c.launched_at-sum.ensures in (
      omega (arith, e.1, l.invariant.0),
      omega (arith, launched-more (pair_in c.args.context.now) l.i, e.0, l.invariant.1),
    )

pub returns : goal.returns
returns c =
    let l = c.loop-i in
    let x = c.args.context.now in
    let e : l.i ≡ pair_count x.fit.now = omega (arith, l.auto.i-end, c.loop-i-test.false, c.pair_count-i-end.ensures) in (
      c.nearest_u64_to_f64.ensures
          ∙ ap of_nat (l.invariant.1 ∙ ap (λ (k : ℕ). launched (table k (pair_in x))) e ∙ ap launched (sym (pairs-table x.catalogue.now x.fit.now))),
      refl,
    )
