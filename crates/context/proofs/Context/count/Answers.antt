-- `Context::count` meets its contract: one pair more at a time.
use Rattle.std.proofs.Common.{◌≡◌, ◌<◌, sym, arith}
use Rattle.words.proofs.Tables.{count_none}
use Rattle.context.specs.Gathered.{pair_count}
use Rattle.context.proofs.Counts.{count_turn, count-all}
use Rattle.context.proofs.Context.count.Goals as goal

pub loop-i-init : goal.loop-i-init
loop-i-init g c = (omega arith, λ t h. sym (count_none _ _))

pub loop-i-preserved : goal.loop-i-preserved
loop-i-preserved g c =
    let l = c.loop-i in
    let x = c.args.self.now in
    let fit = x.fit.now in
    let h : l.i < pair_count fit = omega (arith, c.loop-i-test.true, c.pair_count-i-end.ensures) in (
      omega (arith, l.invariant.0, c.one_if-n.ensures.1),
      λ t tests. count_turn t x.catalogue.now fit (l.invariant.1 t tests) (tests l.i c.test.result h c.test.ensures)
          c.one_if-n.ensures.0,
    )

pub returns : goal.returns
returns g c =
    let l = c.loop-i in
    let x = c.args.self.now in
    let fit = x.fit.now in
    let e : l.i ≡ pair_count fit = omega (arith, l.auto.i-end, c.loop-i-test.false, c.pair_count-i-end.ensures) in
    λ t h. count-all t x.catalogue.now fit e (l.invariant.1 t h)
