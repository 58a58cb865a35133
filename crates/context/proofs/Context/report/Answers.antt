-- `Context::report` meets its contract: a loop over the pairs, with an entry or none about each.
use Prim.Native.Nat.{◌<◌}
use native.Mathlib.Omega.{arith}
use mathlib.Core.Path.{refl, ◌∙◌}
use Rattle.std.specs.Prelude.{None, Some}
use Rattle.context.specs.Gathered.{pair_count}
use Rattle.context.proofs.Loops.{passed_none, passed_entry, passed_silent, passed_all}
use Rattle.context.proofs.Context.report.Goals.{in-Some, in_default}
use Rattle.context.proofs.Context.report.Goals as goal

pub loop-i-init : goal.loop-i-init
loop-i-init g c = (refl, omega arith, λ rule h. passed_none _ _ _ _)

pub loop-i-preserved : goal.loop-i-preserved
loop-i-preserved g c =
    let x = c.args.self.now in
    let l = c.loop-i in
    let more : l.i < pair_count x.fit.now = omega (arith, c.loop-i-test.true, c.pair_count-i-end.ensures) in
    elim c.match-broken.branch [
      | in-Some w ↦ rw w.entries-is (
        w.emit.ensures.same ∙ l.invariant.0,
        omega (arith, l.invariant.1, w.emit.ensures.count),
        λ rule h.
            passed_entry x.catalogue.now x.fit.now rule more (h l.i (Some w.in-Some.rule) more w.in-Some.ensures) w.emit.ensures (l.invariant.2 rule h),
      )
      | in_default w ↦ rw w.entries-is (
        l.invariant.0,
        omega (arith, l.invariant.1),
        λ rule h. passed_silent x.catalogue.now x.fit.now rule more (h l.i None more w.in_default.ensures) (l.invariant.2 rule h),
      )
    ]

pub returns : goal.returns
returns g c =
    let x = c.args.self.now in
    let l = c.loop-i in
    let sound = x.gathered.fit_sound in
    record {
      same = l.invariant.0;
      few = omega (arith, l.invariant.1, l.auto.i-end, c.pair_count-i-end.ensures, sound.sized.items);
      wrote = λ rule h. (passed_all x.catalogue.now x.fit.now _ sound (omega arith) (l.invariant.2 rule h)).0;
    }
