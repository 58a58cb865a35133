-- `Trimmer::count` meets its contract. The invariant: those of the first i records that are kept are counted, and no kept run goes on.
use Prim.Native.Nat.{ℕ}
use native.Mathlib.Omega.{arith}
use mathlib.Core.Path.{ap}
use mathlib.Core.List.{List}
use Rattle.trim.specs.Parts.{size_of, first_of}
use Rattle.trim.proofs.Naming.{part-few}
use Rattle.trim.proofs.Runs.{same_trans, counted_none, counted_next, counted-few, counted_all}
use Rattle.trim.proofs.trimmer.Trimmer.count.Goals as goal

pub loop-i-init : goal.loop-i-init
loop-i-init c = counted_none c.args.self.now c.args.part

pub overflow_add-first : goal.overflow_add-first
overflow_add-first c =
    let b = c.args.self.now.window.catalogue.now in
    omega (arith, c.first-first.ensures, c.loop-i-test.true, c.block-n.ensures, part-few b c.is_sound.ensures c.args.part)

pub next_run-run-requires : goal.next_run-run-requires
next_run-run-requires c =
    let s = c.args.self.now in
    let p = c.args.part in
    let l = c.loop-i in
    let e = (same_trans s l.self c.reach.new.self l.invariant.same c.reach.ensures.0).catalogue in
    let n = ap (λ (b : List ℕ). size_of b p) e in
    let first = ap (λ (b : List ℕ). first_of b p) e in (
      omega (arith, n, c.loop-i-test.true, c.block-n.ensures),
      omega (arith, first, c.first-first.ensures, c.reach.ensures.1),
      omega (arith, first, c.first-first.ensures, c.reach.ensures.2),
    )

pub overflow_sub-count : goal.overflow_sub-count
overflow_sub-count c =
    let l = c.loop-i in
    let run = c.next_run-run in
    let next = counted_next c.args.self.now c.args.part l.self l.count l.i l.invariant c.reach.new.self c.reach.ensures.0 run.result.from
    run.result.to run.ensures in
    omega (arith, next.0.forward, next.0.ordered)

pub overflow_add-count : goal.overflow_add-count
overflow_add-count c =
    let s = c.args.self.now in
    let p = c.args.part in
    let l = c.loop-i in
    let run = c.next_run-run in
    let next = counted_next s p l.self l.count l.i l.invariant c.reach.new.self c.reach.ensures.0 run.result.from run.result.to run.ensures in
    omega (arith, counted-few s p l.self l.count l.i l.invariant, next.0.within, part-few s.window.catalogue.now c.is_sound.ensures p)

pub loop-i-smaller : goal.loop-i-smaller
loop-i-smaller c =
    let l = c.loop-i in
    let run = c.next_run-run in
    let next = counted_next c.args.self.now c.args.part l.self l.count l.i l.invariant c.reach.new.self c.reach.ensures.0 run.result.from
    run.result.to run.ensures in
    omega (arith, next.0.onward, next.0.within)

pub loop-i-preserved : goal.loop-i-preserved
loop-i-preserved c =
    let l = c.loop-i in
    let run = c.next_run-run in
    (counted_next c.args.self.now c.args.part l.self l.count l.i l.invariant c.reach.new.self c.reach.ensures.0 run.result.from run.result.to
    run.ensures).1

pub returns : goal.returns
returns c =
    let s = c.args.self.now in
    let p = c.args.part in
    let l = c.loop-i in (
      l.invariant.same,
      counted_all s p l.self l.count l.i l.invariant (omega (arith, c.loop-i-test.false, c.block-n.ensures)),
      counted-few s p l.self l.count l.i l.invariant,
    )
