-- `hall::fits_end` meets its contract. The invariant: `at` is where fit i begins.
use native.Mathlib.Omega.{arith}
use mathlib.Core.Path.{◌≡◌, ◌∙◌, ap}
use Rattle.fitcheck.specs.Hall.{fit_count, fit_start}
use Rattle.fitcheck.proofs.HallLaws.{start_none, start-next}
use Rattle.fitcheck.proofs.hall.fits_end.Goals as goal

pub overflow_mul-at : goal.overflow_mul-at
overflow_mul-at c = omega arith

pub overflow_add-at : goal.overflow_add-at
overflow_add-at c = omega arith

pub loop-i-init : goal.loop-i-init
loop-i-init c = (omega (arith, start_none c.args.input.now), omega arith)

pub length_at-at-requires : goal.length_at-at-requires
length_at-at-requires c = omega arith

pub overflow_add-at-in-loop-i : goal.overflow_add-at-in-loop-i
overflow_add-at-in-loop-i c = omega arith

pub loop-i-preserved : goal.loop-i-preserved
loop-i-preserved c =
    let l = c.loop-i in
    let b = c.args.input.now in
    (omega (arith, start-next b l.i), omega arith)

pub returns : goal.returns
returns c =
    let l = c.loop-i in
    let b = c.args.input.now in
    let e : l.i ≡ fit_count b = omega arith in
    l.invariant.0 ∙ ap (fit_start b) e
