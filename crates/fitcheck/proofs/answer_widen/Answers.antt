-- `fitcheck::answer_widen` meets its contract: refusals 1 to 3 of the old form, then the buffer, then the new form.
use Rattle.std.proofs.Common.{◌≡◌, ◌≤◌, ◌<◌, refl, sym, ap, ◌∙◌, length, Err, rules, arith}
use Rattle.numbers.specs.Refusals as Refusals
use Rattle.widening.specs.Old.{old_refusals, old_refusal}
use Rattle.widening.specs.Widen.{widened}
use Rattle.widening.proofs.Judging.{accepted-old}
use Rattle.widening.proofs.Bytes.{widened-length}
use Rattle.calls.proofs.Outputs.{bytes_same, bytes-refused, bytes-first, bytes-written}
use Rattle.fitcheck.specs.Widen.{widen_call}
use Rattle.fitcheck.proofs.Widening.{widen_short, widen_written}
use Rattle.fitcheck.proofs.answer_widen.Goals as goal

pub returns-in_err-check : goal.returns-in_err-check
unfolding widen_call old_refusal
returns-in_err-check c =
    let e : c.from_residual.result ≡ Err c.in_err-check.field-0.0 = search rules in
    bytes-first c.args.out.now e (old_refusals c.args.old.now) c.in_err-check.ensures _ _

pub wide_size-size-requires : goal.wide_size-size-requires
wide_size-size-requires c = (accepted-old c.args.old.now (sym c.in_ok-check.ensures)).0

pub returns-then-out-size : goal.returns-then-out-size
returns-then-out-size c =
    let a = c.args in
    let h : length a.out.now < length (widened a.old.now) = omega (arith, c.wide_size-size.ensures, c.if-out-size.true) in
    bytes_same (sym (widen_short a.old.now a.out.now (sym c.in_ok-check.ensures) h)) (bytes-refused a.out.now Refusals.too_short refl)

pub widen-requires : goal.widen-requires
widen-requires c =
    let sized = (accepted-old c.args.old.now (sym c.in_ok-check.ensures)).0 in
    (sized, omega (arith, c.wide_size-size.ensures, c.if-out-size.false, widened-length c.args.old.now sized))

pub returns : goal.returns
returns c =
    let a = c.args in
    let e = c.wide_size-size.ensures in
    let h : length (widened a.old.now) ≤ length a.out.now = omega (arith, e, c.if-out-size.false) in
    bytes_same (sym (widen_written a.old.now a.out.now (sym c.in_ok-check.ensures) h)) (bytes-written a.out.now (widened a.old.now) e c.widen.ensures h)
