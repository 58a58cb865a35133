-- `fitcheck::answer_cause` meets its contract: refusals 1 to 6 of the images, then the cause.
use Rattle.std.proofs.Common.{◌≡◌, sym, Err, rules}
use Rattle.calls.specs.Answers.{image_refusals}
use Rattle.calls.proofs.First.{images_sound}
use Rattle.calls.proofs.Outputs.{bytes_same, bytes-first}
use Rattle.fitcheck.specs.Cause.{cause_call}
use Rattle.fitcheck.proofs.Causing.{cause_past}
use Rattle.fitcheck.proofs.answer_cause.Goals as goal

pub returns-in_err-check_images : goal.returns-in_err-check_images
unfolding cause_call
returns-in_err-check_images c =
    let a = c.args in
    let e : c.from_residual.result ≡ Err c.in_err-check_images.field-0.0 = search rules in
    bytes-first a.out.now e (image_refusals a.catalogue.now a.fit.now) c.in_err-check_images.ensures _ _

pub new-catalogue-requires : goal.new-catalogue-requires
new-catalogue-requires c = (images_sound c.args.catalogue.now c.args.fit.now (sym c.in_ok-check_images.ensures)).0

pub new-fit-requires : goal.new-fit-requires
new-fit-requires c = (images_sound c.args.catalogue.now c.args.fit.now (sym c.in_ok-check_images.ensures)).1

pub returns : goal.returns
returns c =
    let a = c.args in
    bytes_same (sym (cause_past a.catalogue.now a.fit.now a.position a.out.now (sym c.in_ok-check_images.ensures)))
    (rw (c.new-catalogue.ensures, c.new-fit.ensures) at c.cause.ensures)
