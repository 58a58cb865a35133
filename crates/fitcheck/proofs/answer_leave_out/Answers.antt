-- `fitcheck::answer_leave_out` meets its contract: refusals 1 to 6 of the images, then what to leave out.
use Rattle.std.proofs.Common.{◌≡◌, ℕ, List, sym, Err, rules}
use Rattle.catalogue.specs.Catalogue.{catalogue_of}
use Rattle.fit.specs.Fit.{fit_of}
use Rattle.calls.specs.Answers.{image_refusals}
use Rattle.calls.specs.Output.{output, room_refusals}
use Rattle.calls.specs.Gave.{GaveBytes, word_of}
use Rattle.calls.proofs.First.{images_sound}
use Rattle.calls.proofs.Outputs.{bytes_same, bytes-first}
use Rattle.cause.proofs.Caused.{given_also}
use Rattle.leave_out.specs.LeaveOut.{leave_out_bytes}
use Rattle.fitcheck.specs.LeaveOut.{leave_out_call}
use Rattle.fitcheck.proofs.Leaving.{leave_out_past}
use Rattle.fitcheck.proofs.answer_leave_out.Goals as goal

pub returns-in_err-check_images : goal.returns-in_err-check_images
unfolding leave_out_call
returns-in_err-check_images c =
    let a = c.args in
    let e : c.from_residual.result ≡ Err c.in_err-check_images.field-0.0 = search rules in
    bytes-first a.out.now e (image_refusals a.catalogue.now a.fit.now) c.in_err-check_images.ensures _ _

pub new-catalogue-requires : goal.new-catalogue-requires
new-catalogue-requires c = (images_sound c.args.catalogue.now c.args.fit.now (sym c.in_ok-check_images.ensures)).0

pub new-fit-requires : goal.new-fit-requires
new-fit-requires c = (images_sound c.args.catalogue.now c.args.fit.now (sym c.in_ok-check_images.ensures)).1

pub returns : goal.returns
returns c =
    let a = c.args in
    let bytes = λ (b m : List ℕ). leave_out_bytes (catalogue_of b) (fit_of m) a.budget in
    let gave = λ (b m : List ℕ).
    GaveBytes a.out.now c.leave_out.new.out (word_of c.leave_out.result) (output (room_refusals a.out.now (bytes b m)) (bytes b m)) in
    bytes_same (sym (leave_out_past a.catalogue.now a.fit.now a.budget a.out.now (sym c.in_ok-check_images.ensures)))
    (given_also gave c.new-catalogue.ensures c.new-fit.ensures c.leave_out.ensures)
