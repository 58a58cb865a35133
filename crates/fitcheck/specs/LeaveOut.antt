-- Document 02, P13: the call that says what to leave out, within a budget of tries, as a function of bytes.
use Rattle.std.specs.Prelude.{ℕ, List, ◌++◌}
use Rattle.catalogue.specs.Catalogue.{catalogue_of}
use Rattle.fit.specs.Fit.{fit_of}
use Rattle.calls.specs.Answers.{image_refusals}
use Rattle.calls.specs.Output.{Output, output, room_refusals}
use Rattle.leave_out.specs.LeaveOut.{leave_out_bytes}

-- 1 to 6, 10 by all that is written
unfoldable pub leave_out_call : (catalogue fit : List ℕ) (budget : ℕ) (buffer : List ℕ) → Output
leave_out_call catalogue fit budget buffer =
    let bs = leave_out_bytes (catalogue_of catalogue) (fit_of fit) budget in
    output (image_refusals catalogue fit ++ room_refusals buffer bs) bs
