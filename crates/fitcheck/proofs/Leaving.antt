-- What the call that says what to leave out answers, by the refusals of both images.
use Prim.Native.Nat.{ℕ}
use mathlib.Core.Path.{◌≡◌}
use mathlib.Core.List.{List}
use Rattle.words.specs.Words.{first_of}
use Rattle.catalogue.specs.Catalogue.{catalogue_of}
use Rattle.fit.specs.Fit.{fit_of}
use Rattle.calls.specs.Answers.{image_refusals}
use Rattle.calls.specs.Output.{output, room_refusals}
use Rattle.calls.proofs.First.{numbered-images}
use Rattle.calls.proofs.Outputs.{output-past}
use Rattle.leave_out.specs.LeaveOut.{leave_out_bytes}
use Rattle.fitcheck.specs.LeaveOut.{leave_out_call}

module _ (catalogue fit : List ℕ) (budget : ℕ) (buffer : List ℕ) where
  abbrev bytes : List ℕ
  bytes = leave_out_bytes (catalogue_of catalogue) (fit_of fit) budget

  pub leave_out_past : first_of (image_refusals catalogue fit) ≡ 0
      → leave_out_call catalogue fit budget buffer ≡ output (room_refusals buffer bytes) bytes
  unfolding leave_out_call
  leave_out_past e = output-past (image_refusals catalogue fit) _ _ 6 (numbered-images catalogue fit) e
