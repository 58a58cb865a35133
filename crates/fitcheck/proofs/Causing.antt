-- What the cause call answers, by the refusals of both images.
use Prim.Native.Nat.{ℕ}
use mathlib.Core.Path.{◌≡◌}
use mathlib.Core.List.{List, ◌++◌}
use Rattle.words.specs.Words.{first_of}
use Rattle.catalogue.specs.Catalogue.{catalogue_of}
use Rattle.fit.specs.Fit.{fit_of}
use Rattle.calls.specs.Answers.{image_refusals}
use Rattle.calls.specs.Output.{output, room_refusals}
use Rattle.calls.proofs.First.{numbered-images}
use Rattle.calls.proofs.Outputs.{output-past}
use Rattle.cause.specs.Cause.{cause_refusals, cause_bytes}
use Rattle.fitcheck.specs.Cause.{cause_call}

module _ (catalogue fit : List ℕ) (position : ℕ) (buffer : List ℕ) where
  abbrev bytes : List ℕ
  bytes = cause_bytes (catalogue_of catalogue) (fit_of fit) position

  pub cause_past : first_of (image_refusals catalogue fit) ≡ 0
      → cause_call catalogue fit position buffer
      ≡ output (cause_refusals (catalogue_of catalogue) (fit_of fit) position ++ room_refusals buffer bytes) bytes
  unfolding cause_call
  cause_past e = output-past (image_refusals catalogue fit) _ _ 6 (numbered-images catalogue fit) e
