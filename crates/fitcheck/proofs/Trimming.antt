-- What the trimming call answers, by the refusals of both images.
use Prim.Native.Nat.{ℕ}
use mathlib.Core.Path.{◌≡◌}
use mathlib.Core.List.{List, ◌++◌}
use Rattle.words.specs.Words.{first_of}
use Rattle.catalogue.specs.Catalogue.{catalogue_of}
use Rattle.fit.specs.Fit.{fit_of}
use Rattle.calls.specs.Answers.{image_refusals}
use Rattle.calls.specs.Output.{output, room_refusals}
use Rattle.calls.proofs.First.{numbered-images}
use Rattle.calls.proofs.Outputs.{output-past}
use Rattle.trim.specs.Trim.{touched, trim_refusals, trimmed_image}
use Rattle.fitcheck.specs.Trim.{trim_call}

module _ (catalogue fit buffer : List ℕ) where
  abbrev bytes : List ℕ
  bytes = trimmed_image catalogue (touched (catalogue_of catalogue) (fit_of fit))

  pub trim_past : first_of (image_refusals catalogue fit) ≡ 0
      → trim_call catalogue fit buffer ≡ output (trim_refusals (catalogue_of catalogue) (fit_of fit) ++ room_refusals buffer bytes) bytes
  unfolding trim_call
  trim_past e = output-past (image_refusals catalogue fit) _ _ 6 (numbered-images catalogue fit) e
