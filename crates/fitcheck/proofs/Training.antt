-- What the training call answers, by the refusals of both images.
use Prim.Native.Nat.{ℕ}
use mathlib.Core.Path.{◌≡◌}
use mathlib.Core.List.{List, ◌++◌}
use Rattle.words.specs.Words.{first_of}
use Rattle.catalogue.specs.Catalogue.{catalogue_of}
use Rattle.fit.specs.Fit.{fit_of}
use Rattle.calls.specs.Answers.{image_refusals}
use Rattle.calls.specs.Output.{output, room_refusals}
use Rattle.calls.proofs.First.{numbered-images}
use Rattle.calls.proofs.Outputs.{output-past}
use Rattle.training.specs.Training.{training_of, trained_by, train_refusals, trained_image}
use Rattle.fitcheck.specs.Train.{train_call}

module _ (catalogue fit : List ℕ) (result steps : ℕ) (buffer : List ℕ) where
  abbrev bytes : List ℕ
  bytes = trained_image fit (training_of (trained_by (catalogue_of catalogue) result steps (fit_of fit)))

  pub train_past : first_of (image_refusals catalogue fit) ≡ 0
      → train_call catalogue fit result steps buffer ≡ output (train_refusals (catalogue_of catalogue) (fit_of fit) result ++ room_refusals buffer bytes) bytes
  unfolding train_call
  train_past e = output-past (image_refusals catalogue fit) _ _ 6 (numbered-images catalogue fit) e
