-- Document 02, P11: the call that trains a fit for one of its results, as a function of bytes.
use Rattle.std.specs.Prelude.{ℕ, List, ◌++◌}
use Rattle.catalogue.specs.Catalogue.{catalogue_of}
use Rattle.fit.specs.Fit.{fit_of}
use Rattle.calls.specs.Answers.{image_refusals}
use Rattle.calls.specs.Output.{Output, output, room_refusals}
use Rattle.training.specs.Training.{training_of, trained_by, train_refusals, trained_image}

-- 1 to 6, 8 and 9 as the skill call gives them, 16 by the first list, 10 by the fit after the steps
unfoldable pub train_call : (catalogue fit : List ℕ) (result steps : ℕ) (buffer : List ℕ) → Output
train_call catalogue fit result steps buffer =
    let c = catalogue_of catalogue in
    let f = fit_of fit in
    let bs = trained_image fit (training_of (trained_by c result steps f)) in
    output (image_refusals catalogue fit ++ (train_refusals c f result ++ room_refusals buffer bs)) bs
