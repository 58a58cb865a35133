-- Document 02, P1: the call that trims a catalogue to what one fit touches, as a function of bytes.
use Rattle.std.specs.Prelude.{ℕ, List, ◌++◌}
use Rattle.catalogue.specs.Catalogue.{catalogue_of}
use Rattle.fit.specs.Fit.{fit_of}
use Rattle.calls.specs.Answers.{image_refusals}
use Rattle.calls.specs.Output.{Output, output, room_refusals}
use Rattle.trim.specs.Trim.{touched, trim_refusals, trimmed_image}

-- 1 to 6, 9 where any result wants too many skills, 10 by the trimmed catalogue
unfoldable pub trim_call : (catalogue fit buffer : List ℕ) → Output
trim_call catalogue fit buffer =
    let c = catalogue_of catalogue in
    let f = fit_of fit in
    let bs = trimmed_image catalogue (touched c f) in
    output (image_refusals catalogue fit ++ (trim_refusals c f ++ room_refusals buffer bs)) bs
