-- Document 02, P9: the call that gives the smallest part of a fit that shows an entry, as a function of bytes.
use Rattle.std.specs.Prelude.{ℕ, List, ◌++◌}
use Rattle.catalogue.specs.Catalogue.{catalogue_of}
use Rattle.fit.specs.Fit.{fit_of}
use Rattle.calls.specs.Answers.{image_refusals}
use Rattle.calls.specs.Output.{Output, output, room_refusals}
use Rattle.cause.specs.Cause.{cause_refusals, cause_bytes}

-- 1 to 6, 14 by the list, 15 by every Cargo pair whatever the entry, 10 by four bytes a kept pair
unfoldable pub cause_call : (catalogue fit : List ℕ) (position : ℕ) (buffer : List ℕ) → Output
cause_call catalogue fit position buffer =
    let c = catalogue_of catalogue in
    let f = fit_of fit in
    let bs = cause_bytes c f position in
    output (image_refusals catalogue fit ++ (cause_refusals c f position ++ room_refusals buffer bs)) bs
