-- The list call in other forms: as it was before drones were totalled without loss, when refusal 7 stood in front of 10, today's list and all;
-- and one that knows no leagues, which gives the Rust's list with the types that are missing behind it.
use Rattle.std.specs.Prelude.{ℕ, Bool, true, false, ◌&&◌, List, ◌∷◌, ◌++◌, ltb}
use Rattle.words.specs.Words.{given}
use Rattle.numbers.specs.Names as Names
use Rattle.numbers.specs.Refusals as Refusals
use Rattle.catalogue.specs.Catalogue.{Catalogue, catalogue_of}
use Rattle.catalogue.specs.Lookups.{name_id}
use Rattle.fit.specs.Fit.{Fit, fit_of}
use Rattle.context.specs.Context.{pairs}
use Rattle.resource.specs.Resource.{launched}
use Rattle.validate.specs.Kind.{is_hull}
use Rattle.validate.specs.Validate.{list_of}
use Rattle.lists.specs.Terms.{Terms}
use Rattle.lists.specs.Unknown.{unknown_types}
use Rattle.lists.specs.Lists.{on_hull, for_reader, list_for}
use Rattle.calls.specs.Answers.{Answer, answer, image_refusals, input_refusals, buffer_refusals}
use Rattle.fitcheck.specs.Calls.{no_reader}

-- 7: on a hull, its name present, launched drones over 4,294,967,295
unfoldable pub too_many_drones : Catalogue → Fit → Bool
too_many_drones c f =
    is_hull c f.frame.ship && given (name_id c.names Names.max_active_drones) false (λ _. true) && ltb 4294967295 (launched (pairs c f))

unfoldable pub list_before : Terms → (catalogue fit buffer : List ℕ) → Answer
list_before t catalogue fit buffer =
    let c = catalogue_of catalogue in
    let f = fit_of fit in
    let es = list_for t c f in
    answer ((Refusals.no_reader, no_reader t) ∷ (input_refusals t catalogue fit ++ (7, too_many_drones c f) ∷ buffer_refusals buffer es)) es

-- a call that brings no profile: of its terms it reads the reader alone
unfoldable pub rust_call : Terms → (catalogue fit buffer : List ℕ) → Answer
rust_call t catalogue fit buffer =
    let c = catalogue_of catalogue in
    let f = fit_of fit in
    let es = for_reader t.reader (list_of c f ++ on_hull c f.frame (unknown_types c (pairs c f))) in
    answer ((Refusals.no_reader, no_reader t) ∷ (image_refusals catalogue fit ++ buffer_refusals buffer es)) es
