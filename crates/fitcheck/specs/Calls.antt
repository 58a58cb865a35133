-- Document 01, "Refusals in their order", and document 02: the list call and the skill call as functions of bytes, each with its reader.
use Rattle.std.specs.Prelude.{ℕ, Bool, List, ◌∷◌, ◌++◌, eqb, ltb}
use Rattle.numbers.specs.Refusals as Refusals
use Rattle.numbers.specs.Readers as Readers
use Rattle.catalogue.specs.Catalogue.{catalogue_of}
use Rattle.fit.specs.Fit.{fit_of}
use Rattle.skill.specs.Skill.{skill_list}
use Rattle.lists.specs.Terms.{Terms}
use Rattle.lists.specs.Lists.{list_for}
use Rattle.calls.specs.Answers.{Answer, answer, page_refusals, input_refusals, buffer_refusals, skill_refusals}

-- 19: the reader's number is nobody's
abbrev pub no_reader : Terms → Bool
no_reader t = ltb Readers.officer t.reader

-- 20: a guest's call
abbrev pub is_guest : Terms → Bool
is_guest t = eqb t.reader Readers.guest

-- ---- the calls
unfoldable pub list_call : Terms → (catalogue fit buffer : List ℕ) → Answer
list_call t catalogue fit buffer =
    let es = list_for t (catalogue_of catalogue) (fit_of fit) in
    answer ((Refusals.no_reader, no_reader t) ∷ (input_refusals t catalogue fit ++ buffer_refusals buffer es)) es

-- it reads the reader and the limits of its terms alone
unfoldable pub skill_call : Terms → (catalogue fit : List ℕ) (result : ℕ) (buffer : List ℕ) → Answer
skill_call t catalogue fit result buffer =
    let c = catalogue_of catalogue in
    let f = fit_of fit in
    answer
    ((Refusals.no_reader, no_reader t)
    ∷ (Refusals.not_for_guests, is_guest t)
    ∷ (page_refusals t catalogue fit ++ skill_refusals t c f result buffer))
    (skill_list c f result)
