-- Document 01, "Refusals in their order", and document 02: what the list call and the skill call answer. Which refusal or which entries,
-- the buffer afterwards, the word that an exported call returns.
use Rattle.std.specs.Prelude.{ℕ, zero, suc, ◌+◌, ◌*◌, Bool, false, List, [], ◌∷◌, ◌++◌, ltb, length}
use Rattle.words.specs.Words.{given, first_of}
use Rattle.numbers.specs.Sizes as Sizes
use Rattle.numbers.specs.Refusals as Refusals
use Rattle.catalogue.specs.Catalogue.{Catalogue, catalogue_of}
use Rattle.catalogue.specs.Refusals.{catalogue_refusals}
use Rattle.fit.specs.Fit.{Fit, fit_of, result_at}
use Rattle.fit.specs.Refusals.{fit_refusals}
use Rattle.entry.specs.declared.Entry.{Entry}
use Rattle.entry.specs.Entries as Entries
use Rattle.profile.specs.Profile.{profile_refusals}
use Rattle.context.specs.Context.{pairs}
use Rattle.skill.specs.Skill.{wants_too_many, skill_list}
use Rattle.lists.specs.Terms.{Terms, pair_limit, skill_limit}

pub data Answer : Type 0 where
  Refused : ℕ → Answer
  Listed : List Entry → Answer

-- the first refusal that holds, or the entries
unfoldable pub answer_by : ℕ → List Entry → Answer
answer_by zero es = Listed es
answer_by (suc n) es = Refused (suc n)

unfoldable pub answer : List (ℕ × Bool) → List Entry → Answer
answer refusals es = answer_by (first_of refusals) es

-- 8: the result number is over R + 1
abbrev pub no_result : Fit → ℕ → Bool
no_result f result = ltb (length f.results + 1) result

-- 9: over 512 distinct wanted skills
abbrev pub too_many_skills : Catalogue → Fit → ℕ → Bool
too_many_skills c f result = given (result_at f result) false (wants_too_many Sizes.most_wanted c)

-- 13: more pairs than the page takes
abbrev pub over_pairs : Terms → Catalogue → Fit → Bool
over_pairs t c f = ltb (pair_limit t) (length (pairs c f))

-- 13: more distinct wanted skills than the page takes
abbrev pub over_skills : Terms → Catalogue → Fit → ℕ → Bool
over_skills t c f result = given (result_at f result) false (wants_too_many (skill_limit t) c)

-- 10: the buffer is shorter than 24 times the entry count
unfoldable pub too_short : List ℕ → List Entry → Bool
too_short buffer es = ltb (length buffer) (Sizes.entry_size * length es)

-- ---- the refusals, each with its number, in their order
abbrev pub image_refusals : (catalogue fit : List ℕ) → List (ℕ × Bool)
image_refusals catalogue fit = catalogue_refusals catalogue ++ fit_refusals fit

-- both images on a page
abbrev pub page_refusals : Terms → (catalogue fit : List ℕ) → List (ℕ × Bool)
page_refusals t catalogue fit = image_refusals catalogue fit ++ (Refusals.over_limit, over_pairs t (catalogue_of catalogue) (fit_of fit)) ∷ []

-- all that a list call brings
abbrev pub input_refusals : Terms → (catalogue fit : List ℕ) → List (ℕ × Bool)
input_refusals t catalogue fit = page_refusals t catalogue fit ++ profile_refusals t.profile

abbrev pub buffer_refusals : (buffer : List ℕ) → List Entry → List (ℕ × Bool)
buffer_refusals buffer es = (Refusals.too_short, too_short buffer es) ∷ []

-- 13 for skills stands behind 9: it says that the main page's limit is not passed
abbrev pub skill_refusals : Terms → Catalogue → Fit → (result : ℕ) → (buffer : List ℕ) → List (ℕ × Bool)
skill_refusals t c f result buffer =
    (Refusals.no_result, no_result f result)
    ∷ (Refusals.too_many_skills, too_many_skills c f result)
    ∷ (Refusals.over_limit, over_skills t c f result)
    ∷ (Refusals.too_short, too_short buffer (skill_list c f result))
    ∷ []

-- the buffer afterwards: a refusal writes nothing, a list its own entries from byte 0
unfoldable pub buffered : List ℕ → Answer → List ℕ
buffered buffer (Refused n) = buffer
buffered buffer (Listed es) = Entries.written buffer es

-- the word: the refusal number (0 where answered) times 4,294,967,296, plus the count (0 where refused)
unfoldable pub returned : Answer → ℕ
returned (Refused n) = n * Sizes.word
returned (Listed es) = length es
