-- Document 01, "Refusals in their order", and document 02: what a caller has after a call, and the order of the refusals.
use Rattle.std.specs.Prelude.{ℕ, ◌+◌, ◌*◌, ◌/◌, ◌%◌, ◌≤◌, ◌<◌, min, ◌≡◌, Bool, false, not, List, [], ◌∷◌, ◌++◌, ◌⊎◌, ◌↔◌, T, eqb, ltb, length, get_or, take, drop}
use Rattle.std.specs.Prelude.{Some}
use Rattle.std.specs.Prelude.{slice_get}
use Rattle.words.specs.Words.{given, table}
use Rattle.catalogue.specs.Catalogue.{catalogue_of}
use Rattle.catalogue.specs.Refusals as Catalogue
use Rattle.fit.specs.Fit.{fit_of, result_at}
use Rattle.fit.specs.Refusals as Fit
use Rattle.context.specs.Context.{pairs}
use Rattle.entry.specs.declared.Entry.{Entry}
use Rattle.entry.specs.Entries.{entry_bytes}
use Rattle.profile.specs.Profile.{prices_of, bad_profile, bad_prices}
use Rattle.skill.specs.Skill.{wants_too_many, skill_list}
use Rattle.lists.specs.Terms.{Terms}
use Rattle.lists.specs.Lists.{list_for}
use Rattle.calls.specs.Answers.{Answer, buffered, returned, too_short}

-- ---- what a caller has after a call: the word, and the buffer
pub record Outcome : Type 0 where
  pub word : ℕ
  pub buffer : List ℕ

abbrev pub outcome : List ℕ → Answer → Outcome
outcome buffer answer = record { word = returned answer; buffer = buffered buffer answer }

-- the word's upper half is the refusal number, 0 where the call is answered; its lower half is the count
abbrev pub refusal : Outcome → ℕ
refusal o = o.word / 4294967296

abbrev pub count : Outcome → ℕ
count o = o.word % 4294967296

-- the 24 bytes of entry i
abbrev pub entry_at : Outcome → ℕ → List ℕ
entry_at o i = take 24 (drop (24 * i) o.buffer)

-- all entries that a call left, each as its bytes
abbrev pub entries_of : Outcome → List (List ℕ)
entries_of o = table (count o) (entry_at o)

-- ---- the refusals, each with its condition, in their order
-- no call gives a higher number
abbrev pub highest : ℕ
highest = 20

abbrev pub Conditions : Type 0
Conditions = List (ℕ × Bool)

abbrev pub catalogue_conditions : (catalogue : List ℕ) → Conditions
catalogue_conditions catalogue =
    let c = catalogue_of catalogue in
    (1, Catalogue.bad_length catalogue) ∷ (2, Catalogue.bad_order c) ∷ (3, Catalogue.bad_field c) ∷ []

abbrev pub fit_conditions : (fit : List ℕ) → Conditions
fit_conditions fit =
    let f = fit_of fit in
    (4, Fit.bad_size fit) ∷ (5, Fit.bad_order f) ∷ (6, Fit.bad_field f) ∷ []

-- of both images on a page: 13 for pairs. A limit above the main page's counts as that one
abbrev pub page_conditions : Terms → (catalogue fit : List ℕ) → Conditions
page_conditions t catalogue fit =
    catalogue_conditions catalogue ++ fit_conditions fit
    ++ (13, ltb (min t.pairs 256) (length (pairs (catalogue_of catalogue) (fit_of fit)))) ∷ []

abbrev pub profile_conditions : (profile : List ℕ) → Conditions
profile_conditions profile = (11, bad_profile profile) ∷ (12, bad_prices (prices_of profile)) ∷ []

-- of all that a list call brings
abbrev pub input_conditions : Terms → (catalogue fit : List ℕ) → Conditions
input_conditions t catalogue fit = page_conditions t catalogue fit ++ profile_conditions t.profile

-- a reader's number that is nobody's, in front of all
abbrev pub reader_conditions : Terms → Conditions
reader_conditions t = (19, ltb 2 t.reader) ∷ []

abbrev pub list_conditions : Terms → (catalogue fit buffer : List ℕ) → Conditions
list_conditions t catalogue fit buffer =
    reader_conditions t
    ++ (input_conditions t catalogue fit ++ (10, too_short buffer (list_for t (catalogue_of catalogue) (fit_of fit))) ∷ [])

-- 20: a guest's call, behind 19 alone. 13 for skills behind 9: over the page's limit, and not over the main page's
abbrev pub skill_conditions : Terms → (catalogue fit : List ℕ) (result : ℕ) (buffer : List ℕ) → Conditions
skill_conditions t catalogue fit result buffer =
    let c = catalogue_of catalogue in
    let f = fit_of fit in
    reader_conditions t
    ++ (20, eqb t.reader 0)
    ∷ (page_conditions t catalogue fit
    ++ (8, ltb (length f.results + 1) result)
    ∷ (9, given (result_at f result) false (wants_too_many 512 c))
    ∷ (13, given (result_at f result) false (wants_too_many (min t.skills 512) c))
    ∷ (10, too_short buffer (skill_list c f result))
    ∷ [])

-- n is the first number whose condition holds
abbrev pub First : ℕ → Conditions → Type 0
First n [] = ⊥
First n (x ∷ l) = ((x.0 ≡ n) × T x.1) ⊎ (T (not x.1) × First n l)

-- no condition holds
abbrev pub None : Conditions → Type 0
None [] = Unit {0}
None (x ∷ l) = T (not x.1) × None l

-- ---- a call under some conditions, which lists es where none of them holds
pub record Answers (conditions : Conditions) (es : List Entry) (before : List ℕ) (o : Outcome) : Type 0 where
  -- a number refuses exactly where its condition is the first that holds, and is one of 1 to 20
  pub refused : (n : ℕ) → 0 < n → (refusal o ≡ n) ↔ First n conditions
  pub answered : (refusal o ≡ 0) ↔ None conditions
  pub numbered : refusal o ≤ highest
  -- a refusal counts nothing and changes no byte
  pub nothing : 0 < refusal o → (count o ≡ 0) × (o.buffer ≡ before)
  -- a list has its entries from byte 0 on, and leaves every byte behind them
  pub counted : refusal o ≡ 0 → count o ≡ length es
  pub entries : refusal o ≡ 0 → (i : ℕ) (e : Entry) → slice_get es i ≡ Some e → entry_at o i ≡ entry_bytes e
  pub others : refusal o ≡ 0 → (i : ℕ) → 24 * length es ≤ i → get_or o.buffer i 0 ≡ get_or before i 0
  pub length_kept : length o.buffer ≡ length before
