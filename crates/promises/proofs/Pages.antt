-- Pages: where 13 does not refuse a call, it may as well not be asked, and the main page never gives it. By the conditions of the calls.
use Prim.Native.Nat.{ℕ, ◌+◌, ◌≤◌, min}
use native.Mathlib.Omega.{arith}
use mathlib.Core.Path.{◌≡◌, sym, ap, ap₂, ◌∙◌, subst}
use mathlib.Core.Bool.{Bool, false, not}
use mathlib.Core.List.{List, [], ◌∷◌, ◌++◌}
use lib.Dec.{T, eqb, ltb}
use lib.ListN.{length}
use borrow.Author.Tests.{le-ltb}
use Rattle.words.specs.Words.{given, first_of}
use Rattle.catalogue.specs.Catalogue.{Catalogue, catalogue_of}
use Rattle.catalogue.specs.Refusals.{catalogue_refusals}
use Rattle.fit.specs.Fit.{Fit, fit_of, result_at}
use Rattle.fit.specs.Refusals.{fit_refusals}
use Rattle.entry.specs.declared.Entry.{Entry}
use Rattle.context.specs.Context.{pairs}
use Rattle.profile.specs.Profile.{profile_refusals}
use Rattle.skill.specs.Skill.{wants_too_many, skill_list}
use Rattle.lists.specs.Terms.{Terms, terms, read_by}
use Rattle.lists.specs.Lists.{list_for}
use Rattle.calls.specs.Answers.{answer_by, answer, no_result, too_many_skills, over_pairs, over_skills, too_short}
use Rattle.calls.specs.Answers.{image_refusals, buffer_refusals}
use Rattle.fitcheck.specs.Calls.{list_call, skill_call}
use Rattle.calls.proofs.Pages.{limits_unread}
use Rattle.promises.specs.Answers.{outcome, refusal, Conditions, catalogue_conditions, fit_conditions, profile_conditions, None}
use Rattle.promises.specs.Compare.{Alike}
use Rattle.promises.proofs.Conditions.{none-parts, never_first, never_reached, left_out}
use Rattle.promises.proofs.Lengths.{pairs-short}
use Rattle.promises.proofs.Answering.{given-first}
use Rattle.promises.proofs.Calls.{list_answers, skill_answers}

-- ---- the main page
module _ (t : Terms) (catalogue fit : List ℕ) (main : 256 ≤ t.pairs) where
  abbrev images : Conditions
  images = catalogue_conditions catalogue ++ fit_conditions fit

  abbrev over-pairs : Bool
  over-pairs = ltb (min t.pairs 256) (length (pairs (catalogue_of catalogue) (fit_of fit)))

  -- a fit that 4 does not refuse has no more pairs
  pub few-pairs : None images → T (not over-pairs)
  few-pairs n =
      let short = pairs-short fit (none-parts (catalogue_conditions catalogue) (fit_conditions fit) n).1.0 (catalogue_of catalogue) in
      subst (λ (b : Bool). T (not b)) (sym (le-ltb (min t.pairs 256) (length (pairs (catalogue_of catalogue) (fit_of fit))) (omega (arith, short, main)))) tt

  list_never : (buffer : List ℕ) → refusal (outcome buffer (list_call t catalogue fit buffer)) ≡ 13 → ⊥
  list_never buffer h =
      let es = list_for t (catalogue_of catalogue) (fit_of fit) in
      let behind : Conditions = profile_conditions t.profile ++ (10, too_short buffer es) ∷ [] in
      never_reached 13 ((19, ltb 2 t.reader) ∷ images) over-pairs behind (omega arith) (λ n. few-pairs n.1) (never_first 13 behind (omega arith))
      (((list_answers t catalogue fit buffer).refused 13 (omega arith)).0 h)

  -- what is not over 512 is not over the page's limit
  module _ (result : ℕ) (large : 512 ≤ t.skills) where
    abbrev many : ℕ → Bool
    many limit = given (result_at (fit_of fit) result) false (wants_too_many limit (catalogue_of catalogue))

    abbrev asked : Conditions
    asked = (8, ltb (length (fit_of fit).results + 1) result) ∷ (9, many 512) ∷ []

    few-skills : None asked → T (not (many (min t.skills 512)))
    few-skills n = let e : 512 ≡ min t.skills 512 = omega (arith, large) in subst (λ (k : ℕ). T (not (many k))) e n.1.0

    skill-never : (buffer : List ℕ) → refusal (outcome buffer (skill_call t catalogue fit result buffer)) ≡ 13 → ⊥
    skill-never buffer h =
        let room : Conditions = (10, too_short buffer (skill_list (catalogue_of catalogue) (fit_of fit) result)) ∷ [] in
        let over : ℕ × Bool = (13, many (min t.skills 512)) in
        let front : Conditions = (19, ltb 2 t.reader) ∷ (20, eqb t.reader 0) ∷ images in
        never_reached 13 front over-pairs (asked ++ over ∷ room) (omega arith) (λ n. few-pairs n.1.1)
        (never_reached 13 asked (many (min t.skills 512)) room (omega arith) few-skills (never_first 13 room (omega arith)))
        (((skill_answers t catalogue fit result buffer).refused 13 (omega arith)).0 h)

pub main_page : (t : Terms) (catalogue fit : List ℕ) (result : ℕ) (buffer : List ℕ) → 256 ≤ t.pairs
    → (refusal (outcome buffer (list_call t catalogue fit buffer)) ≡ 13 → ⊥)
    × (512 ≤ t.skills → refusal (outcome buffer (skill_call t catalogue fit result buffer)) ≡ 13 → ⊥)
main_page t catalogue fit result buffer main = (
  list_never t catalogue fit main buffer,
  λ large. skill-never t catalogue fit main result large buffer,
)

-- ---- a page beside it
-- no list reads a limit
same-list : {t t' : Terms} → Alike t t' → (c : Catalogue) (f : Fit) → list_for t c f ≡ list_for t' c f
same-list {t} {t'} alike c f =
    limits_unread t 256 512 c f
    ∙ ap₂ (λ (profile : List ℕ) (allowance : ℕ). list_for (read_by t.reader (terms profile allowance)) c f) alike.profile alike.allowance
    ∙ ap (λ (reader : ℕ). list_for (read_by reader (terms t'.profile t'.allowance)) c f) alike.reader
    ∙ sym (limits_unread t' 256 512 c f)

module _ (catalogue fit buffer : List ℕ) where
  -- the first refusal of a list call, by its reader, its profile and its list, where 13 is not asked
  unfoldable pub unasked : (reader : ℕ) → (profile : List ℕ) → List Entry → ℕ
  unasked reader profile es =
      first_of ((19, ltb 2 reader) ∷ (image_refusals catalogue fit ++ (profile_refusals profile ++ buffer_refusals buffer es)))

  pub list_unasked : (t : Terms) → (refusal (outcome buffer (list_call t catalogue fit buffer)) ≡ 13 → ⊥)
      → (let es = list_for t (catalogue_of catalogue) (fit_of fit) in list_call t catalogue fit buffer ≡ answer_by (unasked t.reader t.profile es) es)
  unfolding list_call answer unasked catalogue_refusals fit_refusals profile_refusals
  list_unasked t h =
      let es = list_for t (catalogue_of catalogue) (fit_of fit) in
      let over = over_pairs t (catalogue_of catalogue) (fit_of fit) in
      let l : Conditions = (19, ltb 2 t.reader) ∷ image_refusals catalogue fit in
      let m = profile_refusals t.profile ++ buffer_refusals buffer es in
      ap (λ (k : ℕ). answer_by k es) (left_out 13 over l m λ q. h (given-first 12 buffer es (first_of (l ++ (13, over) ∷ m)) q))

pub small_page : (t t' : Terms) (catalogue fit buffer : List ℕ) → Alike t t' → 256 ≤ t'.pairs
    → (refusal (outcome buffer (list_call t catalogue fit buffer)) ≡ 13 → ⊥)
    → outcome buffer (list_call t catalogue fit buffer) ≡ outcome buffer (list_call t' catalogue fit buffer)
small_page t t' catalogue fit buffer alike main h =
    ap (outcome buffer)
    (list_unasked catalogue fit buffer t h
    ∙ ap₂ (λ (profile : List ℕ) (es : List Entry). answer_by (unasked catalogue fit buffer t.reader profile es) es)
    alike.profile (same-list alike (catalogue_of catalogue) (fit_of fit))
    ∙ ap (λ (reader : ℕ).
    let es = list_for t' (catalogue_of catalogue) (fit_of fit) in
    answer_by (unasked catalogue fit buffer reader t'.profile es) es) alike.reader
    ∙ sym (list_unasked catalogue fit buffer t' (list_never t' catalogue fit main buffer)))

-- ---- the skill call
module _ (catalogue fit : List ℕ) (result : ℕ) (buffer : List ℕ) where
  abbrev own : Conditions
  own = (8, no_result (fit_of fit) result) ∷ (9, too_many_skills (catalogue_of catalogue) (fit_of fit) result) ∷ []

  abbrev entries : List Entry
  entries = skill_list (catalogue_of catalogue) (fit_of fit) result

  -- the first refusal, by its reader, where 13 is asked for neither pairs nor skills
  unfoldable unasked_skills : (reader : ℕ) → ℕ
  unasked_skills reader = first_of ((19, ltb 2 reader) ∷ (20, eqb reader 0) ∷ (image_refusals catalogue fit ++ own ++ buffer_refusals buffer entries))

  skill-unasked : (t : Terms) → (refusal (outcome buffer (skill_call t catalogue fit result buffer)) ≡ 13 → ⊥)
      → skill_call t catalogue fit result buffer ≡ answer_by (unasked_skills t.reader) entries
  unfolding skill_call answer unasked_skills catalogue_refusals fit_refusals
  skill-unasked t h =
      let l : Conditions = (19, ltb 2 t.reader) ∷ (20, eqb t.reader 0) ∷ image_refusals catalogue fit in
      let over = over_pairs t (catalogue_of catalogue) (fit_of fit) in
      let many = over_skills t (catalogue_of catalogue) (fit_of fit) result in
      let m : Conditions = own ++ (13, many) ∷ buffer_refusals buffer entries in
      let not-13 : first_of (l ++ (13, over) ∷ m) ≡ 13 → ⊥ = λ q. h (given-first 12 buffer entries (first_of (l ++ (13, over) ∷ m)) q) in
      let e = left_out 13 over l m not-13 in
      let e' = left_out 13 many (l ++ own) (buffer_refusals buffer entries) (λ q. not-13 (e ∙ q)) in
      ap (λ (k : ℕ). answer_by k entries) (e ∙ e')

pub small_page_skills : (t t' : Terms) (catalogue fit : List ℕ) (result : ℕ) (buffer : List ℕ) → t.reader ≡ t'.reader → 256 ≤ t'.pairs → 512 ≤ t'.skills
    → (refusal (outcome buffer (skill_call t catalogue fit result buffer)) ≡ 13 → ⊥)
    → outcome buffer (skill_call t catalogue fit result buffer) ≡ outcome buffer (skill_call t' catalogue fit result buffer)
small_page_skills t t' catalogue fit result buffer alike main large h =
    ap (outcome buffer)
    (skill-unasked catalogue fit result buffer t h
    ∙ ap (λ (reader : ℕ). answer_by (unasked_skills catalogue fit result buffer reader) (skill_list (catalogue_of catalogue) (fit_of fit) result)) alike
    ∙ sym (skill-unasked catalogue fit result buffer t' (skill-never t' catalogue fit main result large buffer)))
