-- The list call and the skill call: their conditions, and what they list. By the lengths of the two lists.
use Prim.Native.Nat.{ℕ, ◌+◌, ◌*◌, ◌≤◌, min}
use native.Mathlib.Omega.{arith}
use mathlib.Core.Path.{◌≡◌}
use mathlib.Core.Bool.{false}
use mathlib.Core.List.{List, [], ◌∷◌, ◌++◌}
use lib.Dec.{eqb, ltb, ltb→lt}
use lib.ListN.{length}
use Rattle.words.specs.Words.{given}
use Rattle.catalogue.specs.Catalogue.{catalogue_of}
use Rattle.catalogue.specs.Refusals.{catalogue_refusals}
use Rattle.fit.specs.Fit.{result_at, fit_of}
use Rattle.fit.specs.Refusals.{fit_refusals}
use Rattle.profile.specs.Profile.{profile_refusals}
use Rattle.skill.specs.Skill.{wants_too_many, skill_list}
use Rattle.lists.specs.Terms.{Terms}
use Rattle.lists.specs.Lists.{list_for}
use Rattle.calls.specs.Answers.{too_short}
use Rattle.fitcheck.specs.Calls.{list_call, skill_call}
use Rattle.promises.specs.Answers.{outcome, refusal, Conditions, page_conditions, input_conditions, list_conditions, skill_conditions, Answers}
use Rattle.promises.proofs.Conditions.{none-parts, last-first}
use Rattle.promises.proofs.Accepted.{accepted, sized, list_accepted_lem, list_fits, asked, skills-fit}
use Rattle.promises.proofs.Answering.{answers}
use Rattle.promises.proofs.Lengths.{list_short, skills-short}

pub list_answers : (t : Terms) (catalogue fit buffer : List ℕ)
    → Answers (list_conditions t catalogue fit buffer) (list_for t (catalogue_of catalogue) (fit_of fit)) buffer (outcome buffer (list_call t catalogue fit buffer))
unfolding list_call catalogue_refusals fit_refusals profile_refusals
list_answers t catalogue fit buffer =
    let es = list_for t (catalogue_of catalogue) (fit_of fit) in
    answers (list_conditions t catalogue fit buffer) (omega arith) es buffer
    (λ h. let k = list_short fit (sized (list_accepted_lem t catalogue fit buffer h)) t (catalogue_of catalogue) in omega arith)
    (λ h. list_fits t catalogue fit buffer h)

pub skill_answers : (t : Terms) (catalogue fit : List ℕ) (result : ℕ) (buffer : List ℕ)
    → Answers (skill_conditions t catalogue fit result buffer) (skill_list (catalogue_of catalogue) (fit_of fit) result) buffer
    (outcome buffer (skill_call t catalogue fit result buffer))
unfolding skill_call catalogue_refusals fit_refusals
skill_answers t catalogue fit result buffer =
    let es = skill_list (catalogue_of catalogue) (fit_of fit) result in
    answers (skill_conditions t catalogue fit result buffer) (omega arith) es buffer
    (λ h. let k = skills-short (catalogue_of catalogue) (fit_of fit) result (asked t catalogue fit result buffer h).few in omega arith)
    (λ h. skills-fit t catalogue fit result buffer h)

-- ---- room for the longest list
pub list_room : (t : Terms) (catalogue fit buffer : List ℕ) → 135696 ≤ length buffer
    → refusal (outcome buffer (list_call t catalogue fit buffer)) ≡ 10 → ⊥
unfolding too_short
list_room t catalogue fit buffer room h =
    let es = list_for t (catalogue_of catalogue) (fit_of fit) in
    let k =
    last-first 10 ((19, ltb 2 t.reader) ∷ input_conditions t catalogue fit) (too_short buffer es) (omega arith)
    (((list_answers t catalogue fit buffer).refused 10 (omega arith)).0 h) in
    let s = list_short fit (sized (accepted t catalogue fit k.0.1)) t (catalogue_of catalogue) in
    let l = ltb→lt (length buffer) (24 * length es) k.1 in
    omega arith

pub skill_room : (t : Terms) (catalogue fit : List ℕ) (result : ℕ) (buffer : List ℕ) → 12288 ≤ length buffer
    → refusal (outcome buffer (skill_call t catalogue fit result buffer)) ≡ 10 → ⊥
unfolding too_short
skill_room t catalogue fit result buffer room h =
    let es = skill_list (catalogue_of catalogue) (fit_of fit) result in
    let many = given (result_at (fit_of fit) result) false (wants_too_many 512 (catalogue_of catalogue)) in
    let over = given (result_at (fit_of fit) result) false (wants_too_many (min t.skills 512) (catalogue_of catalogue)) in
    let page = page_conditions t catalogue fit in
    let own : Conditions = (8, ltb (length (fit_of fit).results + 1) result) ∷ (9, many) ∷ (13, over) ∷ [] in
    let k =
    last-first 10 ((19, ltb 2 t.reader) ∷ (20, eqb t.reader 0) ∷ (page ++ own)) (too_short buffer es) (omega arith) (((skill_answers t catalogue fit result buffer).refused 10 (omega arith)).0 h) in
    let s = skills-short (catalogue_of catalogue) (fit_of fit) result (none-parts page own k.0.1.1).1.1.0 in
    let l = ltb→lt (length buffer) (24 * length es) k.1 in
    omega arith
