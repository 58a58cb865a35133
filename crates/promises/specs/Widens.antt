-- Document 02, P10: what a caller has after the widening call, and what it means that nothing changes under a widened catalogue.
use Rattle.std.specs.Prelude.{ℕ, ◌≤◌, ◌<◌, ◌≡◌, List, [], ◌∷◌, ◌++◌, ◌↔◌, length, get_or, take}
use Rattle.catalogue.specs.Refusals.{bad_order, bad_field, catalogue_refusal}
use Rattle.widening.specs.Old.{old_catalogue_of, old_bad_length, old_refusals}
use Rattle.widening.specs.Widen.{widened}
use Rattle.fit.specs.Fit.{fit_of}
use Rattle.fit.specs.Refusals.{fit_refusals}
use Rattle.profile.specs.Profile.{profile_refusals}
use Rattle.skill.specs.Skill.{skill_list}
use Rattle.lists.specs.Terms.{Terms}
use Rattle.lists.specs.Lists.{list_for}
use Rattle.calls.specs.Answers.{Answer, answer, over_pairs, buffer_refusals, skill_refusals}
use Rattle.fitcheck.specs.Calls.{no_reader, is_guest, list_call, skill_call}
use Rattle.calls.specs.Output.{output_word, filled, no_room}
use Rattle.fitcheck.specs.Widen.{widen_call}
use Rattle.promises.specs.Answers.{Outcome, refusal, count, Conditions, First, None}

-- ---- the call as a caller sees it
abbrev pub widen_outcome : (old buffer : List ℕ) → Outcome
widen_outcome old buffer =
    let o = widen_call old buffer in
    record { word = output_word o; buffer = filled buffer o }

-- 1 to 3 judge the old form, 10 the buffer
abbrev pub widen_conditions : (old buffer : List ℕ) → Conditions
widen_conditions old buffer =
    let c = old_catalogue_of old in
    (1, old_bad_length old) ∷ (2, bad_order c) ∷ (3, bad_field c) ∷ (10, no_room buffer (widened old)) ∷ []

-- a call under some conditions, which writes bs where none of them holds, and whose numbers go to the most
pub record Fills (most : ℕ) (conditions : Conditions) (bs before : List ℕ) (o : Outcome) : Type 0 where
  -- a number refuses exactly where its condition is the first that holds, and is not over the most
  pub refused : (n : ℕ) → 0 < n → (refusal o ≡ n) ↔ First n conditions
  pub answered : (refusal o ≡ 0) ↔ None conditions
  pub numbered : refusal o ≤ most
  -- a refusal counts nothing and changes no byte
  pub nothing : 0 < refusal o → (count o ≡ 0) × (o.buffer ≡ before)
  -- an answer counts its bytes, has them from byte 0 on, and leaves every byte behind them
  pub counted : refusal o ≡ 0 → count o ≡ length bs
  pub front : refusal o ≡ 0 → take (length bs) o.buffer ≡ bs
  pub others : refusal o ≡ 0 → (i : ℕ) → length bs ≤ i → get_or o.buffer i 0 ≡ get_or before i 0
  pub length_kept : length o.buffer ≡ length before

-- the bytes that an answered call has written
abbrev pub written : Outcome → List ℕ
written o = take (count o) o.buffer

-- ---- the list call and the skill call under an old catalogue, as they were
abbrev pub list_under_old : Terms → (old fit buffer : List ℕ) → Answer
list_under_old t old fit buffer =
    let c = old_catalogue_of old in
    let f = fit_of fit in
    let es = list_for t c f in
    let behind = old_refusals old ++ fit_refusals fit ++ ((13, over_pairs t c f) ∷ []) ++ profile_refusals t.profile ++ buffer_refusals buffer es in
    answer ((19, no_reader t) ∷ behind) es

abbrev pub skills_under_old : Terms → (old fit : List ℕ) (result : ℕ) (buffer : List ℕ) → Answer
skills_under_old t old fit result buffer =
    let c = old_catalogue_of old in
    let f = fit_of fit in
    let behind = old_refusals old ++ fit_refusals fit ++ ((13, over_pairs t c f) ∷ []) ++ skill_refusals t c f result buffer in
    answer ((19, no_reader t) ∷ (20, is_guest t) ∷ behind) (skill_list c f result)

-- a catalogue that is not refused, under which every call answers as under the old one
pub record Stands (old new : List ℕ) : Type 0 where
  pub accepted : catalogue_refusal new ≡ 0
  pub lists : (t : Terms) (fit buffer : List ℕ) → list_call t new fit buffer ≡ list_under_old t old fit buffer
  pub skills : (t : Terms) (fit : List ℕ) (result : ℕ) (buffer : List ℕ) → skill_call t new fit result buffer ≡ skills_under_old t old fit result buffer
