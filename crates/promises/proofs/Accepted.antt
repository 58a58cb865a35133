-- What an answered call knows of all that it was given, by name: conditions that are put in front of others shift no proof.
use Prim.Native.Nat.{ℕ, ◌+◌, ◌*◌, ◌≤◌, min}
use mathlib.Core.Bool.{Bool, false, not}
use mathlib.Core.List.{List, [], ◌∷◌, ◌++◌}
use lib.Dec.{T, ltb, nltb→le}
use lib.ListN.{length}
use Rattle.words.specs.Words.{given}
use Rattle.catalogue.specs.Catalogue.{catalogue_of}
use Rattle.fit.specs.Fit.{fit_of, result_at}
use Rattle.fit.specs.Refusals.{bad_size}
use Rattle.context.specs.Context.{pairs}
use Rattle.entry.specs.declared.Entry.{Entry}
use Rattle.skill.specs.Skill.{wants_too_many, skill_list}
use Rattle.lists.specs.Terms.{Terms}
use Rattle.lists.specs.Lists.{list_for}
use Rattle.calls.specs.Answers.{too_short}
use Rattle.promises.specs.Answers.{Conditions, catalogue_conditions, fit_conditions, page_conditions, profile_conditions}
use Rattle.promises.specs.Answers.{input_conditions, list_conditions, skill_conditions, None}
use Rattle.promises.proofs.Conditions.{none-parts}

-- ---- the list call
pub record Accepted (t : Terms) (catalogue fit : List ℕ) : Type 0 where
  pub of_catalogue : None (catalogue_conditions catalogue)
  pub of_fit : None (fit_conditions fit)
  pub of_profile : None (profile_conditions t.profile)

-- 13 for pairs
abbrev over : Terms → (catalogue fit : List ℕ) → Bool
over t catalogue fit = ltb (min t.pairs 256) (length (pairs (catalogue_of catalogue) (fit_of fit)))

pub accepted : (t : Terms) (catalogue fit : List ℕ) → None (input_conditions t catalogue fit) → Accepted t catalogue fit
accepted t catalogue fit h =
    let a = none-parts (page_conditions t catalogue fit) (profile_conditions t.profile) h in
    let p = none-parts (catalogue_conditions catalogue ++ fit_conditions fit) ((13, over t catalogue fit) ∷ []) a.0 in
    let b = none-parts (catalogue_conditions catalogue) (fit_conditions fit) p.0 in
    record { of_catalogue = b.0; of_fit = b.1; of_profile = a.1 }

pub sized : {t : Terms} {catalogue fit : List ℕ} → Accepted t catalogue fit → T (not (bad_size fit))
sized a = a.of_fit.0

room_for : (buffer : List ℕ) (es : List Entry) → None ((10, too_short buffer es) ∷ []) → 24 * length es ≤ length buffer
unfolding too_short
room_for buffer es h = nltb→le (length buffer) (24 * length es) h.0

module _ (t : Terms) (catalogue fit buffer : List ℕ) where
  abbrev entries : List Entry
  entries = list_for t (catalogue_of catalogue) (fit_of fit)

  module _ (h : None (list_conditions t catalogue fit buffer)) where
    abbrev parts : None (input_conditions t catalogue fit) × None ((10, too_short buffer entries) ∷ [])
    parts = none-parts (input_conditions t catalogue fit) ((10, too_short buffer entries) ∷ []) h.1

    pub list_accepted_lem : Accepted t catalogue fit
    list_accepted_lem = accepted t catalogue fit parts.0

    pub list_fits : 24 * length entries ≤ length buffer
    list_fits = room_for buffer entries parts.1

-- ---- the skill call
pub record Asked (catalogue fit : List ℕ) (result : ℕ) : Type 0 where
  pub inside : result ≤ length (fit_of fit).results + 1
  pub few : T (not (given (result_at (fit_of fit) result) false (wants_too_many 512 (catalogue_of catalogue))))

module _ (t : Terms) (catalogue fit : List ℕ) (result : ℕ) (buffer : List ℕ) where
  abbrev own : Conditions
  own =
      (8, ltb (length (fit_of fit).results + 1) result)
      ∷ (9, given (result_at (fit_of fit) result) false (wants_too_many 512 (catalogue_of catalogue)))
      ∷ (13, given (result_at (fit_of fit) result) false (wants_too_many (min t.skills 512) (catalogue_of catalogue)))
      ∷ (10, too_short buffer (skill_list (catalogue_of catalogue) (fit_of fit) result))
      ∷ []

  module _ (h : None (skill_conditions t catalogue fit result buffer)) where
    abbrev asked-for : None own
    asked-for = (none-parts (page_conditions t catalogue fit) own h.1.1).1

    pub asked : Asked catalogue fit result
    asked = record { inside = nltb→le (length (fit_of fit).results + 1) result asked-for.0; few = asked-for.1.0 }

    pub skills-fit : 24 * length (skill_list (catalogue_of catalogue) (fit_of fit) result) ≤ length buffer
    skills-fit = room_for buffer (skill_list (catalogue_of catalogue) (fit_of fit) result) asked-for.1.1.1
