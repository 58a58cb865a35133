-- What the skill call answers, by the refusals of both images on a page, the number of the result and the length of its walk.
use Prim.Native.Nat.{ℕ, ◌+◌, ◌≤◌, ◌<◌}
use native.Mathlib.Omega.{arith}
use mathlib.Core.Path.{◌≡◌, sym, ◌∙◌}
use mathlib.Core.Bool.{Bool, true, false}
use mathlib.Core.List.{List, ◌++◌}
use lib.ListN.{length}
use Rattle.std.specs.Prelude.{Result, Ok, is_err}
use borrow.Author.Tests.{lt-ltb, le-ltb}
use Rattle.words.specs.Words.{first_of}
use Rattle.catalogue.specs.Catalogue.{catalogue_of}
use Rattle.fit.specs.Fit.{fit_of, result_count}
use Rattle.fit.proofs.Decoded.{results-length}
use Rattle.entry.specs.declared.Entry.{Entry}
use Rattle.skill.specs.Skill.{skill_list}
use Rattle.skill.specs.Held.{HoldsWanted}
use Rattle.skill.specs.declared.walk.Walk.{Walk}
use Rattle.skill.specs.declared.walk.TooMany.{TooMany}
use Rattle.skill.proofs.Reports.{too_many}
use Rattle.skill.proofs.Limits.{over-limit}
use Rattle.lists.specs.Terms.{Terms, skill_limit}
use Rattle.calls.specs.Answers.{answer, no_result, too_many_skills, over_skills}
use Rattle.calls.specs.Answers.{page_refusals, skill_refusals}
use Rattle.calls.proofs.First.{numbered-page}
use Rattle.calls.proofs.Giving.{answer_past}

-- ---- refusal 8
module _ (fit : List ℕ) (result : ℕ) where
  pub no_result_lem : result_count fit + 1 < result → no_result (fit_of fit) result ≡ true
  no_result_lem h = lt-ltb (length (fit_of fit).results + 1) result (omega (arith, h, results-length fit))

  pub has_result : result ≤ result_count fit + 1 → no_result (fit_of fit) result ≡ false
  has_result h = le-ltb (length (fit_of fit).results + 1) result (omega (arith, h, results-length fit))

-- ---- refusal 9
module _ (catalogue fit : List ℕ) (result : ℕ) (h : result < result_count fit + 2) where
  pub over-many : (r : Result Walk TooMany) → HoldsWanted catalogue fit result r → is_err r ≡ true
      → too_many_skills (catalogue_of catalogue) (fit_of fit) result ≡ true
  over-many r v e = sym (too_many catalogue fit result r v h) ∙ e

  module _ (w : Walk) (v : HoldsWanted catalogue fit result (Ok w)) where
    pub over-few : too_many_skills (catalogue_of catalogue) (fit_of fit) result ≡ false
    over-few = sym (too_many catalogue fit result (Ok w) v h)

    -- ---- refusal 13, where 9 is not given: a limit above the main page's is not passed either
    module _ (t : Terms) where
      pub over-page : t.skills < w.len → over_skills t (catalogue_of catalogue) (fit_of fit) result ≡ true
      over-page l =
          sym (over-limit (skill_limit t) catalogue fit result w v h (omega arith))
          ∙ lt-ltb (skill_limit t) w.len (omega (arith, l, w.few))

      pub within-page : w.len ≤ t.skills → over_skills t (catalogue_of catalogue) (fit_of fit) result ≡ false
      within-page l =
          sym (over-limit (skill_limit t) catalogue fit result w v h (omega arith))
          ∙ le-ltb (skill_limit t) w.len (omega (arith, l, w.few))

-- ---- the call of a pilot or an officer
module _ (t : Terms) (catalogue fit : List ℕ) (result : ℕ) (buffer : List ℕ) where
  abbrev entries : List Entry
  entries = skill_list (catalogue_of catalogue) (fit_of fit) result

  abbrev own : List (ℕ × Bool)
  own = skill_refusals t (catalogue_of catalogue) (fit_of fit) result buffer

  pub page_past : first_of (page_refusals t catalogue fit) ≡ 0 → answer (page_refusals t catalogue fit ++ own) entries ≡ answer own entries
  page_past e = answer_past (page_refusals t catalogue fit) _ _ 13 (numbered-page t catalogue fit) e
