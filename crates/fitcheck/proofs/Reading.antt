-- The list call and the skill call, by their readers.
use Prim.Native.Nat.{ℕ, ◌≤◌}
use native.Mathlib.Omega.{arith}
use mathlib.Core.Path.{◌≡◌, sym, ap, ◌∙◌}
use mathlib.Core.Bool.{true, false}
use mathlib.Core.Logic.{◌⊎◌, inl, inr}
use lib.Dec.{eqb}
use borrow.Author.Tests.{le-ltb}
use mathlib.Core.List.{List, ◌∷◌, ◌++◌}
use Rattle.numbers.specs.Refusals as Refusals
use Rattle.numbers.specs.Readers as Readers
use Rattle.numbers.specs.Reading.{reader_number}
use Rattle.numbers.specs.declared.readers.Reader.{Reader}
use Rattle.numbers.specs.declared.readers.Reader.TheVariants.{Pilot, Officer}
use Rattle.catalogue.specs.Catalogue.{catalogue_of}
use Rattle.fit.specs.Fit.{fit_of}
use Rattle.skill.specs.Skill.{skill_list}
use Rattle.entry.specs.declared.Entry.{Entry}
use Rattle.lists.specs.Terms.{Terms, limited}
use Rattle.lists.specs.Lists.{list_for}
use Rattle.calls.specs.Answers.{Refused, answer, page_refusals, input_refusals, buffer_refusals, skill_refusals}
use Rattle.calls.proofs.Pages.{limits_unread}
use Rattle.calls.proofs.Giving.{answer_true, answer_false}
use Rattle.fitcheck.specs.Calls.{no_reader, is_guest, list_call, skill_call}

-- the number of a reader that there is
few-readers : (r : Reader) → reader_number r ≤ Readers.officer
few-readers r = grind arith

pub somebody : {n : ℕ} (t : Terms) (r : Reader) → reader_number r ≡ n → t.reader ≡ n → no_reader t ≡ false
somebody t r e q = le-ltb Readers.officer t.reader (omega (arith, e, q, few-readers r))

-- a reader that is no guest has another number
pub no_guest : {r : Reader} → (r ≡ Pilot) ⊎ (r ≡ Officer) → eqb (reader_number r) Readers.guest ≡ false
no_guest (inl e) = ap (λ (r : Reader). eqb (reader_number r) Readers.guest) e
no_guest (inr e) = ap (λ (r : Reader). eqb (reader_number r) Readers.guest) e

-- ---- the list call
-- no list reads the limit of skills
pub skills_unread : (t : Terms) (pairs skills more : ℕ) (catalogue fit buffer : List ℕ)
    → list_call (limited pairs skills t) catalogue fit buffer ≡ list_call (limited pairs more t) catalogue fit buffer
unfolding list_call
skills_unread t pairs skills more catalogue fit buffer =
    ap (λ (es : List Entry). answer ((Refusals.no_reader, no_reader t) ∷ (input_refusals (limited pairs more t) catalogue fit ++ buffer_refusals buffer es)) es)
    (limits_unread (limited pairs skills t) pairs more (catalogue_of catalogue) (fit_of fit))

module _ (t : Terms) (catalogue fit buffer : List ℕ) where
  pub list_nobody : no_reader t ≡ true → list_call t catalogue fit buffer ≡ Refused Refusals.no_reader
  unfolding list_call
  list_nobody e = answer_true Refusals.no_reader _ _ (omega arith) e

  pub list_read : no_reader t ≡ false
      → (let es = list_for t (catalogue_of catalogue) (fit_of fit) in
      list_call t catalogue fit buffer ≡ answer (input_refusals t catalogue fit ++ buffer_refusals buffer es) es)
  unfolding list_call
  list_read e = answer_false Refusals.no_reader _ _ e

-- ---- the skill call
module _ (t : Terms) (catalogue fit : List ℕ) (result : ℕ) (buffer : List ℕ) where
  pub skill-nobody : no_reader t ≡ true → skill_call t catalogue fit result buffer ≡ Refused Refusals.no_reader
  unfolding skill_call
  skill-nobody e = answer_true Refusals.no_reader _ _ (omega arith) e

  module _ (somebody : no_reader t ≡ false) where
    pub skill-guest : is_guest t ≡ true → skill_call t catalogue fit result buffer ≡ Refused Refusals.not_for_guests
    unfolding skill_call
    skill-guest e = answer_false Refusals.no_reader _ _ somebody ∙ answer_true Refusals.not_for_guests _ _ (omega arith) e

    pub skill-read : is_guest t ≡ false → skill_call t catalogue fit result buffer ≡ answer
        (page_refusals t catalogue fit ++ skill_refusals t (catalogue_of catalogue) (fit_of fit) result buffer)
        (skill_list (catalogue_of catalogue) (fit_of fit) result)
    unfolding skill_call
    skill-read e = answer_false Refusals.no_reader _ _ somebody ∙ answer_false Refusals.not_for_guests _ _ e
