-- The count of a list call fits the buffer that was lent. By the first refusal that holds.
use Prim.Native.Nat.{ℕ, zero, suc, ◌*◌, ◌%◌, ◌^◌, ◌≤◌}
use native.Mathlib.Omega.{arith}
use mathlib.Core.Path.{◌≡◌, refl, ap, ◌∙◌}
use mathlib.Core.Bool.{Bool, true, false}
use mathlib.Core.List.{List, [], ◌++◌}
use lib.ListN.{length}
use borrow.Author.Tests.{ltb-false}
use Rattle.words.specs.Words.{first_of}
use Rattle.numbers.specs.Refusals as Refusals
use Rattle.catalogue.specs.Catalogue.{catalogue_of}
use Rattle.fit.specs.Fit.{fit_of}
use Rattle.entry.specs.declared.Entry.{Entry}
use Rattle.lists.specs.Terms.{Terms}
use Rattle.lists.specs.Lists.{list_for}
use Rattle.calls.specs.Answers.{Answer, Refused, Listed, answer_by, answer, too_short, input_refusals, buffer_refusals, returned}
use Rattle.fitcheck.specs.Calls.{no_reader, list_call}
use Rattle.calls.proofs.Giving.{answer_true, answer_false, inputs_refused, inputs_past}
use Rattle.fitcheck.proofs.Reading.{list_nobody, list_read}

-- what the word counts
abbrev counted : Answer → ℕ
counted a = returned a % 2 ^ 32

refused_none : (n : ℕ) → counted (Refused n) ≡ 0
unfolding returned
refused_none n = omega arith

module _ (buffer : List ℕ) (es : List Entry) where
  listed-room : too_short buffer es ≡ false → 24 * counted (Listed es) ≤ length buffer
  unfolding too_short returned
  listed-room e = omega (arith, ltb-false (length buffer) (24 * length es) e)

  refused-room : (n : ℕ) {a : Answer} → a ≡ Refused n → 24 * counted a ≤ length buffer
  refused-room n {a} e = let z = ap counted e ∙ refused_none n in omega (arith, z)

  -- refusal 10
  lent-room : (t : Bool) → too_short buffer es ≡ t → 24 * counted (answer (buffer_refusals buffer es) es) ≤ length buffer
  unfolding answer first_of answer_by
  lent-room true e = refused-room Refusals.too_short (answer_true Refusals.too_short [] es (omega arith) e)
  lent-room false e = let z = ap counted (answer_false Refusals.too_short [] es e) in omega (arith, z, listed-room e)

module _ (t : Terms) (catalogue fit buffer : List ℕ) where
  abbrev entries : List Entry
  entries = list_for t (catalogue_of catalogue) (fit_of fit)

  by-inputs : (k : ℕ) → first_of (input_refusals t catalogue fit) ≡ k
      → 24 * counted (answer (input_refusals t catalogue fit ++ buffer_refusals buffer entries) entries) ≤ length buffer
  by-inputs zero e =
      let z = ap counted (inputs_past t catalogue fit buffer entries e) in
      omega (arith, z, lent-room buffer entries (too_short buffer entries) refl)
  by-inputs (suc k) e = refused-room buffer [] (suc k) (inputs_refused t catalogue fit buffer entries (omega (arith, e)) ∙ ap Refused e)

  by-reader : (b : Bool) → no_reader t ≡ b → 24 * counted (list_call t catalogue fit buffer) ≤ length buffer
  by-reader true e = refused-room buffer [] Refusals.no_reader (list_nobody t catalogue fit buffer e)
  by-reader false e =
      let z = ap counted (list_read t catalogue fit buffer e) in
      omega (arith, z, by-inputs (first_of (input_refusals t catalogue fit)) refl)

  pub list_room : 24 * counted (list_call t catalogue fit buffer) ≤ length buffer
  list_room = by-reader (no_reader t) refl
