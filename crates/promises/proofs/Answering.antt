-- What a call gives, from the first of its conditions that holds. By cases on that number.
use Prim.Native.Nat.{ℕ, zero, suc, ◌*◌, ◌-◌, ◌/◌, ◌^◌, ◌≤◌, ◌<◌, suc-le-suc, zero-le}
use native.Mathlib.Nat.{le_of_suc-le-suc, not-suc-le-zero}
use native.Mathlib.Omega.{arith}
use mathlib.Core.Path.{◌≡◌, refl, ap, ◌∙◌}
use mathlib.Core.List.{List, [], ◌∷◌, ◌++◌}
use Rattle.std.proofs.lemmas.Option.{same_Some}
use Rattle.std.specs.Prelude.{Some}
use lib.ListN.{length, get_or, drop, length-append, length-drop}
use Rattle.std.specs.Prelude.{slice_get}
use lib.Seq.{get_or-append_right, get_or-drop}
use Rattle.words.specs.Words.{each, first_of}
use Rattle.entry.specs.declared.Entry.{Entry}
use Rattle.entry.specs.Entries.{entry_bytes, written}
use Rattle.calls.specs.Answers.{answer_by, answer, buffered, returned}
use Rattle.calls.proofs.First.{Numbered}
use Rattle.promises.specs.Answers.{outcome, refusal, Conditions, highest, None, Answers}
use Rattle.promises.proofs.Conditions.{is_none, word-refused, word-answered, word-numbered}
use Rattle.cause.proofs.Entries.{entry_at, entries-length}

-- ---- an element by its place
pub elem_at : {A : Type 0} (l : List A) (i : ℕ) (x : A) → slice_get l i ≡ Some x → (i < length l) × (get_or l i x ≡ x)
elem_at [] i x e = absurd (let z : ◌≡◌ {A = ℕ} 0 1 = cc in omega arith)
elem_at (y ∷ l) zero x e = (suc-le-suc zero-le, same_Some y x e)
elem_at (y ∷ l) (suc i) x e = let h = elem_at l i x e in (suc-le-suc h.0, h.1)

pub elem_of : {A : Type 0} (d : A) (l : List A) (i : ℕ) → i < length l → slice_get l i ≡ Some (get_or l i d)
elem_of d [] i h = absurd (not-suc-le-zero h)
elem_of d (x ∷ l) zero h = refl
elem_of d (x ∷ l) (suc i) h = elem_of d l i (le_of_suc-le-suc h)

-- what stands behind bytes that are written in front
pub behind : (bs before : List ℕ) {n : ℕ} → length bs ≡ n → (i : ℕ) → n ≤ i → get_or (bs ++ drop n before) i 0 ≡ get_or before i 0
behind bs before {n} w i p =
    get_or-append_right bs (drop n before) i 0 (omega arith) ∙ get_or-drop n before (i - length bs) 0
    ∙ ap (λ (j : ℕ). get_or before j 0) (omega arith)

-- a number that is first is given
pub given-first : (n : ℕ) (buffer : List ℕ) (es : List Entry) (k : ℕ) → k ≡ suc n → refusal (outcome buffer (answer_by k es)) ≡ suc n
unfolding answer_by returned
given-first n buffer es k e = let q : suc n * 4294967296 / 4294967296 ≡ suc n = omega arith in ap (λ (m : ℕ). refusal (outcome buffer (answer_by m es))) e ∙ q

-- ---- the call. Widening.antt has it again, of an answer that is bytes: two records of specs/ with five fields of eight in common, and a
-- record of the five would be as long as what it saves
module _ (l : Conditions) (numbered : Numbered highest l) (es : List Entry) (before : List ℕ)
    (small : None l → length es < 2 ^ 32) (room : None l → 24 * length es ≤ length before) where
  go : (k : ℕ) → first_of l ≡ k → Answers l es before (outcome before (answer_by k es))
  unfolding answer_by buffered returned written
  go zero e =
      let n = is_none highest l numbered e in
      let s = small n in
      let r = room n in
      let w = entries-length es in
      let q : first_of l ≡ length es / 4294967296 = omega arith in
      record {
        refused = word-refused highest l numbered (length es) q;
        answered = word-answered highest l numbered (length es) q;
        numbered = word-numbered highest l numbered (length es) q;
        nothing = λ p. absurd (omega arith);
        counted = λ h. omega arith;
        entries = λ h i x q.
            let a = elem_at es i x q in
            entry_at x es (drop (24 * length es) before) i a.0 ∙ ap entry_bytes a.1;
        others = λ h. behind (each es entry_bytes) before w;
        length_kept = length-append (each es entry_bytes) (drop (24 * length es) before) ∙ (let d = length-drop (24 * length es) before in omega arith);
      }
  go (suc k) e =
      let q : first_of l ≡ suc k * 4294967296 / 4294967296 = omega arith in
      record {
        refused = word-refused highest l numbered (suc k * 4294967296) q;
        answered = word-answered highest l numbered (suc k * 4294967296) q;
        numbered = word-numbered highest l numbered (suc k * 4294967296) q;
        nothing = λ p. (omega arith, refl);
        counted = λ h. absurd (omega arith);
        entries = λ h. absurd (omega arith);
        others = λ h. absurd (omega arith);
        length_kept = refl;
      }

  pub answers : Answers l es before (outcome before (answer l es))
  unfolding answer
  answers = go (first_of l) refl
