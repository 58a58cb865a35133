-- The widening call: its conditions, what it writes, and that nothing changes under a widened catalogue. From what it decodes to.
use Prim.Native.Nat.{ℕ, zero, suc, ◌*◌, ◌/◌, ◌^◌, ◌≤◌, ◌<◌}
use native.Mathlib.Omega.{arith}
use mathlib.Core.Path.{◌≡◌, refl, sym, ap, ap₂, subst, ◌∙◌}
use mathlib.Core.Bool.{Bool, true, false, not}
use mathlib.Core.List.{List, [], ◌∷◌, ◌++◌}
use lib.Dec.{T, nltb→le}
use lib.ListN.{length, take, drop, length-append, length-drop}
use lib.Seq.{take_at}
use borrow.Author.Tests.{le-ltb, eq-eqb}
use Rattle.words.specs.Words.{first_of}
use Rattle.catalogue.specs.Catalogue.{Catalogue, catalogue_of, size_of}
use Rattle.catalogue.specs.Refusals.{bad_length, catalogue_refusals, catalogue_refusal}
use Rattle.catalogue.proofs.Sound.{length-is, length-limit}
use Rattle.widening.specs.Old.{old_size_of, old_catalogue_of, old_bad_length, old_refusals}
use Rattle.widening.specs.Widen.{widened}
use Rattle.widening.proofs.Bytes.{widened-length}
use Rattle.widening.proofs.Decoding.{decoded, n_bases, bases-at}
use Rattle.fit.specs.Fit.{fit_of}
use Rattle.fit.specs.Refusals.{fit_refusals}
use Rattle.profile.specs.Profile.{profile_refusals}
use Rattle.skill.specs.Skill.{skill_list}
use Rattle.lists.specs.Lists.{list_for}
use Rattle.calls.specs.Answers.{answer, over_pairs, buffer_refusals, skill_refusals}
use Rattle.fitcheck.specs.Calls.{no_reader, is_guest, list_call, skill_call}
use Rattle.calls.specs.Output.{output_by, output, output_word, filled, no_room}
use Rattle.fitcheck.specs.Widen.{widen_call}
use Rattle.calls.proofs.First.{Numbered}
use Rattle.promises.specs.Answers.{Outcome, refusal, count, Conditions, None}
use Rattle.promises.specs.Widens.{widen_outcome, widen_conditions, Fills, written, Stands}
use Rattle.promises.proofs.Answering.{behind}
use Rattle.promises.proofs.Conditions.{none_is, is_none, word-refused, word-answered, word-numbered}

-- ---- a call that writes bytes, from the first of its conditions that holds
module _ (most : ℕ) (l : Conditions) (numbered : Numbered most l) (bs before : List ℕ)
    (small : None l → length bs < 2 ^ 32) (room : None l → length bs ≤ length before) where
  abbrev gives : ℕ → Outcome
  gives k = record { word = output_word (output_by k bs); buffer = filled before (output_by k bs) }

  go : (k : ℕ) → first_of l ≡ k → Fills most l bs before (gives k)
  unfolding output_by output_word filled
  go zero e =
      let n = is_none most l numbered e in
      let s = small n in
      let r = room n in
      let q : first_of l ≡ length bs / 4294967296 = omega arith in
      record {
        refused = word-refused most l numbered (length bs) q;
        answered = word-answered most l numbered (length bs) q;
        numbered = word-numbered most l numbered (length bs) q;
        nothing = λ p. absurd (omega arith);
        counted = λ h. omega arith;
        front = λ h. take_at bs (drop (length bs) before) (length bs) refl;
        others = λ h. behind bs before refl;
        length_kept = length-append bs (drop (length bs) before) ∙ (let d = length-drop (length bs) before in omega arith);
      }
  go (suc k) e =
      let q : first_of l ≡ suc k * 4294967296 / 4294967296 = omega arith in
      record {
        refused = word-refused most l numbered (suc k * 4294967296) q;
        answered = word-answered most l numbered (suc k * 4294967296) q;
        numbered = word-numbered most l numbered (suc k * 4294967296) q;
        nothing = λ p. (omega arith, refl);
        counted = λ h. absurd (omega arith);
        front = λ h. absurd (omega arith);
        others = λ h. absurd (omega arith);
        length_kept = refl;
      }

  pub fills : Fills most l bs before (gives (first_of l))
  fills = go (first_of l) refl

-- ---- the conditions of the widening
module _ (old buffer : List ℕ) where
  -- where none holds
  module _ (n : None (widen_conditions old buffer)) where
    sized : old_bad_length old ≡ false
    sized = go (old_bad_length old) refl n.0
      where
        go : (t : Bool) → old_bad_length old ≡ t → T (not t) → old_bad_length old ≡ false
        go false e h = e
        go true e h = absurd h

    old-size : length old ≡ old_size_of old
    unfolding old_bad_length
    old-size = length-is old (old_size_of old) sized

    few : length (widened old) < 2 ^ 32
    unfolding old_bad_length
    few = omega (arith, widened-length old old-size, length-limit old (old_size_of old) sized, old-size)

  pub widen_answers : Fills 10 (widen_conditions old buffer) (widened old) buffer (widen_outcome old buffer)
  unfolding widen_call output old_refusals no_room
  widen_answers =
      fills 10 (widen_conditions old buffer) (omega arith) (widened old) buffer few
      (λ n. nltb→le (length buffer) (length (widened old)) n.1.1.1.0)

  module _ (answered : refusal (widen_outcome old buffer) ≡ 0) where
    none : None (widen_conditions old buffer)
    none = widen_answers.answered.0 answered

    -- what is written is the widened catalogue
    is_widened : written (widen_outcome old buffer) ≡ widened old
    is_widened =
        ap (λ (k : ℕ). take k (widen_outcome old buffer).buffer) (widen_answers.counted answered) ∙ widen_answers.front answered

    pub widen_decodes : catalogue_of (written (widen_outcome old buffer)) ≡ old_catalogue_of old
    widen_decodes = ap catalogue_of is_widened ∙ decoded old (old-size none)

    module _ (short : count (widen_outcome old buffer) ≤ 16777216) where
      length-right : bad_length (widened old) ≡ false
      unfolding bad_length
      length-right =
          let size = old-size none in
          let e : length (widened old) ≡ size_of (widened old) = omega (arith, widened-length old size, n_bases old size, bases-at old size) in
          let h : length (widened old) ≤ 16777216 = omega (arith, widen_answers.counted answered, short) in
          rw (le-ltb 16777216 (length (widened old)) h, eq-eqb (length (widened old)) (size_of (widened old)) e)

      same-refusals : catalogue_refusals (widened old) ≡ old_refusals old
      unfolding catalogue_refusals old_refusals
      same-refusals = rw (length-right, sized none, decoded old (old-size none))

      stands : Stands old (widened old)
      unfolding catalogue_refusal old_refusals list_call skill_call
      stands = record {
        accepted = ap first_of same-refusals ∙ none_is (old_refusals old) (none.0, (none.1.0, (none.1.1.0, tt)));
        lists = λ t fit buffer.
            ap₂ (λ (l : Conditions) (c : Catalogue).
            let f = fit_of fit in
            let es = list_for t c f in
            let behind = l ++ fit_refusals fit ++ ((13, over_pairs t c f) ∷ []) ++ profile_refusals t.profile ++ buffer_refusals buffer es in
            answer ((19, no_reader t) ∷ behind) es)
            same-refusals (decoded old (old-size none));
        skills = λ t fit result buffer.
            ap₂ (λ (l : Conditions) (c : Catalogue).
            let f = fit_of fit in
            let behind = l ++ fit_refusals fit ++ ((13, over_pairs t c f) ∷ []) ++ skill_refusals t c f result buffer in
            answer ((19, no_reader t) ∷ (20, is_guest t) ∷ behind) (skill_list c f result))
            same-refusals (decoded old (old-size none));
      }

      pub widen_stands : Stands old (written (widen_outcome old buffer))
      widen_stands = subst (Stands old) (sym is_widened) stands
