-- What a call answers, from its conditions, and that code which writes or refuses gives it.
use Prim.Native.Nat.{ℕ, zero, suc, ◌*◌, ◌≤◌, ◌<◌}
use native.Mathlib.Omega.{arith}
use mathlib.Core.Path.{◌≡◌, refl, sym, ap, ◌∙◌, subst}
use mathlib.Core.Bool.{Bool, true, false}
use mathlib.Core.List.{List, [], ◌∷◌, ◌++◌}
use native.Mathlib.Nat.{zero-add}
use Rattle.std.specs.Prelude.{Result, Err}
use lib.ListN.{length, take, drop, length-append}
use lib.Seq.{take-append_seam}
use borrow.Author.Tests.{lt-ltb, le-ltb}
use Rattle.words.specs.Words.{each, first_of}
use Rattle.numbers.specs.Sizes as Sizes
use Rattle.numbers.specs.Refusals as Refusals
use Rattle.numbers.specs.Refused.{number}
use Rattle.numbers.specs.declared.refusals.Refusal.{Refusal}
use Rattle.image.specs.Bytes.{put}
use Rattle.image.proofs.Stores.{put-parts}
use Rattle.entry.specs.declared.Entry.{Entry}
use Rattle.entry.specs.Entries.{entry_bytes, written}
use Rattle.entry.specs.Wrote.{Wrote}
use Rattle.entry.proofs.Bytes.{length-entry_bytes}
use Rattle.entry.proofs.Wrote.{wrote_count, wrote-written}
use Rattle.lists.specs.Terms.{Terms}
use Rattle.calls.specs.Answers.{Answer, Refused, answer_by, answer, too_short, input_refusals, buffer_refusals}
use Rattle.calls.specs.Answers.{returned, buffered}
use Rattle.calls.specs.Gave.{Gave, lent, word_of}
use Rattle.calls.proofs.Results.{holds}
use Rattle.calls.proofs.First.{Numbered, first-kept, first_past, numbered-inputs}

-- ---- which answer. Outputs.antt has these laws of an answer that is bytes, which is another type of specs/; what the two have in common
-- is in First.antt, and one law of both would have as much to say at each of its two uses
by_number : (k : ℕ) (es : List Entry) → 0 < k → answer_by k es ≡ Refused k
unfolding answer_by
by_number zero es h = absurd (omega arith)
by_number (suc k) es h = refl

module _ (l m : List (ℕ × Bool)) (es : List Entry) where
  -- a condition in front holds
  pub answer_kept : 0 < first_of l → answer (l ++ m) es ≡ Refused (first_of l)
  unfolding answer
  answer_kept h = ap (λ (k : ℕ). answer_by k es) (first-kept l m h) ∙ by_number (first_of l) es h

  -- none in front holds
  pub answer_past : (limit : ℕ) → Numbered limit l → first_of l ≡ 0 → answer (l ++ m) es ≡ answer m es
  unfolding answer
  answer_past limit n e = ap (λ (k : ℕ). answer_by k es) (first_past limit l m n e)

-- the first condition of a list holds or does not
module _ (n : ℕ) {t : Bool} (m : List (ℕ × Bool)) (es : List Entry) where
  pub answer_true : 0 < n → t ≡ true → answer ((n, t) ∷ m) es ≡ Refused n
  unfolding answer first_of
  answer_true h e = rw e (by_number n es h)

  pub answer_false : t ≡ false → answer ((n, t) ∷ m) es ≡ answer m es
  unfolding answer first_of
  answer_false e = rw e

-- ---- what code has done
pub gave_same : {b a : List ℕ} {w : ℕ} {x y : Answer} → x ≡ y → Gave b a w x → Gave b a w y
gave_same {b} {a} {w} e g = subst (Gave b a w) e g

pub gave_refused : (b : List ℕ) (n : ℕ) {w : ℕ} → w ≡ n * Sizes.word → Gave b b w (Refused n)
unfolding returned buffered
gave_refused b n e = record { word = e; buffer = refl }

-- a check's refusal that is passed on
pub gave_first : (b : List ℕ) {r : Result ℕ Refusal} {e : Refusal} → r ≡ Err e → (l : List (ℕ × Bool)) → number e ≡ first_of l → (m : List (ℕ × Bool)) (es : List Entry)
    → Gave b b (word_of r) (answer (l ++ m) es)
gave_first b {e} is l told m es =
    gave_same (sym (answer_kept l m es (holds e l told))) (gave_refused b (first_of l) (ap word_of is ∙ ap (λ (k : ℕ). k * Sizes.word) told))

bytes-length : (es : List Entry) → length (each es entry_bytes) ≡ 24 * length es
unfolding each
bytes-length [] = refl
bytes-length (e ∷ es) = omega (arith, length-append (entry_bytes e) (each es entry_bytes), length-entry_bytes e, bytes-length es)

module _ {b : List ℕ} (es : List Entry) where
  -- no room: refusal 10
  pub gave_short : {w : ℕ} → length b < 24 * length es → w ≡ Refusals.too_short * Sizes.word → Gave b b w (lent b es)
  unfolding too_short
  gave_short h e =
      gave_same (sym (answer_true Refusals.too_short [] es (omega arith) (lt-ltb (length b) (24 * length es) h)))
      (gave_refused b Refusals.too_short e)

  -- room: the list
  pub gave_list : {a : List ℕ} {k : ℕ} → 24 * length es ≤ length b → Wrote b 0 a k es → Gave b a k (lent b es)
  unfolding answer answer_by first_of too_short returned buffered
  gave_list h w = rw (le-ltb (length b) (24 * length es) h) record { word = wrote_count w; buffer = wrote-written w h }

  -- room, and the list was written to another place and copied
  pub gave_copied : {place filled a : List ℕ} {k : ℕ} → Wrote place 0 filled k es → 24 * length es ≤ length place → 24 * length es ≤ length b
      → a ≡ put b 0 (take (24 * k) (drop 0 filled)) → Gave b a k (lent b es)
  unfolding answer answer_by first_of too_short returned buffered written
  gave_copied {place} {filled} {a} {k} w p h e =
      let bs = each es entry_bytes in
      let n = bytes-length es in
      let m : 24 * k ≡ length bs = omega (arith, n, wrote_count w) in
      let f : take (24 * k) filled ≡ bs =
      ap (take (24 * k)) (wrote-written w p) ∙ ap (λ (j : ℕ). take j (bs ++ drop (24 * length es) place)) m ∙ take-append_seam bs (drop (24 * length es) place) in
      let q : a ≡ bs ++ drop (24 * length es) b =
      e ∙ ap (put b 0) f ∙ put-parts b 0 bs (omega (arith, n, h)) ∙ ap (λ (j : ℕ). bs ++ drop j b) (zero-add (length bs) ∙ n) in
      rw (le-ltb (length b) (24 * length es) h) record { word = wrote_count w; buffer = q }

-- ---- the list call of a reader that there is, by the refusals of all that it brings
module _ (t : Terms) (catalogue fit buffer : List ℕ) (es : List Entry) where
  pub inputs_refused : 0 < first_of (input_refusals t catalogue fit)
      → answer (input_refusals t catalogue fit ++ buffer_refusals buffer es) es ≡ Refused (first_of (input_refusals t catalogue fit))
  inputs_refused h = answer_kept (input_refusals t catalogue fit) _ _ h

  pub inputs_past : first_of (input_refusals t catalogue fit) ≡ 0 → answer (input_refusals t catalogue fit ++ buffer_refusals buffer es) es ≡ lent buffer es
  inputs_past e = answer_past (input_refusals t catalogue fit) _ _ 13 (numbered-inputs t catalogue fit) e
