-- An answer that is bytes: which it is, from its conditions, and that code which writes or refuses gives it.
use Prim.Native.Nat.{ℕ, zero, suc, ◌*◌, ◌≤◌, ◌<◌}
use native.Mathlib.Nat.{zero-add}
use native.Mathlib.Omega.{arith}
use mathlib.Core.Path.{◌≡◌, refl, sym, ap, ◌∙◌, subst}
use mathlib.Core.Bool.{Bool, true, false}
use mathlib.Core.List.{List, ◌∷◌, ◌++◌}
use Rattle.std.specs.Prelude.{Result, Err}
use lib.ListN.{length, drop}
use borrow.Author.Tests.{lt-ltb, le-ltb}
use Rattle.words.specs.Words.{first_of}
use Rattle.numbers.specs.Sizes as Sizes
use Rattle.numbers.specs.Refusals as Refusals
use Rattle.numbers.specs.Refused.{number}
use Rattle.numbers.specs.declared.refusals.Refusal.{Refusal}
use Rattle.image.specs.Bytes.{put}
use Rattle.image.proofs.Stores.{put-parts}
use Rattle.calls.specs.Output.{Output, Withheld, Written, output_by, output, filled, output_word, no_room, room_refusals}
use Rattle.calls.specs.Gave.{GaveBytes, word_of}
use Rattle.calls.proofs.Results.{holds}
use Rattle.calls.proofs.First.{Numbered, first-kept, first_past}

-- ---- which answer
by_number : (k : ℕ) (bs : List ℕ) → 0 < k → output_by k bs ≡ Withheld k
unfolding output_by
by_number zero bs h = absurd (omega arith)
by_number (suc k) bs h = refl

module _ (l m : List (ℕ × Bool)) (bs : List ℕ) where
  -- a condition in front holds
  pub output-kept : 0 < first_of l → output (l ++ m) bs ≡ Withheld (first_of l)
  unfolding output
  output-kept h = ap (λ (k : ℕ). output_by k bs) (first-kept l m h) ∙ by_number (first_of l) bs h

  -- none in front holds
  pub output-past : (limit : ℕ) → Numbered limit l → first_of l ≡ 0 → output (l ++ m) bs ≡ output m bs
  unfolding output
  output-past limit n e = ap (λ (k : ℕ). output_by k bs) (first_past limit l m n e)

-- the first condition of a list holds or does not
module _ (n : ℕ) {t : Bool} (m : List (ℕ × Bool)) (bs : List ℕ) where
  pub output-true : 0 < n → t ≡ true → output ((n, t) ∷ m) bs ≡ Withheld n
  unfolding output first_of
  output-true h e = rw e (by_number n bs h)

  pub output-false : t ≡ false → output ((n, t) ∷ m) bs ≡ output m bs
  unfolding output first_of
  output-false e = rw e

-- the buffer decides
module _ (buffer bs : List ℕ) where
  pub output-short : length buffer < length bs → output (room_refusals buffer bs) bs ≡ Withheld Refusals.too_short
  unfolding output output_by first_of no_room
  output-short h = rw (lt-ltb (length buffer) (length bs) h)

  pub output-written : length bs ≤ length buffer → output (room_refusals buffer bs) bs ≡ Written bs
  unfolding output output_by first_of no_room
  output-written h = rw (le-ltb (length buffer) (length bs) h)

-- ---- what code has done
pub bytes_same : {b a : List ℕ} {w : ℕ} {x y : Output} → x ≡ y → GaveBytes b a w x → GaveBytes b a w y
bytes_same {b} {a} {w} e g = subst (GaveBytes b a w) e g

pub bytes-refused : (b : List ℕ) (n : ℕ) {w : ℕ} → w ≡ n * Sizes.word → GaveBytes b b w (Withheld n)
unfolding output_word filled
bytes-refused b n e = record { word = e; buffer = refl }

-- a check's refusal that is passed on
pub bytes-first : (b : List ℕ) {r : Result ℕ Refusal} {e : Refusal} → r ≡ Err e → (l : List (ℕ × Bool)) → number e ≡ first_of l → (m : List (ℕ × Bool)) (bs : List ℕ)
    → GaveBytes b b (word_of r) (output (l ++ m) bs)
bytes-first b {e} is l told m bs =
    bytes_same (sym (output-kept l m bs (holds e l told))) (bytes-refused b (first_of l) (ap word_of is ∙ ap (λ (k : ℕ). k * Sizes.word) told))

-- stored from byte 0 on, where there is room
pub bytes-written : (b : List ℕ) {a : List ℕ} {w : ℕ} (bs : List ℕ) → w ≡ length bs → a ≡ put b 0 bs → length bs ≤ length b
    → GaveBytes b a w (Written bs)
unfolding output_word filled
bytes-written b bs h p room = record {
  word = h;
  buffer = p ∙ put-parts b 0 bs (omega (arith, room)) ∙ ap (λ (k : ℕ). bs ++ drop k b) (zero-add (length bs));
}
