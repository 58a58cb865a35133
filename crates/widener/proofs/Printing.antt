-- What is printed, from the call's word and buffer. So short an image has room for what it widens to: it is refused by 1 to 3 or answered.
use Prim.Native.Nat.{ℕ, zero, suc, ◌/◌, ◌≤◌, ◌<◌}
use native.Mathlib.Omega.{arith}
use mathlib.Core.Path.{◌≡◌, refl, sym, ap, subst, ◌∙◌}
use mathlib.Core.List.{List}
use lib.ListN.{length, take, drop, length-append}
use lib.Seq.{take_at}
use Rattle.numbers.specs.Sizes as Sizes
use Rattle.widening.specs.Old.{old_refusal}
use Rattle.widening.specs.Widen.{widened}
use Rattle.widening.proofs.Judging.{accepted-old}
use Rattle.widening.proofs.Bytes.{widened-length}
use Rattle.calls.specs.Output.{Output, Withheld, Written, output_word, filled}
use Rattle.fitcheck.specs.Widen.{widen_call}
use Rattle.fitcheck.proofs.Widening.{widen_refused, widen_written}
use Rattle.program.specs.Text.{refused}
use Rattle.widener.specs.Text.{printed_by, printed}

-- the bytes that an answer counts
abbrev Prints : (old buffer : List ℕ) → Output → Type 0
Prints old buffer o = (output_word o ≤ length (filled buffer o)) × (take (output_word o) (filled buffer o) ≡ printed old)

module _ (old buffer : List ℕ) (short : length old ≤ 65536) (room : 87372 ≤ length buffer) where
  fits : old_refusal old ≡ 0 → length (widened old) ≤ length buffer
  fits e = let size = (accepted-old old e).0 in omega (arith, widened-length old size, size, short, room)

  is_written : old_refusal old ≡ 0 → widen_call old buffer ≡ Written (widened old)
  is_written e = widen_written old buffer e (fits e)

  is_withheld : (k : ℕ) → old_refusal old ≡ suc k → widen_call old buffer ≡ Withheld (suc k)
  is_withheld k e = widen_refused old buffer (omega (arith, e)) ∙ ap Withheld e

  written-prints : old_refusal old ≡ 0 → Prints old buffer (Written (widened old))
  unfolding output_word filled printed printed_by
  written-prints e =
      let bs = widened old in
      let rest = drop (length bs) buffer in
      (omega (arith, length-append bs rest), take_at bs rest (length bs) refl ∙ rw e refl)

  pub prints : output_word (widen_call old buffer) < Sizes.word → Prints old buffer (widen_call old buffer)
  unfolding output_word
  prints h = go (old_refusal old) refl
    where
      go : (k : ℕ) → old_refusal old ≡ k → Prints old buffer (widen_call old buffer)
      go zero e = subst (Prints old buffer) (sym (is_written e)) (written-prints e)
      go (suc k) e = absurd (let w = ap output_word (is_withheld k e) in omega (arith, w, h))

  pub refuses : Sizes.word ≤ output_word (widen_call old buffer) → refused (output_word (widen_call old buffer) / Sizes.word) ≡ printed old
  unfolding output_word printed printed_by
  refuses h = go (old_refusal old) refl
    where
      go : (k : ℕ) → old_refusal old ≡ k → refused (output_word (widen_call old buffer) / Sizes.word) ≡ printed old
      go zero e =
          let w = ap output_word (is_written e) in
          let size = (accepted-old old e).0 in
          absurd (omega (arith, w, h, widened-length old size, size, short))
      go (suc k) e =
          let w = ap output_word (is_withheld k e) in
          let q : output_word (widen_call old buffer) / Sizes.word ≡ suc k = omega (arith, w) in
          ap refused q ∙ rw e refl
