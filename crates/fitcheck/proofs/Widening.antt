-- What the widening call answers, from its conditions.
use Prim.Native.Nat.{ℕ, ◌≤◌, ◌<◌}
use native.Mathlib.Omega.{arith}
use mathlib.Core.Path.{◌≡◌, ◌∙◌}
use mathlib.Core.List.{List}
use lib.ListN.{length}
use Rattle.numbers.specs.Refusals as Refusals
use Rattle.widening.specs.Old.{old_refusals, old_refusal}
use Rattle.widening.specs.Widen.{widened}
use Rattle.calls.specs.Output.{Withheld, Written, output, room_refusals}
use Rattle.calls.proofs.First.{Numbered}
use Rattle.calls.proofs.Outputs.{output-kept, output-past, output-short, output-written}
use Rattle.fitcheck.specs.Widen.{widen_call}

pub numbered-old : (old : List ℕ) → Numbered 3 (old_refusals old)
unfolding old_refusals
numbered-old old = (omega arith, omega arith, (omega arith, omega arith, (omega arith, omega arith, tt)))

module _ (old buffer : List ℕ) where
  pub widen_refused : 0 < old_refusal old → widen_call old buffer ≡ Withheld (old_refusal old)
  unfolding widen_call old_refusal
  widen_refused h = output-kept (old_refusals old) _ _ h

  module _ (e : old_refusal old ≡ 0) where
    past : widen_call old buffer ≡ output (room_refusals buffer (widened old)) (widened old)
    unfolding widen_call old_refusal
    past = output-past (old_refusals old) _ _ 3 (numbered-old old) e

    pub widen_short : length buffer < length (widened old) → widen_call old buffer ≡ Withheld Refusals.too_short
    widen_short h = past ∙ output-short buffer (widened old) h

    pub widen_written : length (widened old) ≤ length buffer → widen_call old buffer ≡ Written (widened old)
    widen_written h = past ∙ output-written buffer (widened old) h
