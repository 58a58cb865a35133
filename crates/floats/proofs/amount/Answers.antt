-- `floats::amount` meets its contract: `given` with nothing made of the value is the library's `unwrap_or`.
use Rattle.std.proofs.Common.{◌≡◌, refl, ◌∙◌}
use Rattle.std.specs.Prelude.{Option, None, Some, Float, unwrap_or}
use lib.Ieee.{of_bits, binary64}
use Rattle.words.specs.Words.{given}
use Rattle.floats.specs.Floats.{zero_f}
use Rattle.floats.proofs.amount.Goals as goal

or_zero : (v : Option Float) → unwrap_or v (of_bits binary64 0) ≡ given v zero_f (λ x. x)
unfolding given of_bits
or_zero None = refl
or_zero (Some x) = refl

pub returns : goal.returns
returns c = c.unwrap_or.ensures ∙ or_zero c.args.v
