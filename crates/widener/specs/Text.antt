-- Document 02, P10: what the program `widen` puts on standard output, from the bytes of types.bin.
use Rattle.std.specs.Prelude.{ℕ, zero, suc, List}
use Rattle.widening.specs.Old.{old_refusal}
use Rattle.widening.specs.Widen.{widened}
use Rattle.program.specs.Text.{refused}

-- by the refusal of 1 to 3 that the old form gets: the new catalogue, or the line
unfoldable pub printed_by : ℕ → List ℕ → List ℕ
printed_by zero old = widened old
printed_by (suc n) old = refused (suc n)

unfoldable pub printed : List ℕ → List ℕ
printed old = printed_by (old_refusal old) old
