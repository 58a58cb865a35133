-- Document 02, P10: the call that turns an old catalogue into a new one, as a function of bytes.
use Rattle.std.specs.Prelude.{ℕ, List, ◌++◌}
use Rattle.widening.specs.Old.{old_refusals}
use Rattle.widening.specs.Widen.{widened}
use Rattle.calls.specs.Output.{Output, output, room_refusals}

-- 1 to 3 judge the old form, 10 the buffer
unfoldable pub widen_call : (old buffer : List ℕ) → Output
widen_call old buffer = output (old_refusals old ++ room_refusals buffer (widened old)) (widened old)
