-- `widening::widen_values` meets its contract. The invariant: the first i values are stored.
use Rattle.std.proofs.Common.{◌≡◌}
use Rattle.image.specs.Bytes.{put}
use Rattle.widening.specs.Widen.{wide_values}
use Rattle.widening.proofs.widen_values.Given as goal

abbrev pub invariant-loop-i : goal.invariant-loop-i
invariant-loop-i l = l.out ≡ put l.initial.out l.at (wide_values l.old l.i)
