-- `context::gather_pairs` meets its contract. The invariant: the first i pairs have been gathered.
use mathlib.Core.Path.{◌≡◌}
use lib.ListN.{length}
use Rattle.context.specs.Gathered.{Pairs}
use Rattle.context.proofs.gather_pairs.Given as goal

abbrev pub invariant-loop-i : goal.invariant-loop-i
invariant-loop-i l = record { long : length l.pairs ≡ 256; gathered : Pairs l.catalogue l.fit l.i l.pairs }
