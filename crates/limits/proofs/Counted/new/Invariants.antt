-- `limits::Counted::new` meets its contract. The invariant: the groups and states of the first i pairs have been read.
use mathlib.Core.Path.{◌≡◌}
use lib.ListN.{length}
use Rattle.limits.specs.Groups.{Grouped, Stated}
use Rattle.limits.proofs.Counted.new.Given as goal

abbrev pub invariant-loop-i : goal.invariant-loop-i
invariant-loop-i l =
    (length l.groups ≡ 256) × (length l.states ≡ 256) × Grouped l.i l.context l.groups × Stated l.i l.context l.states
