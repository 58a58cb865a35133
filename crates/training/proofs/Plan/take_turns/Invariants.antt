-- `training::Plan::take_turns` meets its contract. The invariant: the first i skills had their turns, and each listed one more at most.
use Prim.Native.Nat.{ℕ}
use mathlib.Core.Path.{◌≡◌}
use Rattle.skill.specs.Held.{held_of}
use Rattle.training.specs.Training.{Training}
use Rattle.training.specs.Turns.{turns}
use Rattle.training.specs.Plans.{plan_of, Grown}
use Rattle.training.proofs.Plan.take_turns.Given as goal

abbrev pub invariant-loop-i : goal.invariant-loop-i
invariant-loop-i l =
    ◌≡◌ {A = Training × ℕ} (plan_of l.self, l.left) (turns (plan_of l.initial.self) l.steps (held_of l.walk.ids l.walk.levels l.i))
    × Grown l.initial.self l.self l.i
