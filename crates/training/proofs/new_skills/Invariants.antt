-- `training::new_skills` meets its contract. The invariant: of the first i skills those that lack and are not listed are counted.
use Prim.Native.Nat.{◌≤◌}
use mathlib.Core.Path.{◌≡◌}
use Rattle.words.specs.Words.{count_of}
use Rattle.fit.specs.Fit.{fit_of}
use Rattle.skill.specs.Held.{held_of}
use Rattle.training.specs.Training.{training_of}
use Rattle.training.specs.Turns.{is_new}
use Rattle.training.proofs.new_skills.Given as goal

abbrev pub invariant-loop-i : goal.invariant-loop-i
invariant-loop-i l =
    (l.count ≡ count_of (is_new (training_of (fit_of l.fit))) (held_of l.walk.ids l.walk.levels l.i)) × (l.count ≤ l.i)
