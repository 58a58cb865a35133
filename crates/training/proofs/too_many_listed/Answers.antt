-- `training::too_many_listed` meets its contract: no more are counted than the walk has.
use Prim.Native.Nat.{ℕ, ◌+◌}
use native.Mathlib.Omega.{arith}
use mathlib.Core.Path.{sym, ap₂}
use lib.Dec.{ltb}
use borrow.Author.Tests.{le-ltb}
use Rattle.words.specs.Words.{count_of}
use Rattle.numbers.specs.Sizes as Sizes
use Rattle.fit.specs.Fit.{fit_of, skill_count}
use Rattle.skill.specs.Held.{walk_of}
use Rattle.training.specs.Training.{training_of}
use Rattle.training.specs.Turns.{is_new}
use Rattle.training.proofs.Counting.{count-walk}
use Rattle.training.proofs.too_many_listed.Goals as goal

pub returns-then-listed-walk-le-MOST_SKILLS : goal.returns-then-listed-walk-le-MOST_SKILLS
returns-then-listed-walk-le-MOST_SKILLS c =
    let b = c.args.fit.now in
    let n = count_of (is_new (training_of (fit_of b))) (walk_of c.args.walk) in
    sym (le-ltb Sizes.most_skills (skill_count b + n) (omega (arith, c.if-listed-walk-le-MOST_SKILLS.true, c.skill_count-listed.ensures, count-walk (is_new (training_of (fit_of b))) c.args.walk)))

pub returns : goal.returns
returns c = ap₂ (λ (x y : ℕ). ltb Sizes.most_skills (x + y)) c.skill_count-listed.ensures c.new_skills.ensures.0
