-- `training::new_skills` meets its contract. The invariant: of the first i skills those that lack and are not listed are counted.
use Prim.Native.Nat.{ℕ}
use native.Mathlib.Omega.{arith}
use mathlib.Core.Path.{◌≡◌, refl, sym, ap, ◌∙◌}
use mathlib.Core.Bool.{cond}
use lib.IntN.{pos}
use lib.ListN.{get_or}
use mir.ValLaws.{to_z-of_z}
use mir.Syntax.{w32}
use borrow.Author.Rules.{rules}
use Rattle.words.specs.Words.{count_of}
use Rattle.words.proofs.Tables.{count-more, count_none}
use Rattle.fit.specs.Fit.{fit_of}
use Rattle.skill.specs.Skill.{Demand}
use Rattle.skill.specs.Held.{zip_to, held_at, held_of}
use Rattle.skill.proofs.Zips.{pair_eq}
use Rattle.training.specs.Training.{training_of}
use Rattle.training.specs.Turns.{is_new}
use Rattle.training.proofs.new_skills.Goals as goal

pub loop-i-init : goal.loop-i-init
unfolding zip_to
loop-i-init c =
    let a = c.args in
    (sym (count_none (held_at a.walk.ids a.walk.levels) (is_new (training_of (fit_of a.fit.now)))), omega arith)

pub overflow_add-count : goal.overflow_add-count
overflow_add-count c = let l = c.loop-i in omega (arith, c.new_skill-count.ensures.1, l.invariant.1, c.loop-i-test.true, c.args.walk.few)

pub loop-i-preserved : goal.loop-i-preserved
unfolding zip_to
loop-i-preserved c =
    let l = c.loop-i in
    let a = c.args in
    let new = is_new (training_of (fit_of a.fit.now)) in
    let skill = get_or a.walk.ids l.i (pos 0) in
    let e = pair_eq (to_z-of_z w32 skill (search rules)) (refl {a = get_or a.walk.levels l.i 0}) in
    let r = c.new_skill-count.ensures.0 ∙ ap (λ (w : Demand). cond (new w) 1 0) e in
    let more = count-more (held_at a.walk.ids a.walk.levels) new l.i in
    (omega (arith, r, more, l.invariant.0), omega (arith, c.new_skill-count.ensures.1, l.invariant.1))

pub returns : goal.returns
returns c =
    let l = c.loop-i in
    let a = c.args in
    let all : l.i ≡ a.walk.len = omega (arith, c.loop-i-test.false, l.auto.i-end) in (
      l.invariant.0 ∙ ap (λ (k : ℕ). count_of (is_new (training_of (fit_of a.fit.now))) (held_of a.walk.ids a.walk.levels k)) all,
      omega (arith, l.invariant.1, all, a.walk.few),
    )
