-- `training::Plan::take_turns` meets its contract. The invariant: the first i skills had their turns, and each listed one more at most.
use Prim.Native.Nat.{ℕ}
use native.Mathlib.Omega.{arith}
use mathlib.Core.Path.{◌≡◌, refl, sym, ap, ◌∙◌, subst}
use lib.IntN.{pos}
use lib.ListN.{get_or}
use mir.ValLaws.{to_z-of_z}
use mir.Syntax.{w32}
use borrow.Author.Rules.{rules}
use Rattle.skill.specs.Held.{held_of}
use Rattle.skill.specs.Skill.{Demand}
use Rattle.skill.proofs.Zips.{pair_eq}
use Rattle.training.specs.Training.{Training}
use Rattle.training.specs.Turns.{turn, turns, Listed}
use Rattle.training.specs.Plans.{plan_of}
use Rattle.training.proofs.Turning.{turns-listed, turns-none, turns_next}
use Rattle.training.proofs.Plan.take_turns.Goals as goal

pub loop-i-init : goal.loop-i-init
loop-i-init c =
    let a = c.args in
    (turns-none (plan_of a.self.now) a.steps a.walk.ids a.walk.levels, record { longer = omega arith; lower = omega arith; near = omega arith })

pub take_turn-left-requires : goal.take_turn-left-requires
take_turn-left-requires c =
    let l = c.loop-i in
    let a = c.args in
    let g = l.invariant.1 in
    let test = c.loop-i-test.true in (
      omega (arith, g.near, test, c.requires, a.walk.few),
      omega (arith, g.longer, g.lower, test, c.requires, a.walk.few),
      subst Listed (sym (ap (λ (p : Training × ℕ). p.0) l.invariant.0))
          (turns-listed (held_of a.walk.ids a.walk.levels l.i) (plan_of a.self.now) a.steps c.requires.2),
    )

pub loop-i-preserved : goal.loop-i-preserved
loop-i-preserved c =
    let l = c.loop-i in
    let a = c.args in
    let g = l.invariant.1 in
    let skill = get_or a.walk.ids l.i (pos 0) in
    let e = pair_eq (to_z-of_z w32 skill (search rules)) (refl {a = get_or a.walk.levels l.i 0}) in
    let r = c.take_turn-left.ensures in (
      r.0 ∙ ap (λ (w : Demand). turn (plan_of l.self, l.left) w) e ∙ turns_next (plan_of a.self.now) a.steps a.walk.ids a.walk.levels l.i l.invariant.0,
      record { longer = omega (arith, r.1.longer, g.longer); lower = omega (arith, r.1.lower, g.lower); near = omega (arith, r.1.near, g.near) },
    )

pub returns : goal.returns
returns c =
    let l = c.loop-i in
    let a = c.args in
    let g = l.invariant.1 in
    let all : l.i ≡ a.walk.len = omega (arith, c.loop-i-test.false, l.auto.i-end) in (
      ap (λ (p : Training × ℕ). p.0) l.invariant.0 ∙ ap (λ (k : ℕ). (turns (plan_of a.self.now) a.steps (held_of a.walk.ids a.walk.levels k)).0) all,
      record { longer = omega (arith, g.longer, all); lower = g.lower; near = omega (arith, g.near, all) },
    )
