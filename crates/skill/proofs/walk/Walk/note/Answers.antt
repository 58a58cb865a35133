-- `skill::Walk::note` meets its contract, by the skill's place: its level rises, all stays, it goes last, or there is no room.
use native.Mathlib.Omega.{arith}
use mathlib.Core.Path.{ap, ◌∙◌}
use lib.ListN.{set}
use lib.IntN.{ℤ}
use mir.Syntax.{w32}
use mir.ValLaws.{to_z-of_z}
use borrow.Author.Rules.{rules}
use Rattle.skill.proofs.Noting.{placed, new, noted-raised, noted-known, noted-new, noted-full}
use Rattle.skill.proofs.walk.Walk.note.Goals as goal

pub returns-else-level-self : goal.returns-else-level-self
returns-else-level-self c =
    let w = c.args.self.now in
    let p = c.in-Some.ensures in
    noted-raised w (placed c.args.id c.ranges.id p.1) (search rules) p.0 c.if-level-self.false c.raise.ensures

pub returns-then-level-self : goal.returns-then-level-self
returns-then-level-self c =
    let p = c.in-Some.ensures in
    noted-known c.args.self.now (placed c.args.id c.ranges.id p.1) p.0 c.if-level-self.true

pub returns-then-self-eq-MOST_WANTED : goal.returns-then-self-eq-MOST_WANTED
returns-then-self-eq-MOST_WANTED c =
    noted-full c.args.self.now (new c.args.self.now c.args.id c.ranges.id c.in-None.ensures) c.if-self-eq-MOST_WANTED.true

pub returns-else-self-eq-MOST_WANTED : goal.returns-else-self-eq-MOST_WANTED
returns-else-self-eq-MOST_WANTED c =
    let w = c.args.self.now in
    let a = c.add.ensures in
    noted-new w (new c.args.self.now c.args.id c.ranges.id c.in-None.ensures) (search rules) (search rules)
    (omega (arith, w.few, c.if-self-eq-MOST_WANTED.false))
    (a.0 ∙ ap (λ (z : ℤ). set w.ids w.len z) (to_z-of_z w32 c.args.id c.ranges.id), a.1, a.2)
