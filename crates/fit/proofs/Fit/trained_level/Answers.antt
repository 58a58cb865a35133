-- `Fit::trained_level` meets its contract: a skill's place among the ids is that of its level.
use Prim.Native.Nat.{ℕ, ◌+◌, ◌<◌}
use native.Mathlib.Omega.{arith}
use mathlib.Core.Path.{◌≡◌, ◌∙◌, ap, sym}
use mir.ValLaws.{to_z-of_z}
use mir.Syntax.{w32}
use Rattle.words.specs.Words.{given}
use Rattle.image.specs.Bytes.{u8_at}
use Rattle.keys.proofs.Parts.{place-below, place-alike}
use Rattle.fit.specs.Fit.{skill_count, levels_at}
use Rattle.fit.proofs.Searches.{level_told}
use Rattle.fit.proofs.Fit.trained_level.Goals.{After-levels_at}
use Rattle.fit.proofs.Fit.trained_level.Goals as goal

-- the place is that of a skill
place_in : (c : After-levels_at) → c.in-Some.i < skill_count c.self.inside.bytes.now
place_in c = rw c.self.view_is (omega (arith, c.skill_keys.ensures.1, place-below _ _ _ _ (sym c.in-Some.ensures)))

-- where the levels begin
begins : (c : After-levels_at) → c.levels_at.result ≡ levels_at c.self.inside.bytes.now
begins c = c.levels_at.ensures ∙ ap levels_at (rw (← c.self.view_is) at c.layout.ensures)

pub overflow_add-levels_at : goal.overflow_add-levels_at
overflow_add-levels_at c = omega (arith, place_in c, begins c)

pub u8_at-requires : goal.u8_at-requires
u8_at-requires c = omega (arith, place_in c, begins c)

pub returns-in-Some : goal.returns-in-Some
unfolding given
returns-in-Some c =
    let a = c.args in
    let b = c.self.inside.bytes.now in
    let k = c.skill_keys.ensures in
    let e = rw (← c.self.view_is) at (c.in-Some.ensures ∙ place-alike _ _ _ _ k.0 k.1 _ _ (to_z-of_z w32 a.id c.ranges.id)) in
    rw (← c.self.view_is) (c.u8_at.ensures ∙ ap (λ (k : ℕ). u8_at b (k + c.in-Some.i)) (c.levels_at.ensures ∙ ap levels_at (rw (← c.self.view_is) at c.layout.ensures)) ∙ level_told b a.id e)

pub returns-in-None : goal.returns-in-None
unfolding given
returns-in-None c =
    let a = c.args in
    let k = c.skill_keys.ensures in
    level_told a.self.now a.id (c.in-None.ensures ∙ place-alike _ _ _ _ k.0 k.1 _ _ (to_z-of_z w32 a.id c.ranges.id))
