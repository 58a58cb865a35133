-- `training::Plan::insert_down` meets its contract: what stands before the place moves down, and the skill is stored behind it.
use Prim.Native.Nat.{ℕ, ◌+◌, ◌-◌, ◌*◌}
use native.Mathlib.Omega.{arith}
use mathlib.Core.Path.{refl, ap, ap₂, ◌∙◌}
use mathlib.Core.List.{List}
use lib.ListN.{set}
use mir.ValLaws.{to_z-of_z}
use mir.Syntax.{w32}
use Rattle.image.specs.Bytes.{bits32, le, put}
use Rattle.training.specs.Turns.{held_in}
use Rattle.training.proofs.Arrays.{inserted_down}
use Rattle.training.proofs.Plan.insert_down.Goals as goal

pub returns : goal.returns
returns c =
    let a = c.args in
    let p = a.self.now in
    let lacks = c.requires.1 in
    let place = p.from + a.at in
    let four = c.bits.ensures ∙ ap bits32 (to_z-of_z w32 a.id c.ranges.id) in
    let first = c.put_u32.ensures ∙ ap₂ (λ (l : List ℕ) (x : ℕ). put l (4 * place - 4) (le 4 x)) c.move_down.ensures four in
    let second = ap (λ (l : List ℕ). set l (place - 1) a.level) c.move_down-2.ensures in (
      ap₂ (λ (i l : List ℕ). held_in i l (p.from - 1) (p.len + 1)) first second
          ∙ inserted_down p.ids p.levels p.from p.len a.id c.ranges.id.sfits a.at lacks.parted lacks.missing a.level c.requires.0 (omega (arith, p.within)) (omega (arith, p.within)),
      omega (arith, c.requires.0),
      refl,
    )
