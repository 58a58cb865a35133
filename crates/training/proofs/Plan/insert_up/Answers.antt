-- `training::Plan::insert_up` meets its contract: what stands from the place on moves up, and the skill is stored there.
use Prim.Native.Nat.{ℕ, ◌+◌, ◌*◌}
use native.Mathlib.Omega.{arith}
use mathlib.Core.Path.{refl, ap, ap₂, ◌∙◌}
use mathlib.Core.List.{List}
use lib.ListN.{set}
use mir.ValLaws.{to_z-of_z}
use mir.Syntax.{w32}
use Rattle.image.specs.Bytes.{bits32, le, put}
use Rattle.training.specs.Turns.{held_in}
use Rattle.training.proofs.Arrays.{inserted_up}
use Rattle.training.proofs.Plan.insert_up.Goals as goal

pub returns : goal.returns
returns c =
    let a = c.args in
    let p = a.self.now in
    let lacks = c.requires.1 in
    let place = p.from + a.at in
    let four = c.bits.ensures ∙ ap bits32 (to_z-of_z w32 a.id c.ranges.id) in
    let first = c.put_u32.ensures ∙ ap₂ (λ (l : List ℕ) (x : ℕ). put l (4 * place) (le 4 x)) c.move_up.ensures four in
    let second = ap (λ (l : List ℕ). set l place a.level) c.move_up-2.ensures in (
      ap₂ (λ (i l : List ℕ). held_in i l p.from (p.len + 1)) first second
          ∙ inserted_up p.ids p.levels p.from p.len a.id c.ranges.id.sfits a.at lacks.parted lacks.missing a.level (omega (arith, c.requires.0)) (omega (arith, c.requires.0)),
      refl,
      refl,
    )
