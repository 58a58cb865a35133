-- `training::Plan::hold` meets its contract: the arrays hold the fit's skills.
use Prim.Native.Nat.{ℕ, ◌+◌, ◌*◌}
use native.Mathlib.Omega.{arith}
use mathlib.Core.Path.{refl, ap, ap₂, ◌∙◌}
use mathlib.Core.List.{List}
use lib.ListN.{take, drop}
use Rattle.image.specs.Bytes.{put}
use Rattle.fit.specs.Fit.{skill_count}
use Rattle.training.specs.Turns.{held_in}
use Rattle.training.proofs.Writing.{filled-held}
use Rattle.training.proofs.Plan.hold.Goals as goal

pub returns : goal.returns
returns c =
    let b = c.args.fit.now in
    let s = c.bytes-bytes.ensures.1.sized in
    let no-ids : List ℕ = c.args.self.now.ids in
    let no-levels : List ℕ = c.args.self.now.levels in
    let ids = c.copy.ensures ∙ ap (put no-ids 2048) (c.part.ensures ∙ ap₂ (λ (l : List ℕ) (n : ℕ). take (4 * n) (drop 28 l)) c.bytes-bytes.ensures.0 c.skill_count-n.ensures) in
    let levels = c.copy-2.ensures ∙ ap (put no-levels 512) (c.part-2.ensures ∙ ap₂ (λ (l : List ℕ) (n : ℕ). take n (drop (28 + 4 * n) l)) c.bytes-bytes.ensures.0 c.skill_count-n.ensures) in (
      ap (held_in c.copy.new.out c.copy-2.new.out 512) c.skill_count-n.ensures
          ∙ ap₂ (λ (i l : List ℕ). held_in i l 512 (skill_count b)) ids levels
          ∙ filled-held b no-ids no-levels 512 (omega (arith, s.size)) (omega (arith, s.skills)) (omega (arith, s.skills)),
      refl,
      omega (arith, c.skill_count-n.ensures, s.skills),
    )
