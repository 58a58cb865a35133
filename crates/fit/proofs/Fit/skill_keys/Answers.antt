-- `Fit::skill_keys` meets its contract: a sound fit's skill ids are in order.
use Prim.Native.Nat.{◌*◌}
use native.Mathlib.Omega.{arith}
use mathlib.Core.Path.{◌≡◌, ap, ◌∙◌}
use lib.ListN.{length}
use Rattle.image.proofs.Parts.{part_length}
use Rattle.fit.specs.Fit.{skill_count}
use Rattle.fit.proofs.Searches.{skills-sorted}
use Rattle.fit.proofs.Fit.skill_keys.Goals as goal

pub new-requires : goal.new-requires
new-requires c =
    let b = c.self.inside.bytes.now in
    let n : c.skills-n.result ≡ skill_count b = c.skills-n.ensures.0 ∙ ap skill_count (rw (← c.self.view_is) at c.layout.ensures) in (
      omega (arith, ap length c.part.ensures, part_length b 28 (4 * c.skills-n.result) (omega (arith, n))),
      rw (c.part.ensures, n) (skills-sorted b c.self.invariant.0),
    )
