-- `Catalogue::mark_at` meets its contract: the value stands behind all keys, and is at most 8.
use native.Mathlib.Omega.{arith}
use mathlib.Core.Path.{◌≡◌, ◌∙◌}
use Rattle.catalogue.specs.Catalogue.{effect_at}
use Rattle.catalogue.proofs.Reading.{mark-small}
use Rattle.catalogue.proofs.Catalogue.mark_at.Goals as goal

read : (c : goal.After-u32_at) → let a = c.args in c.u32_at.result ≡ (effect_at c.self.inside.blocks a.i).mark
read c = let e = c.effects-b.ensures in c.u32_at.ensures ∙ rw (c.bytes.ensures.0, e.0, e.1)

pub overflow_cast-result : goal.overflow_cast-result
overflow_cast-result c =
    omega (arith, read c, mark-small c.self.inside.blocks c.self.invariant c.args.i (rw c.self.view_is c.requires))
