-- `validate::hull_rules` meets its contract: resource.rs, slot.rs (racks, then checks), item.rs (limits last), one after the other.
use native.Mathlib.Omega.{arith}
use Rattle.entry.proofs.Emitted.{emitted-append}
use Rattle.validate.specs.Validate.{hull_rules}
use Rattle.validate.proofs.hull_rules.Goals as goal

pub returns : goal.returns
unfolding hull_rules
returns c =
    let u = c.validate.ensures in
    let v = c.validate-2.ensures in
    let w = c.validate-3.ensures in
    let z = c.validate-4.ensures in
    let t = c.validate-5.ensures in (
      emitted-append (emitted-append (emitted-append (emitted-append u.0 v.0) w.0) z.0) t.0,
      omega (arith, u.1, v.1, w.1, z.1, t.1),
    )
