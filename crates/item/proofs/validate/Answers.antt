-- `item::validate` meets its contract: the four lists, one after another.
use native.Mathlib.Omega.{arith}
use Rattle.entry.proofs.Emitted.{emitted-append}
use Rattle.item.proofs.validate.Goals as goal

pub returns : goal.returns
returns c = (
  emitted-append (emitted-append (emitted-append c.rig_size.ensures.0 c.ship_restricted.ensures.0) c.capital_item.ensures.0)
      c.standup.ensures.0,
  omega (arith, c.standup.ensures.1, c.capital_item.ensures.1, c.ship_restricted.ensures.1, c.rig_size.ensures.1),
)
