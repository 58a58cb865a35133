-- `Catalogue::link_keys` meets its contract: a sound catalogue's links are in order.
use native.Mathlib.Omega.{arith}
use Rattle.catalogue.proofs.Reading.{links-sorted}
use Rattle.catalogue.proofs.Catalogue.link_keys.Goals as goal

pub new-requires : goal.new-requires
new-requires c =
    let e = c.links-b.ensures in
    (omega (arith, c.keys_of.ensures.1), rw (c.keys_of.ensures.0, e.0, e.1) (links-sorted c.self.inside.blocks c.self.invariant))
