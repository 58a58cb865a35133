-- `Catalogue::base_keys` meets its contract: a sound catalogue's bases are in order.
use native.Mathlib.Omega.{arith}
use Rattle.catalogue.proofs.Reading.{bases-sorted}
use Rattle.catalogue.proofs.Catalogue.base_keys.Goals as goal

pub new-requires : goal.new-requires
new-requires c =
    let e = c.bases-b.ensures in
    (omega (arith, c.keys_of.ensures.1), rw (c.keys_of.ensures.0, e.0, e.1) (bases-sorted c.self.inside.blocks c.self.invariant))
