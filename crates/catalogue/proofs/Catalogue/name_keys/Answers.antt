-- `Catalogue::name_keys` meets its contract: a sound catalogue's names are in order.
use native.Mathlib.Omega.{arith}
use Rattle.catalogue.proofs.Reading.{names-sorted}
use Rattle.catalogue.proofs.Catalogue.name_keys.Goals as goal

pub new-requires : goal.new-requires
new-requires c =
    let e = c.names-b.ensures in
    (omega (arith, c.keys_of.ensures.1), rw (c.keys_of.ensures.0, e.0, e.1) (names-sorted c.self.inside.blocks c.self.invariant))
