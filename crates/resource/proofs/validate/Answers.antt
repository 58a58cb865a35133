-- `resource::validate` meets its contract: the loads, then the drones, then the cargo.
use Rattle.std.proofs.Common.{arith}
use Rattle.entry.proofs.Emitted.{emitted-append}
use Rattle.resource.specs.Resource.{resources}
use Rattle.resource.proofs.validate.Goals as goal

pub returns : goal.returns
unfolding resources
returns c =
    let l = c.loads.ensures in
    let e = c.launched_drones.ensures in
    let g = c.cargo.ensures in
    (emitted-append (emitted-append l.0 e.0) g.0, omega (arith, l.1, e.1, g.1))
