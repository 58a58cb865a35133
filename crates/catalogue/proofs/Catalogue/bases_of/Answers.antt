-- `Catalogue::bases_of` meets its contract: the first base of the type, and the walk to its last.
use mir.Syntax.{w32}
use mir.ValLaws.{to_z-of_z}
use Rattle.catalogue.specs.Catalogue.{bases_at, base_count}
use Rattle.catalogue.proofs.Reading.{bases-sorted}
use Rattle.catalogue.proofs.Walking.{run_of}
use Rattle.catalogue.proofs.Catalogue.bases_of.Goals as goal

pub returns : goal.returns
returns c =
    rw (← c.self.view_is) (
    let b = c.self.inside.blocks in
    let e = c.bases-b.ensures in
    let keys = rw (← c.self.view_is) at c.base_keys.ensures in
    let z = to_z-of_z w32 c.args.id c.ranges.id in
    run_of b (bases_at b) (base_count b) c.args.id c.ranges.id.sfits c.first_near-from.result
    (rw (keys.0, keys.1, z) at c.first_near-from.ensures) (bases-sorted b c.self.invariant)
    c.run_end.result (rw (c.bytes.ensures.0, e.0, e.1, z) at c.run_end.ensures)
    )
