-- `racks::validate` meets its contract: racks, then hardpoints, row by row as the definitions have them.
use Rattle.std.proofs.Common.{refl, arith}
use Rattle.words.specs.Words.{each}
use Rattle.entry.proofs.Emitted.{emitted-same, emitted-append}
use Rattle.racks.specs.Racks.{racks, hardpoints}
use Rattle.racks.specs.Taking.{takes}
use Rattle.racks.proofs.validate.Goals as goal

pub returns : goal.returns
unfolding racks hardpoints each takes
returns c =
    let u = c.report_all.ensures in
    let v = c.report_all-2.ensures in (emitted-append (emitted-same refl u.0) (emitted-same refl v.0), omega (arith, u.1, v.1))
