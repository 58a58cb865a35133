-- `racks::report_all` meets its contract: one row more at a time.
use Rattle.std.proofs.Common.{◌<◌, length, map, sym, ap, arith}
use lib.ListN.{get_or-map, length-map}
use Rattle.entry.proofs.Emitted.{emitted-same, emitted-each_none, emitted-each_next}
use Rattle.context.specs.Held.{context_in, pairs_in}
use Rattle.racks.specs.Taking.{taken, row_of}
use Rattle.racks.proofs.report_all.Goals as goal

pub loop-row-init : goal.loop-row-init
loop-row-init c =
    let a = c.args in
    (emitted-each_none (taken (context_in a.context.now) (pairs_in a.context.now)) (map row_of a.rows.now) _, omega arith)

pub loop-row-preserved : goal.loop-row-preserved
loop-row-preserved c =
    let a = c.args in
    let l = c.loop-row in
    let i = l.row-index in
    let rows = map row_of a.rows.now in
    let said = taken (context_in a.context.now) (pairs_in a.context.now) in
    let w = c.report.ensures in
    let more : i < length rows = omega (arith, c.loop-row-test.true, length-map a.rows.now row_of) in (
      emitted-each_next said rows i _ more l.invariant.0 (emitted-same (ap said (sym (get_or-map row_of a.rows.now i _))) w.0),
      omega (arith, w.1, l.invariant.1),
    )
