-- `resource::loads` meets its contract: the code's row is the definition's.
use Rattle.std.proofs.Common.{get_or, ap, arith}
use Rattle.numbers.specs.declared.Resource.TheVariants.{Cpu}
use Rattle.entry.proofs.Emitted.{emitted-same, emitted-each_none, emitted-each_next, emitted-each_all}
use Rattle.context.specs.Held.{context_in}
use Rattle.resource.specs.Resource.{LOADS, load_of, loads}
use Rattle.resource.proofs.Named.{few-load}
use Rattle.resource.proofs.Rows.{row_same}
use Rattle.resource.proofs.loads.Goals as goal

pub loop-row-init : goal.loop-row-init
loop-row-init c = (emitted-each_none (load_of (context_in c.args.context.now)) LOADS _, omega arith)

pub loop-row-preserved : goal.loop-row-preserved
loop-row-preserved c =
    let l = c.loop-row in
    let i = l.row-index in
    let x = context_in c.args.context.now in
    let w = emitted-same (ap (load_of x) (row_same i)) c.load_row.ensures in (
      emitted-each_next (load_of x) LOADS i (Cpu, 0, 0) c.loop-row-test.true l.invariant.0 w,
      omega (arith, w.count, few-load x (get_or LOADS i (Cpu, 0, 0)), l.invariant.1),
    )

pub returns : goal.returns
unfolding loads
returns c =
    let l = c.loop-row in
    (emitted-each_all (load_of (context_in c.args.context.now)) LOADS l.row-index c.loop-row-test.false l.invariant.0, omega arith)
