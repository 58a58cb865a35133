-- `limits::group_limits` meets its contract. The invariant: what the rows passed say was written, at most 256 entries each.
use native.Mathlib.Omega.{arith}
use mathlib.Core.Path.{ap}
use Rattle.numbers.specs.declared.GroupLimit.TheVariants.{Fitted}
use Rattle.entry.proofs.Emitted.{emitted-same, emitted-each_none, emitted-each_next, emitted-each_all}
use Rattle.context.specs.Held.{context_in, pairs_in}
use Rattle.limits.specs.Limits.{group_limit_rows, group_limit}
use Rattle.limits.proofs.Limits.{by-limit, row_is}
use Rattle.limits.proofs.group_limits.Goals as goal

pub loop-row-init : goal.loop-row-init
loop-row-init c = (omega arith, emitted-each_none _ group_limit_rows _)

pub loop-row-preserved : goal.loop-row-preserved
loop-row-preserved c =
    let l = c.loop-row in
    let x = c.args.context.now in
    let rule = group_limit (context_in x) (pairs_in x) in
    let w = (rw c.new-counted.ensures at c.group_limit.ensures) in (
      omega (arith, w.1, l.invariant.0),
      emitted-each_next rule group_limit_rows l.row-index (Fitted, 0, 0) c.loop-row-test.true l.invariant.1 (emitted-same (ap rule (row_is l.row-index)) w.0),
    )

pub returns : goal.returns
returns c =
    let l = c.loop-row in
    (emitted-same (by-limit _ _) (emitted-each_all _ group_limit_rows l.row-index (omega arith) l.invariant.1), omega (arith, l.auto.row-index-end, l.invariant.0))
