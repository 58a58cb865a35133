-- `checker::text::lines` meets its contract. The invariant: the lines of the first i entries are put.
use Rattle.std.proofs.Common.{append_assoc, append-nil, arith}
use Rattle.words.proofs.Tables.{each_more, each_none}
use Rattle.checker.specs.Text.{lines, line}
use Rattle.checker.proofs.text.lines.Goals as goal

pub loop-i-init : goal.loop-i-init
unfolding lines
loop-i-init c = record { text = rw (each_none (λ i. i) (line c.args.b.now), append-nil); len = omega arith }

pub loop-i-preserved : goal.loop-i-preserved
unfolding lines
loop-i-preserved c =
    let l = c.loop-i in
    record {
      text = rw (c.line.ensures.text, l.invariant.text, append_assoc, each_more (λ i. i) (line c.args.b.now) l.i);
      len = omega (arith, c.line.ensures.len);
    }
