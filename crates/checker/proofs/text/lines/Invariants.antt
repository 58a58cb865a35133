-- `checker::text::lines` meets its contract. The invariant: the lines of the first i entries are put.
use Rattle.std.proofs.Common.{◌≡◌, ◌++◌, ◌+◌, ◌*◌, ◌≤◌}
use Rattle.arrayvec.specs.ArrayString.{array_string_len}
use Rattle.checker.specs.Text.{lines}
use Rattle.checker.proofs.text.lines.Given as goal

abbrev pub invariant-loop-i : goal.invariant-loop-i
invariant-loop-i l = record {
  text : l.text.bytes ≡ l.initial.text.bytes ++ lines l.b l.i;
  len : array_string_len l.text ≤ array_string_len l.initial.text + 168 * l.i;
}
