-- `kept::put_numbers` meets its contract. The invariant: the numbers of the first i that are kept are put.
use Rattle.std.proofs.Common.{◌≡◌, ◌+◌, ◌*◌}
use lib.ListN.{take}
use Rattle.words.specs.Words.{each}
use Rattle.image.specs.Bytes.{le, put}
use Rattle.parts.specs.Parts.{size, numbers_of}
use Rattle.cause.proofs.kept.put_numbers.Given as goal

abbrev pub invariant-loop-i : goal.invariant-loop-i
invariant-loop-i l =
    (l.at ≡ l.fn.from + 4 * size (take l.i l.kept)) × (l.out ≡ put l.initial.out l.fn.from (each (numbers_of (take l.i l.kept)) (le 4)))
