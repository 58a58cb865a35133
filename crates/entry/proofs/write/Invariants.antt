-- `entry::write` meets its contract. The invariant: the first i words of the payload stand in it.
use Rattle.std.proofs.Common.{◌≡◌, ◌+◌, take}
use Rattle.words.specs.Words.{each}
use Rattle.image.specs.Bytes.{le, put}
use Rattle.entry.proofs.write.Given as goal

abbrev pub invariant-loop-i : goal.invariant-loop-i
invariant-loop-i l = l.out ≡ put l.initial.out (l.at + 8) (each (take l.i l.word-items) (le 4))
