-- `Trimmer::count` meets its contract. The invariant: those of the first i records that are kept are counted, and no kept run goes on.
use Prim.Native.Nat.{◌-◌}
use Rattle.trim.specs.Parts.{size_of}
use Rattle.trim.proofs.Runs.{Counted}
use Rattle.trim.proofs.trimmer.Trimmer.count.Given as goal

abbrev pub invariant-loop-i : goal.invariant-loop-i
invariant-loop-i l = Counted l.initial.self l.part l.self l.count l.i

abbrev pub decreases-loop-i : goal.decreases-loop-i
decreases-loop-i l = size_of l.initial.self.window.catalogue.now l.part - l.i
