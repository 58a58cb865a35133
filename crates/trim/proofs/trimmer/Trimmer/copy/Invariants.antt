-- `Trimmer::copy` meets its contract. The invariant: of the first i records those that are kept are copied, keys from `to` on, values
-- behind all keys.
use Prim.Native.Nat.{◌-◌}
use Rattle.trim.specs.Parts.{size_of}
use Rattle.trim.proofs.Runs.{Copied}
use Rattle.trim.proofs.trimmer.Trimmer.copy.Given as goal

abbrev pub invariant-loop-i : goal.invariant-loop-i
invariant-loop-i l = Copied l.initial.self l.part l.initial.out l.kept l.to l.self l.out l.keys l.values l.i

abbrev pub decreases-loop-i : goal.decreases-loop-i
decreases-loop-i l = size_of l.initial.self.window.catalogue.now l.part - l.i
