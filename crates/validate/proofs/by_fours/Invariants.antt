-- `validate::by_fours` meets its contract. The invariant: the first 4k skills are looked at.
use Prim.Native.Nat.{◌*◌}
use Rattle.catalogue.specs.Catalogue.{catalogue_of}
use Rattle.validate.specs.Skills.{OfSkills}
use Rattle.validate.proofs.by_fours.Given as goal

abbrev pub invariant-loop-k : goal.invariant-loop-k
invariant-loop-k l = OfSkills (catalogue_of l.context.catalogue.now) l.context.fit.now (4 * l.k) l.initial.entries l.entries
