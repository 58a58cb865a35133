-- `validate::one_by_one` meets its contract. The invariant: whatever was written before, the skills up to i are looked at.
use Prim.Native.Nat.{◌+◌, ◌-◌, ◌≤◌}
use Rattle.catalogue.specs.Catalogue.{catalogue_of}
use Rattle.fit.specs.Fit.{skill_count}
use Rattle.entry.specs.declared.Entries.{Entries}
use Rattle.validate.specs.Skills.{OfSkills}
use Rattle.validate.proofs.one_by_one.Given as goal

abbrev pub invariant-loop-i : goal.invariant-loop-i
invariant-loop-i l =
    let es = OfSkills (catalogue_of l.context.catalogue.now) l.context.fit.now in
    (l.from ≤ l.i) × (l.i ≤ skill_count l.context.fit.now) × (l.entries.n ≤ l.initial.entries.n + (l.i - l.from)) × ((b : Entries) → es l.from b l.initial.entries → es l.i b l.entries)
