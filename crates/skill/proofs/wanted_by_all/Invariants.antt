-- `skill::wanted_by_all` meets its contract. The invariant: what the first results ask for is noted.
use mathlib.Core.Path.{◌≡◌}
use Rattle.catalogue.specs.Catalogue.{catalogue_of}
use Rattle.fit.specs.Fit.{fit_of}
use Rattle.skill.specs.Skill.{noted}
use Rattle.skill.specs.Held.{walk_of}
use Rattle.skill.proofs.Notes.{first_demands}
use Rattle.skill.proofs.wanted_by_all.Given as goal

abbrev pub invariant-loop-res : goal.invariant-loop-res
invariant-loop-res l = walk_of l.walk ≡ noted (first_demands (catalogue_of l.catalogue) (fit_of l.fit) l.res-counter)
