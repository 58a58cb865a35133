-- `skill::required_of` meets its contract. The invariant: the first i rows are looked up.
use mathlib.Core.Path.{◌≡◌}
use lib.ListN.{length, take}
use Rattle.words.specs.Words.{each}
use Rattle.catalogue.specs.Catalogue.{catalogue_of}
use Rattle.skill.specs.Skill.{REQUIRED, requirement_of}
use Rattle.skill.specs.Held.{requirements_of}
use Rattle.skill.proofs.required_of.Given as goal

abbrev pub invariant-loop-i : goal.invariant-loop-i
invariant-loop-i l =
    (length l.required ≡ 6) × (requirements_of (take l.i l.required) ≡ each (take l.i REQUIRED) (requirement_of (catalogue_of l.catalogue)))
