-- `skill::walk_on` meets its contract. The invariant: the demands met once the first skills up to `next` of the order are walked are noted.
use Prim.Native.Nat.{◌≤◌, ◌-◌}
use mathlib.Core.Path.{◌≡◌}
use mathlib.Core.List.{List}
use Rattle.catalogue.specs.Catalogue.{catalogue_of}
use Rattle.skill.specs.Skill.{Demand, noted, met_from}
use Rattle.skill.specs.Held.{walk_of}
use Rattle.skill.proofs.walk_on.Given as goal

abbrev pub invariant-loop-next : goal.invariant-loop-next
invariant-loop-next l =
    (l.next ≤ 512) × ((ds : List Demand) → walk_of l.fn.walk ≡ noted ds → walk_of l.walk ≡ noted (met_from (catalogue_of l.catalogue) ds l.next))

abbrev pub decreases-loop-next : goal.decreases-loop-next
decreases-loop-next l = 512 - l.next
