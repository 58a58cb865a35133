-- `skill::Walk::note_all` meets its contract. The invariant: what the first rows ask for is noted.
use mathlib.Core.Path.{◌≡◌}
use mathlib.Core.List.{foldl}
use Rattle.std.specs.Prelude.{Option, Float}
use Rattle.catalogue.specs.Catalogue.{Id}
use Rattle.skill.specs.Skill.{note}
use Rattle.skill.specs.Held.{Reads, walk_of}
use Rattle.skill.proofs.Requirements.{asks}
use Rattle.skill.proofs.walk.Walk.note_all.Given as goal

abbrev pub invariant-loop-requirement : goal.invariant-loop-requirement
invariant-loop-requirement g l =
    (values : Id → Option Float) → Reads (goal.F-post g l.look) values
    → walk_of l.self ≡ foldl note (walk_of l.fn.self) (asks l.required l.requirement-index values)
