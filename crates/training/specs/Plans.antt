-- What a plan holds: listed skills in two arrays, and the place of one that is not.
use Rattle.std.specs.Prelude.{ℕ, ◌+◌, ◌≤◌, ◌≡◌, Bool, false, ◌&&◌, ltb}
use Rattle.words.specs.Words.{same}
use Rattle.keys.specs.Keys.{key_at}
use Rattle.catalogue.specs.Catalogue.{Id}
use Rattle.training.specs.Training.{Training}
use Rattle.training.specs.Turns.{held_in, Parted}
use Rattle.training.specs.declared.Plan.{Plan}

abbrev pub plan_of : Plan → Training
plan_of p = held_in p.ids p.levels p.from p.len

-- an id stands at a place
abbrev pub stands_at : Plan → ℕ → Id → Bool
stands_at p at id = ltb at p.len && same (key_at p.ids (p.from + at)) id

-- it stands nowhere, and its place is this
pub record Lacks (p : Plan) (at : ℕ) (id : Id) : Type 0 where
  pub parted : Parted p.ids p.from p.len id at
  pub missing : stands_at p at id ≡ false

-- at most so many came in, at either end
pub record Grown (before after : Plan) (k : ℕ) : Type 0 where
  pub longer : after.len ≤ before.len + k
  pub lower : after.from ≤ before.from
  pub near : before.from ≤ after.from + k
