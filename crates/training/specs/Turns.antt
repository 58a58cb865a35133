-- Document 02, P11, all steps at once: each wanted skill in turn is given what it lacks, as far as the steps reach.
use Rattle.std.specs.Prelude.{ℕ, zero, suc, ◌+◌, ◌*◌, ◌-◌, min, ◌≡◌, Bool, true, not, ◌&&◌, ltb, length, take, drop}
use mathlib.Core.List.{List, foldl}
use Rattle.std.specs.Int.Signed.{lt_z}
use Rattle.words.specs.Words.{in_order, contains, table}
use Rattle.image.specs.Bytes.{u8_at}
use Rattle.keys.specs.Keys.{key_at, Parts}
use Rattle.catalogue.specs.Catalogue.{Id}
use Rattle.fit.specs.Lookups.{trained}
use Rattle.skill.specs.Skill.{Demand}
use Rattle.training.specs.Training.{Training, raised}

-- the level of a skill; 0 where it is not listed
abbrev pub level_of : Training → Id → ℕ
level_of t i = trained t.ids t.levels i

-- a skill's level raised by so many, and nothing changed where that is none
unfoldable pub gain : Training → Id → ℕ → Training
gain t i zero = t
gain t i (suc k) = raised t.ids t.levels i (suc k)

-- what a wanted skill is given: what it lacks, as far as the steps that are left reach
abbrev pub portion : Training → ℕ → Demand → ℕ
portion t left w = min (w.1 - level_of t w.0) left

-- one wanted skill's turn: the training, and the steps that are left
abbrev pub turn : Training × ℕ → Demand → Training × ℕ
turn s w = (gain s.0 w.0 (portion s.0 s.1 w), s.1 - portion s.0 s.1 w)

-- those of some wanted skills, in their order
unfoldable pub turns : Training → ℕ → List Demand → Training × ℕ
turns t steps ws = foldl turn (t, steps) ws

-- a wanted skill that lacks and is not listed
abbrev pub is_new : Training → Demand → Bool
is_new t w = ltb (level_of t w.0) w.1 && not (contains w.0 t.ids)

-- listed skills as an image that is not refused has them
pub record Listed (t : Training) : Type 0 where
  pub paired : length t.ids ≡ length t.levels
  pub order : in_order lt_z t.ids ≡ true

-- what the arrays of the code hold from a place on: so many ids of four bytes, and the level of each
abbrev pub held_in : (ids levels : List ℕ) → (from len : ℕ) → Training
held_in ids levels from len = record { ids = table len (λ i. key_at ids (from + i)); levels = table len (λ i. u8_at levels (from + i)) }

-- a place that parts those ids: the ones under an id from the others
abbrev pub Parted : (ids : List ℕ) → (from len : ℕ) → Id → ℕ → Type 0
Parted ids from len id at = Parts (take (4 * len) (drop (4 * from) ids)) len id at
