-- Document 01, "Skill walk": up to 512 skills and levels are held. What the arrays of the code hold, what noting does to them, and what
-- a walk that has ended says.
use Rattle.std.specs.Prelude.{ℕ, ◌≤◌, ◌<◌, ◌≡◌, length, get_or, ℤ, pos, ltb, Float}
use Rattle.std.specs.Prelude.{Option, None, Some, option_to_list, Result, Ok, IsOk, IsErr, is_err, FitsSigned}
use mir.Syntax.{w32}
use mathlib.Core.List.{List, foldl}
use Rattle.words.specs.Words.{each, table}
use Rattle.numbers.specs.Sizes.{most_wanted}
use Rattle.catalogue.specs.Catalogue.{Id, Catalogue, catalogue_of}
use Rattle.fit.specs.Fit.{Fit, fit_of, result_of, all_results}
use Rattle.skill.specs.Skill.{Requirement, Demand, note, noted, met_from, of_result, wanted_skills, wants_too_many}
use Rattle.skill.specs.declared.walk.Walk.{Walk}
use Rattle.skill.specs.declared.walk.TooMany.{TooMany}

-- ---- two arrays side by side; x and y stand past their ends
module _ {A B : Type 0} (x : A) (y : B) where
  abbrev pub zip_at : List A → List B → ℕ → A × B
  zip_at a b i = (get_or a i x, get_or b i y)

  -- the first n
  unfoldable pub zip_to : List A → List B → ℕ → List (A × B)
  zip_to a b n = table n (zip_at a b)

-- the requirements of the rows that have one
abbrev pub requirements_of : List (Option Requirement) → List Requirement
requirements_of rows = each rows option_to_list

-- a source of values, by what its calls give
abbrev pub Reads : (Id → Option Float → Type 0) → (Id → Option Float) → Type 0
Reads gives values = (id : Id) (v : Option Float) → FitsSigned w32 id → gives id v → v ≡ values id

abbrev pub held_at : List ℤ → List ℕ → ℕ → Demand
held_at ids levels i = zip_at (pos 0) 0 ids levels i

-- the first n skills with their levels
abbrev pub held_of : List ℤ → List ℕ → ℕ → List Demand
held_of ids levels n = zip_to (pos 0) 0 ids levels n

abbrev pub walk_of : Walk → List Demand
walk_of w = held_of w.ids w.levels w.len

-- ---- noting
-- the first place of an id among the first len, or len
pub record Placed (ids : List ℤ) (len : ℕ) (id : ℤ) (r : ℕ) : Type 0 where
  pub within : r ≤ len
  pub before : (k : ℕ) → k < r → get_or ids k (pos 0) ≡ id → ⊥
  pub found : r < len → get_or ids r (pos 0) ≡ id

-- a skill that is not noted
abbrev pub New : Walk → ℤ → Type 0
New w id = (k : ℕ) → k < w.len → get_or w.ids k (pos 0) ≡ id → ⊥

-- a skill that stands at a place, at a lower level
abbrev pub LevelRises : Walk → ℕ → ℤ → ℕ → Type 0
LevelRises w at id level = (get_or w.ids at (pos 0) ≡ id) × (get_or w.levels at 0 < level)

-- where a skill stands, if it is noted
abbrev pub PlacedAt : Walk → ℤ → Option ℕ → Type 0
PlacedAt w id None = New w id
PlacedAt w id (Some r) = (r < w.len) × Placed w.ids w.len id r

-- a demand noted, where there is room
pub record Noted (before : Walk) (id : ℤ) (level : ℕ) (after : Walk) (r : Result (Unit {0}) TooMany) : Type 0 where
  pub holds : IsOk r → walk_of after ≡ note (walk_of before) (id, level)
  pub full : IsErr r → most_wanted < length (note (walk_of before) (id, level))
  -- a skill whose first place has the same level or a higher one: no place of the arrays changes, those behind the first len included
  pub untouched : (k : ℕ) → Placed before.ids before.len id k → k < before.len → level ≤ get_or before.levels k 0 → after ≡ before

-- some demands noted in their order, where there is room
pub record Notes (before : Walk) (ds : List Demand) (after : Walk) (r : Result (Unit {0}) TooMany) : Type 0 where
  pub holds : IsOk r → walk_of after ≡ foldl note (walk_of before) ds
  pub full : IsErr r → most_wanted < length (foldl note (walk_of before) ds)

-- some demands and all that follows from them, noted: whether those are too many, and what they are where not
pub record Walks (c : Catalogue) (ds : List Demand) (after : Walk) (r : Result (Unit {0}) TooMany) : Type 0 where
  pub many : is_err r ≡ ltb most_wanted (length (noted (met_from c ds most_wanted)))
  pub holds : IsOk r → walk_of after ≡ noted (met_from c ds most_wanted)

-- what all results ask for, and all that follows from it, where one walk has room for it
abbrev pub all_demands : Catalogue → Fit → List Demand
all_demands c f = each (all_results f) (of_result c)

pub record HoldsAll (catalogue fit : List ℕ) (r : Result Walk TooMany) : Type 0 where
  pub holds : (w : Walk) → r ≡ Ok w
      → walk_of w ≡ noted (met_from (catalogue_of catalogue) (all_demands (catalogue_of catalogue) (fit_of fit)) most_wanted)
  pub few : (w : Walk) → r ≡ Ok w → w.len ≤ most_wanted

-- a walk that has ended: whether too many skills are wanted, and the wanted ones where not
pub record HoldsWanted (catalogue fit : List ℕ) (result : ℕ) (r : Result Walk TooMany) : Type 0 where
  pub many : is_err r ≡ wants_too_many most_wanted (catalogue_of catalogue) (result_of fit result)
  pub holds : (w : Walk) → r ≡ Ok w → walk_of w ≡ wanted_skills (catalogue_of catalogue) (result_of fit result)
