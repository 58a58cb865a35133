-- validate/skill.rs: `required` of `validate`, `wanted_skills`, `note` and `report`, for one result.
use Rattle.std.specs.Prelude.{ℕ, zero, suc, max, Bool, cond, ltb, length, Float}
use mathlib.Core.List.{List, [], ◌∷◌, ◌++◌, foldl, map}
use Rattle.std.specs.Prelude.{Option}
use Rattle.std.specs.Prelude.{slice_get}
use Rattle.words.specs.Words.{◌>>=◌, each, when, given, same}
use Rattle.numbers.specs.Names as Names
use Rattle.numbers.specs.Sizes as Sizes
use Rattle.floats.specs.Floats.{zero_f, to_u, to_i32}
use Rattle.catalogue.specs.Catalogue.{Id, Catalogue}
use Rattle.catalogue.specs.Lookups.{name_id, base_value}
use Rattle.fit.specs.Fit.{Result, Fit, result_at}
use Rattle.fit.specs.Lookups.{value, trained}
use Rattle.entry.specs.declared.Target.{Target}
use Rattle.entry.specs.declared.Target.TheVariants.{Ship, Item}
use Rattle.entry.specs.declared.Rule.TheVariants.{Skill}
use Rattle.entry.specs.declared.Entry.{Entry}

-- the names of a skill and of its level
abbrev pub REQUIRED : List (ℕ × ℕ)
REQUIRED =
    (Names.required_skill1, Names.required_skill1_level)
    ∷ (Names.required_skill2, Names.required_skill2_level)
    ∷ (Names.required_skill3, Names.required_skill3_level)
    ∷ (Names.required_skill4, Names.required_skill4_level)
    ∷ (Names.required_skill5, Names.required_skill5_level)
    ∷ (Names.required_skill6, Names.required_skill6_level)
    ∷ []

-- the attributes of a skill and of its level
abbrev pub Requirement : Type 0
Requirement = Id × Id

-- both names have to have one
abbrev pub requirement : Option Id → Option Id → List Requirement
requirement skill level = do
  s ← skill
  l ← level
  (s, l) ∷ []

-- one row of `REQUIRED`
abbrev pub requirement_of : Catalogue → ℕ × ℕ → List Requirement
requirement_of c row = requirement (name_id c.names row.0) (name_id c.names row.1)

-- `required` in `validate`
unfoldable pub required : Catalogue → List Requirement
required c = each REQUIRED (requirement_of c)

-- ---- what one source of values asks for
-- a skill and the level asked of it
abbrev pub Demand : Type 0
Demand = Id × ℕ

-- a missing level is 0
abbrev pub demand : Float → Option Float → Demand
demand skill level = (to_i32 skill, to_u 8 (given level zero_f (λ x. x)))

-- what it asks for by one requirement
unfoldable pub demand_of : (Id → Option Float) → Requirement → List Demand
demand_of look r = do
  skill ← look r.0
  demand skill (look r.1) ∷ []

unfoldable pub demands : Catalogue → (Id → Option Float) → List Demand
demands c look = each (required c) (demand_of look)

unfoldable pub of_result : Catalogue → Result → List Demand
of_result c r = demands c (value r)

unfoldable pub of_skill : Catalogue → Id → List Demand
of_skill c t = demands c (base_value c t)

-- ---- the walk
-- a known skill keeps its place and the higher level, a new one goes last
unfoldable pub note : List Demand → Demand → List Demand
note [] d = d ∷ []
note (w ∷ ws) d = cond (same w.0 d.0) ((w.0, max w.1 d.1) ∷ ws) (w ∷ note ws d)

-- some demands noted in their order
unfoldable pub noted : List Demand → List Demand
noted ds = foldl note [] ds

-- the skill at a place of the order
unfoldable pub skill_at : List Demand → ℕ → Option Id
skill_at ws n = slice_get (map (λ w. w.0) ws) n

-- all demands met once the first n skills of the order have been walked, of those that are met before the first
unfoldable pub met_from : Catalogue → List Demand → ℕ → List Demand
met_from c ds zero = ds
met_from c ds (suc n) = met_from c ds n ++ given (skill_at (noted (met_from c ds n)) n) [] (of_skill c)

-- of a result: its own demands are met first
abbrev pub met : Catalogue → Result → ℕ → List Demand
met c r n = met_from c (of_result c r) n

-- what is noted within `limit` steps: all wanted skills where `wants_too_many limit` is false, and not to be read where it is true
unfoldable pub walk_within : ℕ → Catalogue → Result → List Demand
walk_within limit c r = noted (met c r limit)

unfoldable pub wants_too_many : ℕ → Catalogue → Result → Bool
wants_too_many limit c r = ltb limit (length (walk_within limit c r))

-- `wanted_skills`, of a result that does not want too many
abbrev pub wanted_skills : Catalogue → Result → List Demand
wanted_skills = walk_within Sizes.most_wanted

-- ---- the entries
-- target Ship for results 0 and 1, else Item with index result number - 2
abbrev pub target_of : ℕ → Target
target_of zero = Ship
target_of (suc zero) = Ship
target_of (suc (suc n)) = Item n

-- the entry of one wanted skill, where it is trained lower
unfoldable pub entry_of : Fit → ℕ → Demand → List Entry
entry_of f n w =
    let level = trained f.skills f.levels w.0 in
    when (ltb level w.1) (record { target = target_of n; rule = Skill w.0 w.1 level })

-- those of some wanted skills, for result number n
abbrev pub reported : Fit → ℕ → List Demand → List Entry
reported f n ws = each ws (entry_of f n)

-- `report`
unfoldable pub skill_list : Catalogue → Fit → ℕ → List Entry
skill_list c f n = do
  r ← result_at f n
  reported f n (wanted_skills c r)
