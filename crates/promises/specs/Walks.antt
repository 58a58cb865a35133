-- Document 01, "Skill walk": what the list of wanted skills is, said without a walk, and which entries are made of it.
use Rattle.std.specs.Prelude.{ℕ, ◌≤◌, ◌<◌, ◌≡◌, cond, ◌↔◌, length}
use mathlib.Core.List.{List, [], ◌∷◌, ◌++◌, foldl, Memᴰ}
use Rattle.std.specs.Prelude.{Some}
use Rattle.words.specs.Words.{each, contains}
use Rattle.catalogue.specs.Catalogue.{Id, Catalogue}
use Rattle.fit.specs.Fit.{Result, Fit, result_at}
use Rattle.fit.specs.Lookups.{trained}
use Rattle.entry.specs.declared.Rule.TheVariants.{Skill}
use Rattle.entry.specs.declared.Entry.{Entry}
use Rattle.skill.specs.Skill.{Demand, of_result, of_skill, wanted_skills, target_of, skill_list}
use Rattle.skill.specs.Wanted.{ids_of, Wanted, Counts, Once, Walked}

-- the highest level that the result or a wanted skill demands of a skill
pub record Highest (c : Catalogue) (r : Result) (s : Id) (l : ℕ) : Type 0 where
  pub demanded : Counts c r s l
  pub most : (m : ℕ) → Counts c r s m → m ≤ l

-- each id once, in the order in which they are first met
unfoldable pub firsts : List Id → List Id
firsts ids = foldl (λ seen x. cond (contains x seen) seen (seen ++ (x ∷ []))) [] ids

-- what is met in walking some skills: the result's demands, then those of each skill
unfoldable pub met_by : Catalogue → Result → List Id → List Demand
met_by c r skills = of_result c r ++ each skills (of_skill c)

-- the list of a result's wanted skills and their levels
pub record WalkOf (c : Catalogue) (r : Result) (ws : List Demand) : Type 0 where
  -- each id once, sound and highest
  pub walked : Walked c r ws
  -- a skill stands in it exactly when it is wanted, and then at the highest level demanded
  pub wanted : (s : Id) → Wanted c r s ↔ ((l : ℕ) × Memᴰ (s, l) ws)
  pub level : (s : Id) (l : ℕ) → Memᴰ (s, l) ws ↔ Highest c r s l
  -- in the order in which walking its own skills meets them
  pub order : ids_of ws ≡ firsts (ids_of (met_by c r (ids_of ws)))

-- more than so many distinct skills are wanted
abbrev pub MoreWanted : ℕ → Catalogue → Result → Type 0
MoreWanted limit c r = (xs : List Id) × Once xs × ((x : Id) → Memᴰ x xs → Wanted c r x) × (limit < length xs)

-- an entry of result number n: a skill, the highest level demanded of it, and the trained level, which is below that
abbrev pub Lacks : Catalogue → Fit → ℕ → Result → Entry → Type 0
Lacks c f n r e =
    (s : Id) × (l : ℕ) × Highest c r s l × (trained f.skills f.levels s < l)
    × (e ≡ record { target = target_of n; rule = Skill s l (trained f.skills f.levels s) })

-- the skill list of result number n: the result, the skills that it wants, and the entries made of them
pub record SkillsOf (c : Catalogue) (f : Fit) (n : ℕ) : Type 0 where
  pub result : Result
  pub found : result_at f n ≡ Some result
  pub walk : WalkOf c result (wanted_skills c result)
  pub entries : (e : Entry) → Memᴰ e (skill_list c f n) ↔ Lacks c f n result e
