-- Document 01, "Skill walk": what a wanted skill is, without a walk, and what the walk's list is.
use Rattle.std.specs.Prelude.{ℕ, ◌≤◌, not, ◌⊎◌, T}
use mathlib.Core.List.{List, [], ◌∷◌, map, Memᴰ}
use Rattle.words.specs.Words.{contains}
use Rattle.catalogue.specs.Catalogue.{Id, Catalogue}
use Rattle.fit.specs.Fit.{Result}
use Rattle.skill.specs.Skill.{Demand, of_result, of_skill}

-- the skills of some demands
abbrev pub ids_of : List Demand → List Id
ids_of ds = map (λ d. d.0) ds

-- no id stands twice
abbrev pub Once : List Id → Type 0
Once [] = Unit {0}
Once (x ∷ l) = T (not (contains x l)) × Once l

-- ---- from some demands
-- the smallest set: a skill is wanted when one of the demands is of it or a wanted skill demands it
pub data WantedFrom (c : Catalogue) (ds : List Demand) : Id → Type 0 where
  asked : {s : Id} {l : ℕ} → Memᴰ (s, l) ds → WantedFrom c ds s
  needed : {t s : Id} {l : ℕ} → WantedFrom c ds t → Memᴰ (s, l) (of_skill c t) → WantedFrom c ds s

-- a demand that counts: one of these, or of a wanted skill
abbrev pub CountsFrom : Catalogue → List Demand → Id → ℕ → Type 0
CountsFrom c ds s l = Memᴰ (s, l) ds ⊎ ((t : Id) × WantedFrom c ds t × Memᴰ (s, l) (of_skill c t))

-- each id once, with a level that is demanded and that no demand exceeds
pub record WalkedFrom (c : Catalogue) (ds ws : List Demand) : Type 0 where
  pub once : Once (ids_of ws)
  pub sound : (s : Id) (l : ℕ) → Memᴰ (s, l) ws → CountsFrom c ds s l
  pub highest : (s : Id) (l : ℕ) → CountsFrom c ds s l → (m : ℕ) × Memᴰ (s, m) ws × (l ≤ m)

-- ---- from what a result demands
abbrev pub Wanted : Catalogue → Result → Id → Type 0
Wanted c r = WantedFrom c (of_result c r)

abbrev pub Counts : Catalogue → Result → Id → ℕ → Type 0
Counts c r = CountsFrom c (of_result c r)

abbrev pub Walked : Catalogue → Result → List Demand → Type 0
Walked c r = WalkedFrom c (of_result c r)
