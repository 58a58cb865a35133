-- What is required: the table of names, rows that count, and what they ask for.
use Prim.Native.Nat.{ℕ, ◌+◌, ◌<◌}
use native.Mathlib.Numerals.{add-one}
use mathlib.Core.Path.{◌≡◌, sym, ap, ap₂, subst, ◌∙◌}
use mathlib.Core.List.{List, [], ◌∷◌, ◌++◌, append-nil}
use Rattle.std.specs.Prelude.{Option, None, Some, option_to_list}
use Rattle.std.proofs.lemmas.List.{take_more_set}
use lib.ListN.{length, get_or, take, drop, set, take-append-drop}
use lib.IntN.{ℤ}
use lib.Ieee.{Float}
use mir.Syntax.{w32}
use mir.Val.{of_z, to_z, SFits}
use mir.ValLaws.{to_z-of_z}
use Rattle.words.specs.Words.{◌>>=◌, each}
use Rattle.words.proofs.Steps.{each_append, each_step}
use Rattle.catalogue.specs.Catalogue.{Id, Catalogue}
use Rattle.catalogue.specs.Lookups.{base_value}
use Rattle.fit.specs.Fit.{Result}
use Rattle.fit.specs.Lookups.{value}
use Rattle.skill.specs.Held.{requirements_of, Reads}
use Rattle.skill.specs.Skill.{REQUIRED, Requirement, requirement, requirement_of, required, Demand, demand, demand_of, demands, of_result, of_skill}
use Rattle.skill.proofs.Zips.{pair_eq}

pub each_one : {A B : Type 0} (f : A → List B) (x : A) → each (x ∷ []) f ≡ f x
unfolding each
each_one f x = append-nil (f x)

each_next : {A B : Type 0} (f : A → List B) (l : List A) (i : ℕ) (d : A) → i < length l → each (take (i + 1) l) f ≡ each (take i l) f ++ f (get_or l i d)
each_next f l i d h = rw add-one (each_step f l i d h)

-- ---- rows that count
pub no_skill : {x : Option Id} (y : Option Id) → x ≡ None → requirement x y ≡ []
unfolding ◌>>=◌
no_skill y e = rw e

pub no_level : {x y : Option Id} {s : Id} → x ≡ Some s → y ≡ None → requirement x y ≡ []
unfolding ◌>>=◌
no_level e f = rw (e, f)

pub both-known : {x y : Option Id} {s l : Id} → x ≡ Some s → y ≡ Some l → requirement x y ≡ (s, l) ∷ []
unfolding ◌>>=◌
both-known e f = rw (e, f)

-- one row more of the table is looked up
pub row-kept : (c : Catalogue) (rows : List (Option Requirement)) (i : ℕ) (row : Option Requirement) → i < length REQUIRED → i < length rows
    → option_to_list row ≡ requirement_of c (get_or REQUIRED i (0, 0)) → requirements_of (take i rows) ≡ each (take i REQUIRED) (requirement_of c)
    → requirements_of (take (i + 1) (set rows i row)) ≡ each (take (i + 1) REQUIRED) (requirement_of c)
row-kept c rows i row h g e so_far =
    ap requirements_of (take_more_set rows i row g)
    ∙ each_append option_to_list (take i rows) (row ∷ [])
    ∙ ap₂ (λ (a b : List Requirement). a ++ b) so_far (each_one option_to_list row ∙ e)
    ∙ sym (each_next (requirement_of c) REQUIRED i (0, 0) h)

-- ---- what a requirement asks for
-- what a source gave at an attribute's bits
pub looked : {gives : Id → Option Float → Type 0} {values : Id → Option Float} (i : ℤ) {v : Option Float} → SFits w32 i → Reads gives values
    → gives (to_z w32 (of_z w32 i)) v → v ≡ values i
looked {gives} {values} i {v} fits reads g =
    let e = to_z-of_z w32 i fits in
    reads (to_z w32 (of_z w32 i)) v (subst (SFits w32) (sym e) fits) g ∙ ap values e

-- a requirement comes by its bits
pub read : (a b : ℤ) → SFits w32 a → SFits w32 b → ◌≡◌ {A = Requirement} (to_z w32 (of_z w32 a), to_z w32 (of_z w32 b)) (a, b)
read a b f g = pair_eq (to_z-of_z w32 a f) (to_z-of_z w32 b g)

module _ (look : Id → Option Float) (r : Requirement) where
  pub asked-one : {v : Float} {o : Option Float} → look r.0 ≡ Some v → o ≡ look r.1 → demand v o ∷ [] ≡ demand_of look r
  unfolding demand_of ◌>>=◌
  asked-one {v} {o} e f = rw e (ap (λ (x : Option Float). demand v x ∷ []) f)

  pub asked-none : look r.0 ≡ None → [] ≡ demand_of look r
  unfolding demand_of ◌>>=◌
  asked-none e = rw e

-- what the first i rows ask for
abbrev pub asks : List (Option Requirement) → ℕ → (Id → Option Float) → List Demand
asks rows i values = each (requirements_of (take i rows)) (demand_of values)

module _ (rows : List (Option Requirement)) (values : Id → Option Float) where
  -- one row more
  pub asks-next : (i : ℕ) → i < length rows → asks rows (i + 1) values ≡ asks rows i values ++ each (option_to_list (get_or rows i None)) (demand_of values)
  asks-next i h =
      ap (λ (rs : List Requirement). each rs (demand_of values)) (each_next option_to_list rows i None h)
      ∙ each_append (demand_of values) (requirements_of (take i rows)) (option_to_list (get_or rows i None))

  -- all rows, as some and the others
  pub asks-rest : (i : ℕ) → each (requirements_of rows) (demand_of values) ≡ asks rows i values ++ each (requirements_of (drop i rows)) (demand_of values)
  asks-rest i =
      ap (λ (rs : List (Option Requirement)). each (requirements_of rs) (demand_of values)) (sym (take-append-drop i rows))
      ∙ ap (λ (rs : List Requirement). each rs (demand_of values)) (each_append option_to_list (take i rows) (drop i rows))
      ∙ each_append (demand_of values) (requirements_of (take i rows)) (requirements_of (drop i rows))

module _ (c : Catalogue) (rs : List Requirement) (e : rs ≡ required c) where
  pub result-asks : (r : Result) → each rs (demand_of (value r)) ≡ of_result c r
  unfolding of_result demands
  result-asks r = ap (λ (l : List Requirement). each l (demand_of (value r))) e

  pub skill-asks : (t : Id) → each rs (demand_of (base_value c t)) ≡ of_skill c t
  unfolding of_skill demands
  skill-asks t = ap (λ (l : List Requirement). each l (demand_of (base_value c t))) e
