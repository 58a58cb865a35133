-- Steps, one after the other, are what each wanted skill in its turn is given. While the first skill lacks, a step raises it; after that it
-- never lacks again. By induction on the skills and on the steps.
use Prim.Native.Nat.{ℕ, zero, suc, ◌-◌, ◌≤◌, ◌<◌}
use native.Mathlib.Nat.{le_trans}
use native.Mathlib.Omega.{arith}
use mathlib.Core.Path.{◌≡◌, refl, sym, ap, ap₂, ◌∙◌}
use mathlib.Core.Bool.{Bool, true, false, cond}
use mathlib.Core.List.{List, [], ◌∷◌, ◌++◌}
use Rattle.std.specs.Prelude.{Some}
use mathlib.Core.Logic.{◌⊎◌, inl, inr}
use lib.Dec.{ltb}
use borrow.Author.Tests.{lt-ltb, le-ltb, ltb-true, ltb-false}
use Rattle.words.specs.Words.{◌>>=◌, each, when, only}
use Rattle.catalogue.specs.Catalogue.{Id, Catalogue}
use Rattle.fit.specs.Fit.{Fit, Result, result_at}
use Rattle.fit.specs.Lookups.{trained}
use Rattle.entry.specs.declared.Rule.TheVariants.{Skill}
use Rattle.skill.specs.Skill.{Demand, wanted_skills, target_of, entry_of, reported, skill_list}
use Rattle.training.specs.Training.{Training, training_of, trained_as, skill_of, step_by, step, trained_by}
use Rattle.training.specs.Turns.{level_of, gain, portion, turns, Listed}
use Rattle.training.proofs.Raising.{gain-more, gain-listed, gain-own, gain-more_or_same}

-- ---- steps by wanted skills
abbrev pub lacks : Training → Demand → Bool
lacks s w = ltb (level_of s w.0) w.1

unfoldable pub first_up : List Demand → Training → Training
first_up [] s = s
first_up (w ∷ ws) s = gain s w.0 1

-- the first that lacks goes up by one
unfoldable pub stepped : List Demand → Training → Training
stepped ws s = first_up (only (lacks s) ws) s

unfoldable pub steps : List Demand → ℕ → Training → Training
steps ws zero s = s
steps ws (suc k) s = steps ws k (stepped ws s)

first-listed : (ws : List Demand) (s : Training) → Listed s → Listed (first_up ws s)
unfolding first_up
first-listed [] s g = g
first-listed (w ∷ ws) s g = gain-listed s w.0 1 g

pub stepped_listed : (ws : List Demand) (s : Training) → Listed s → Listed (stepped ws s)
unfolding stepped
stepped_listed ws s g = first-listed (only (lacks s) ws) s g

first-higher : (ws : List Demand) (s : Training) (u : Id) → Listed s → level_of s u ≤ level_of (first_up ws s) u
unfolding first_up
first-higher [] s u g = omega arith
first-higher (w ∷ ws) s u g = gain-more_or_same s w.0 1 u g

pub stepped_higher : (ws : List Demand) (s : Training) (u : Id) → Listed s → level_of s u ≤ level_of (stepped ws s) u
unfolding stepped
stepped_higher ws s u g = first-higher (only (lacks s) ws) s u g

-- a skill that has enough is passed over
pub past : (w : Demand) (ws : List Demand) (s : Training) → w.1 ≤ level_of s w.0 → stepped (w ∷ ws) s ≡ stepped ws s
unfolding stepped only
past w ws s h = ap (λ (b : Bool). first_up (cond b (w ∷ only (lacks s) ws) (only (lacks s) ws)) s) (le-ltb (level_of s w.0) w.1 h)

-- one that lacks is raised
pub own : (w : Demand) (ws : List Demand) (s : Training) → level_of s w.0 < w.1 → stepped (w ∷ ws) s ≡ gain s w.0 1
unfolding stepped only first_up
own w ws s h = ap (λ (b : Bool). first_up (cond b (w ∷ only (lacks s) ws) (only (lacks s) ws)) s) (lt-ltb (level_of s w.0) w.1 h)

steps_past : (k : ℕ) (w : Demand) (ws : List Demand) (s : Training) → Listed s → w.1 ≤ level_of s w.0 → steps (w ∷ ws) k s ≡ steps ws k s
unfolding steps
steps_past zero w ws s g h = refl
steps_past (suc k) w ws s g h =
    ap (steps (w ∷ ws) k) (past w ws s h)
    ∙ steps_past k w ws (stepped ws s) (stepped_listed ws s g) (le_trans h (stepped_higher ws s w.0 g))

pub split_lt : (a b : ℕ) → (a < b) ⊎ (b ≤ a)
split_lt a b = go (ltb a b) refl
  where
    go : (x : Bool) → ltb a b ≡ x → (a < b) ⊎ (b ≤ a)
    go true e = inl (ltb-true a b e)
    go false e = inr (ltb-false a b e)

steps_own : (k : ℕ) (w : Demand) (ws : List Demand) (s : Training) → Listed s
    → steps (w ∷ ws) k s ≡ steps ws (k - portion s k w) (gain s w.0 (portion s k w))
unfolding steps gain
steps_own zero w ws s g =
    let e : portion s 0 w ≡ 0 = omega arith in
    sym (ap (λ (m : ℕ). steps ws (0 - m) (gain s w.0 m)) e)
steps_own (suc k) w ws s g = go (split_lt (level_of s w.0) w.1) (steps_own k w ws (gain s w.0 1) (gain-listed s w.0 1 g))
  where
    go : (level_of s w.0 < w.1) ⊎ (w.1 ≤ level_of s w.0)
        → (let s' = gain s w.0 1 in steps (w ∷ ws) k s' ≡ steps ws (k - portion s' k w) (gain s' w.0 (portion s' k w)))
        → steps (w ∷ ws) k (stepped (w ∷ ws) s) ≡ steps ws (suc k - portion s (suc k) w) (gain s w.0 (portion s (suc k) w))
    go (inl h) r =
        let s' = gain s w.0 1 in
        let o = gain-own s w.0 1 g in
        let m : suc (portion s' k w) ≡ portion s (suc k) w = omega (arith, o, h) in
        let n : k - portion s' k w ≡ suc k - portion s (suc k) w = omega (arith, o, h) in
        ap (steps (w ∷ ws) k) (own w ws s h) ∙ r
        ∙ ap₂ (λ (a : ℕ) (z : Training). steps ws a z) n (gain-more s w.0 (portion s' k w) ∙ ap (λ (a : ℕ). gain s w.0 a) m)
    go (inr h) r =
        let m : portion s (suc k) w ≡ 0 = omega (arith, h) in
        let n : suc k - portion s (suc k) w ≡ suc k = omega (arith, h) in
        steps_past (suc k) w ws s g h ∙ sym (ap₂ (λ (a : ℕ) (z : Training). steps ws a z) n (ap (λ (a : ℕ). gain s w.0 a) m))

-- all steps at once
pub all-given : (ws : List Demand) (k : ℕ) (s : Training) → Listed s → steps ws k s ≡ (turns s k ws).0
unfolding turns steps stepped only first_up
all-given [] zero s g = refl
all-given [] (suc k) s g = all-given [] k s g
all-given (w ∷ ws) k s g =
    steps_own k w ws s g
    ∙ all-given ws (k - portion s k w) (gain s w.0 (portion s k w)) (gain-listed s w.0 (portion s k w) g)

-- ---- steps of a fit
module _ (c : Catalogue) (n : ℕ) where
  pub list_of : (f : Fit) (r : Result) → result_at f n ≡ Some r → skill_list c f n ≡ reported f n (wanted_skills c r)
  unfolding skill_list ◌>>=◌
  list_of f r e = rw e

  step_by_lem : (f : Fit) (ws : List Demand) → step_by f (reported f n ws) ≡ trained_as f (stepped ws (training_of f))
  unfolding each step_by stepped only first_up entry_of when skill_of gain
  step_by_lem f [] = refl
  step_by_lem f (w ∷ ws) = go (lacks (training_of f) w) (step_by_lem f ws)
    where
      go : (b : Bool)
          → step_by f (reported f n ws) ≡ trained_as f (first_up (only (lacks (training_of f)) ws) (training_of f))
          → step_by f (cond b (record { target = target_of n; rule = Skill w.0 w.1 (trained f.skills f.levels w.0) } ∷ []) [] ++ reported f n ws)
          ≡ trained_as f (first_up (cond b (w ∷ only (lacks (training_of f)) ws) (only (lacks (training_of f)) ws)) (training_of f))
      go true i = refl
      go false i = i

  pub step_of : (f : Fit) (r : Result) → result_at f n ≡ Some r → step c n f ≡ trained_as f (stepped (wanted_skills c r) (training_of f))
  unfolding step
  step_of f r e = ap (step_by f) (list_of f r e) ∙ step_by_lem f (wanted_skills c r)

  pub trained-steps : (k : ℕ) (f : Fit) (r : Result) → result_at f n ≡ Some r → trained_by c n k f ≡ trained_as f (steps (wanted_skills c r) k (training_of f))
  unfolding trained_by steps
  trained-steps zero f r e = refl
  trained-steps (suc k) f r e =
      let next = trained_as f (stepped (wanted_skills c r) (training_of f)) in
      ap (trained_by c n k) (step_of f r e) ∙ trained-steps k next r (same-result f (stepped (wanted_skills c r) (training_of f)) e)
    where
      same-result : (f : Fit) (t : Training) → result_at f n ≡ Some r → result_at (trained_as f t) n ≡ Some r
      same-result f t e = unfold result_at in e

  pub trained-turns : (k : ℕ) (f : Fit) (r : Result) → result_at f n ≡ Some r → Listed (training_of f)
      → trained_by c n k f ≡ trained_as f (turns (training_of f) k (wanted_skills c r)).0
  trained-turns k f r e g = trained-steps k f r e ∙ ap (trained_as f) (all-given (wanted_skills c r) k (training_of f) g)
