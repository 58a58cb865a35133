-- What a result's wanted skills lack: a step leaves one level less missing, no entry more, and all but the first entry as it was. By
-- induction on the wanted skills, no two of which are alike.
use Prim.Native.Nat.{ℕ, zero, suc, ◌+◌, ◌-◌, ◌≤◌, ◌<◌}
use native.Mathlib.Omega.{arith}
use mathlib.Core.Path.{◌≡◌, refl, sym, ap, ap₂, ◌∙◌}
use mathlib.Core.Bool.{Bool, true, false, not, cond}
use mathlib.Core.List.{List, [], ◌∷◌, ◌++◌, map}
use mathlib.Core.Logic.{◌⊎◌, inl, inr}
use lib.Dec.{T, ltb, leb}
use borrow.Author.Tests.{lt-leb, ltb-true, ltb-false}
use Rattle.words.specs.Words.{each, when, sum_of, is_empty, any_of, same, contains}
use Rattle.words.proofs.Elements.{or_left, or_right}
use Rattle.catalogue.specs.Catalogue.{Id}
use Rattle.fit.specs.Fit.{Fit}
use Rattle.fit.specs.Lookups.{trained}
use Rattle.entry.specs.declared.Entry.{Entry}
use Rattle.entry.specs.declared.Rule.TheVariants.{Skill}
use Rattle.entry.specs.Entries.{fields}
use Rattle.skill.specs.Skill.{Demand, target_of, entry_of, reported}
use Rattle.skill.specs.Wanted.{Once}
use Rattle.training.specs.Training.{Training, training_of, lacking}
use Rattle.training.specs.Turns.{level_of, gain, Listed}
use Rattle.training.proofs.Raising.{gain-own, gain-other}
use Rattle.training.proofs.Stepping.{stepped, steps, split_lt, past, own, stepped_listed, stepped_higher}

-- what is missing in all
unfoldable pub missing_of : List Demand → Training → ℕ
missing_of ws s = sum_of (λ w. w.1 - level_of s w.0) ws

abbrev ids_in : List Demand → List Id
ids_in ws = map (λ w. w.0) ws

pub absent : (x : Id) (l : List Id) → T (not (contains x l)) → contains x l ≡ false
absent x l h = go (contains x l) h
  where
    go : (b : Bool) → T (not b) → b ≡ false
    go true t = absurd t
    go false t = refl

-- a skill raised that is none of some wanted ones
missing-other : (ws : List Demand) (s : Training) (t : Id) (k : ℕ) → contains t (ids_in ws) ≡ false → missing_of ws (gain s t k) ≡ missing_of ws s
unfolding missing_of sum_of contains any_of
missing-other [] s t k h = refl
missing-other (w ∷ ws) s t k h =
    ap₂ (λ (a b : ℕ). a + b)
    (ap (λ (l : ℕ). w.1 - l) (gain-other s t k w.0 (or_left (same t w.0) (contains t (ids_in ws)) h)))
    (missing-other ws s t k (or_right (same t w.0) (contains t (ids_in ws)) h))

pub missing-step : (ws : List Demand) (s : Training) → Once (ids_in ws) → Listed s → missing_of ws (stepped ws s) ≡ missing_of ws s - 1
missing-step [] s o g = unfold missing_of sum_of in refl
missing-step (w ∷ ws) s o g = go (split_lt (level_of s w.0) w.1) (missing-step ws s o.1 g)
  where
    head : (s' : Training) → missing_of (w ∷ ws) s' ≡ w.1 - level_of s' w.0 + missing_of ws s'
    head s' = unfold missing_of sum_of in refl

    go : (level_of s w.0 < w.1) ⊎ (w.1 ≤ level_of s w.0) → missing_of ws (stepped ws s) ≡ missing_of ws s - 1
        → missing_of (w ∷ ws) (stepped (w ∷ ws) s) ≡ missing_of (w ∷ ws) s - 1
    go (inl h) r =
        let s' = gain s w.0 1 in
        let a = gain-own s w.0 1 g in
        let b = missing-other ws s w.0 1 (absent w.0 (ids_in ws) o.0) in
        let n = head s' in
        let m = head s in
        ap (missing_of (w ∷ ws)) (own w ws s h) ∙ omega (arith, h, a, b, n, m)
    go (inr h) r =
        let s' = stepped ws s in
        let a : level_of s w.0 ≤ level_of s' w.0 = stepped_higher ws s w.0 g in
        let n = head s' in
        let m = head s in
        ap (missing_of (w ∷ ws)) (past w ws s h) ∙ omega (arith, h, a, r, n, m)

pub missing-steps : (ws : List Demand) (k : ℕ) (s : Training) → Once (ids_in ws) → Listed s → missing_of ws (steps ws k s) ≡ missing_of ws s - k
unfolding steps
missing-steps ws zero s o g = omega arith
missing-steps ws (suc k) s o g =
    let a = missing-steps ws k (stepped ws s) o (stepped_listed ws s g) in
    let b = missing-step ws s o g in
    omega (arith, a, b)

-- ---- as the entries say it
module _ (f : Fit) (n : ℕ) where
  pub missing-entries : (ws : List Demand) → sum_of (λ (e : Entry). lacking e.rule) (reported f n ws) ≡ missing_of ws (training_of f)
  unfolding missing_of sum_of each entry_of when lacking fields
  missing-entries [] = refl
  missing-entries (w ∷ ws) = go (ltb (trained f.skills f.levels w.0) w.1) refl (missing-entries ws)
    where
      level : ℕ
      level = trained f.skills f.levels w.0

      go : (b : Bool) → ltb level w.1 ≡ b
          → sum_of (λ (e : Entry). lacking e.rule) (reported f n ws) ≡ sum_of (λ x. x.1 - trained f.skills f.levels x.0) ws
          → sum_of (λ (e : Entry). lacking e.rule) (cond b (record { target = target_of n; rule = Skill w.0 w.1 level } ∷ []) [] ++ reported f n ws)
          ≡ w.1 - level + sum_of (λ x. x.1 - trained f.skills f.levels x.0) ws
      go true e r = ap (λ (k : ℕ). w.1 - level + k) r
      go false e r = let h = ltb-false level w.1 e in omega (arith, h, r)

  -- nothing is listed where nothing is missing
  pub empty-entries : (ws : List Demand) → is_empty (reported f n ws) ≡ leb (missing_of ws (training_of f)) 0
  unfolding missing_of sum_of each entry_of when is_empty
  empty-entries [] = refl
  empty-entries (w ∷ ws) = go (ltb (trained f.skills f.levels w.0) w.1) refl (empty-entries ws)
    where
      level : ℕ
      level = trained f.skills f.levels w.0

      rest : ℕ
      rest = sum_of (λ x. x.1 - trained f.skills f.levels x.0) ws

      go : (b : Bool) → ltb level w.1 ≡ b → is_empty (reported f n ws) ≡ leb rest 0
          → is_empty (cond b (record { target = target_of n; rule = Skill w.0 w.1 level } ∷ []) [] ++ reported f n ws) ≡ leb (w.1 - level + rest) 0
      go true e r = let h = ltb-true level w.1 e in sym (lt-leb (w.1 - level + rest) 0 (omega (arith, h)))
      go false e r =
          let h = ltb-false level w.1 e in
          let q : w.1 - level + rest ≡ rest = omega (arith, h) in
          r ∙ ap (λ (k : ℕ). leb k 0) (sym q)
