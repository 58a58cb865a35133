-- The walk's list grows, and stays once every skill of it has been walked. By induction on the demands noted and on the steps.
use Prim.Native.Nat.{ℕ, zero, suc, ◌+◌, ◌-◌, ◌≤◌, max}
use native.Mathlib.Nat.{le_refl, le_trans, add-zero, add-suc, not-suc-le-zero, le_of_suc-le-suc}
use native.Mathlib.Numerals.{add-one}
use native.Mathlib.Omega.{arith}
use mathlib.Core.Path.{◌≡◌, refl, ap, ◌∙◌}
use mathlib.Core.Bool.{Bool, true, false, cond}
use mathlib.Core.List.{List, [], ◌∷◌, ◌++◌, foldl, foldl-append, append-nil}
use Rattle.std.specs.Prelude.{Option, None, Some}
use lib.ListN.{length}
use Rattle.words.specs.Words.{given, same}
use Rattle.catalogue.specs.Catalogue.{Id, Catalogue}
use Rattle.skill.specs.Skill.{Demand, of_skill, note, noted, skill_at, met_from}

-- ---- one demand noted, and many
pub note-longer : (ws : List Demand) (d : Demand) → length ws ≤ length (note ws d)
unfolding note
note-longer [] d = omega arith
note-longer (w ∷ ws) d = go (same w.0 d.0) (note-longer ws d)
  where
    go : (b : Bool) → length ws ≤ length (note ws d) → suc (length ws) ≤ length (cond b ((w.0, max w.1 d.1) ∷ ws) (w ∷ note ws d))
    go true h = le_refl _
    go false h = omega arith

-- at most one skill comes in
pub note-by_one : (ws : List Demand) (d : Demand) → length (note ws d) ≤ suc (length ws)
unfolding note
note-by_one [] d = omega arith
note-by_one (w ∷ ws) d = go (same w.0 d.0) (note-by_one ws d)
  where
    go : (b : Bool) → length (note ws d) ≤ suc (length ws) → length (cond b ((w.0, max w.1 d.1) ∷ ws) (w ∷ note ws d)) ≤ suc (suc (length ws))
    go true h = omega arith
    go false h = omega arith

pub fold_longer : (ds ws : List Demand) → length ws ≤ length (foldl note ws ds)
fold_longer [] ws = le_refl _
fold_longer (d ∷ ds) ws = le_trans (note-longer ws d) (fold_longer ds (note ws d))

noted-longer : (ds es : List Demand) → length (noted ds) ≤ length (noted (ds ++ es))
unfolding noted
noted-longer ds es = rw foldl-append (fold_longer es (foldl note [] ds))

-- ---- the walk
past_end : (ws : List Demand) (n : ℕ) → length ws ≤ n → skill_at ws n ≡ None
unfolding skill_at
past_end [] n h = refl
past_end (w ∷ ws) zero h = absurd (not-suc-le-zero h)
past_end (w ∷ ws) (suc n) h = past_end ws n (le_of_suc-le-suc h)

module _ (c : Catalogue) (start : List Demand) where
  -- before the first step nothing else is met
  pub met-first : start ≡ met_from c start 0
  unfolding met_from
  met-first = refl

  -- a skill of the order is walked
  pub met_next : (n : ℕ) (t : Id) → skill_at (noted (met_from c start n)) n ≡ Some t → met_from c start (n + 1) ≡ met_from c start n ++ of_skill c t
  unfolding met_from given
  met_next n t e = rw add-one (ap (λ (o : Option Id). met_from c start n ++ given o [] (of_skill c)) e)

  -- no skill is left to walk
  met-done : (n : ℕ) → length (noted (met_from c start n)) ≤ n → met_from c start (suc n) ≡ met_from c start n
  unfolding met_from given
  met-done n h = ap (λ (o : Option Id). met_from c start n ++ given o [] (of_skill c)) (past_end (noted (met_from c start n)) n h) ∙ append-nil (met_from c start n)

  stays : (n k : ℕ) → length (noted (met_from c start n)) ≤ n → met_from c start (n + k) ≡ met_from c start n
  stays n zero h = ap (met_from c start) (add-zero n)
  stays n (suc k) h =
      let e = stays n k h in
      let l : length (noted (met_from c start (n + k))) ≤ n + k = omega (arith, ap (λ (ds : List Demand). length (noted ds)) e) in
      ap (met_from c start) (add-suc n k) ∙ met-done (n + k) l ∙ e

  -- once the order is walked to its end, further steps meet nothing
  pub met-stays : (n m : ℕ) → n ≤ m → length (noted (met_from c start n)) ≤ n → met_from c start m ≡ met_from c start n
  met-stays n m q h = let e : m ≡ n + (m - n) = omega arith in ap (met_from c start) e ∙ stays n (m - n) h

  longer : (n k : ℕ) → length (noted (met_from c start n)) ≤ length (noted (met_from c start (n + k)))
  unfolding met_from
  longer n zero = rw add-zero (le_refl _)
  longer n (suc k) = rw add-suc (le_trans (longer n k) (noted-longer (met_from c start (n + k)) _))

  -- the order never gets shorter
  pub met-longer : (n m : ℕ) → n ≤ m → length (noted (met_from c start n)) ≤ length (noted (met_from c start m))
  met-longer n m q = let e : m ≡ n + (m - n) = omega arith in rw e (longer n (m - n))
