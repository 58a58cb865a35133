-- Refusal 16: which wanted skills are listed, and how many are not.
use Prim.Native.Nat.{ℕ, zero, suc, ◌+◌, ◌*◌, ◌≤◌, ◌<◌}
use native.Mathlib.Omega.{arith}
use mathlib.Core.Path.{◌≡◌, refl, sym, ap, ap₂, ◌∙◌}
use mathlib.Core.Bool.{Bool, true, false, not, ◌&&◌, ◌||◌, cond, true≢false}
use mathlib.Core.List.{List, [], ◌∷◌, ◌++◌}
use Rattle.std.specs.Prelude.{Option, Some, is_some}
use lib.Dec.{ltb}
use lib.IntN.{pos}
use lib.ListN.{length}
use borrow.Author.Tests.{lt-ltb, le-ltb}
use Rattle.words.specs.Words.{◌>>=◌, table_from, each, when, only, count_of, any_of, find, same, contains}
use Rattle.image.specs.Bytes.{i32_at}
use Rattle.keys.specs.Keys.{key_at, place_of}
use Rattle.keys.proofs.Parts.{part-key}
use Rattle.catalogue.specs.Catalogue.{Id, Catalogue}
use Rattle.fit.specs.Fit.{Fit, Result, fit_of, result_at, skill_count, skills_at}
use Rattle.fit.specs.Lookups.{trained}
use Rattle.fit.proofs.Searches.{skill_ids}
use Rattle.entry.specs.declared.Entry.{Entry}
use Rattle.entry.specs.declared.Rule.TheVariants.{Skill}
use Rattle.skill.specs.Skill.{Demand, wanted_skills, target_of, entry_of, reported, skill_list}
use Rattle.skill.specs.Held.{walk_of}
use Rattle.skill.specs.declared.walk.Walk.{Walk}
use Rattle.skill.proofs.Zips.{zip_length}
use Rattle.lists.proofs.Few.{count-le}
use Rattle.training.specs.Training.{training_of, skill_of}
use Rattle.training.specs.Turns.{is_new}
use Rattle.training.proofs.Raising.{same-sym}

-- ---- listed, by a search
any_found : (h : ℕ → Id) (key : ℕ → Id) (id : Id) (i n : ℕ) → ((j : ℕ) → i ≤ j → j < i + n → key j ≡ h j)
    → any_of (same id) (table_from i n h) ≡ is_some (find (λ j. same (key j) id) (table_from i n (λ j. j)))
unfolding any_of table_from find
any_found h key id i zero e = refl
any_found h key id i (suc n) e =
    let own : same id (h i) ≡ same (key i) id = same-sym id (h i) ∙ ap (λ (z : Id). same z id) (sym (e i (omega arith) (omega arith))) in
    ap (λ (b : Bool). b || any_of (same id) (table_from (suc i) n h)) own
    ∙ go (same (key i) id) (any_found h key id (suc i) n (λ j p q. e j (omega (arith, p)) (omega (arith, q))))
  where
    go : (b : Bool)
        → any_of (same id) (table_from (suc i) n h) ≡ is_some (find (λ j. same (key j) id) (table_from (suc i) n (λ j. j)))
        → b || any_of (same id) (table_from (suc i) n h) ≡ is_some (cond b (Some i) (find (λ j. same (key j) id) (table_from (suc i) n (λ j. j))))
    go true r = refl
    go false r = r

module _ (b : List ℕ) (id : Id) where
  listed_by : contains id (fit_of b).skills ≡ is_some (place_of (skill_ids b) (skill_count b) id)
  unfolding fit_of contains place_of
  listed_by =
      any_found (λ i. i32_at b (skills_at b + 4 * i)) (key_at (skill_ids b)) id 0 (skill_count b)
      (λ j _ q. part-key b (skills_at b) (skill_count b) j (omega (arith, q)))

  pub listed_found : {o : Option ℕ} → o ≡ place_of (skill_ids b) (skill_count b) id → is_some o ≡ contains id (fit_of b).skills
  listed_found e = ap is_some e ∙ sym listed_by

-- ---- a skill that is not listed has level 0
pub unlisted_level : (is : List Id) (ls : List ℕ) (t : Id) → contains t is ≡ false → trained is ls t ≡ 0
unfolding trained contains any_of
unlisted_level [] ls t h = refl
unlisted_level (i ∷ is) [] t h = refl
unlisted_level (i ∷ is) (l ∷ ls) t h = go (same t i) refl h (unlisted_level is ls t)
  where
    go : (b : Bool) → same t i ≡ b → b || any_of (same t) is ≡ false → (any_of (same t) is ≡ false → trained is ls t ≡ 0) → cond (same i t) l (trained is ls t) ≡ 0
    go true e q r = absurd (true≢false q)
    go false e q r = ap (λ (x : Bool). cond x l (trained is ls t)) (same-sym i t ∙ e) ∙ r q

module _ (f : Fit) (id : Id) (wanted : ℕ) where
  pub new-unwanted : wanted ≡ 0 → ◌≡◌ {A = ℕ} 0 (cond (is_new (training_of f) (id, wanted)) 1 0)
  new-unwanted e =
      sym (ap (λ (b : Bool). cond (b && not (contains id f.skills)) 1 0) (le-ltb (trained f.skills f.levels id) wanted (omega (arith, e))))

  pub new-listed : contains id f.skills ≡ true → ◌≡◌ {A = ℕ} 0 (cond (is_new (training_of f) (id, wanted)) 1 0)
  new-listed e = sym (ap (λ (b : Bool). cond (ltb (trained f.skills f.levels id) wanted && not b) 1 0) e ∙ none_of (ltb (trained f.skills f.levels id) wanted))
    where
      none_of : (b : Bool) → ◌≡◌ {A = ℕ} (cond (b && false) 1 0) 0
      none_of true = refl
      none_of false = refl

  pub new-lacking : (wanted ≡ 0 → ⊥) → contains id f.skills ≡ false → ◌≡◌ {A = ℕ} 1 (cond (is_new (training_of f) (id, wanted)) 1 0)
  new-lacking h e =
      let z = unlisted_level f.skills f.levels id e in
      let l : ltb (trained f.skills f.levels id) wanted ≡ true = lt-ltb (trained f.skills f.levels id) wanted (above wanted h z) in
      sym (ap₂ (λ (a b : Bool). cond (a && not b) 1 0) l e)
    where
      above : (w : ℕ) → (w ≡ 0 → ⊥) → trained f.skills f.levels id ≡ 0 → trained f.skills f.levels id < w
      above zero g z = absurd (g refl)
      above (suc w) g z = omega (arith, z)

-- ---- the count, by entries and by wanted skills
module _ (f : Fit) (n : ℕ) where
  abbrev unlisted : Entry → Bool
  unlisted e = not (contains (skill_of e.rule) f.skills)

  count-reported : (ws : List Demand) → count_of unlisted (reported f n ws) ≡ count_of (is_new (training_of f)) ws
  unfolding count_of only each entry_of when skill_of
  count-reported [] = refl
  count-reported (w ∷ ws) = go (ltb (trained f.skills f.levels w.0) w.1) (not (contains w.0 f.skills)) refl (count-reported ws)
    where
      own : Entry
      own = record { target = target_of n; rule = Skill w.0 w.1 (trained f.skills f.levels w.0) }

      go : (a b : Bool) → not (contains w.0 f.skills) ≡ b
          → length (only unlisted (reported f n ws)) ≡ length (only (is_new (training_of f)) ws)
          → length (only unlisted (cond a (own ∷ []) [] ++ reported f n ws)) ≡ length (cond (a && b) (w ∷ only (is_new (training_of f)) ws) (only (is_new (training_of f)) ws))
      go true true q r = ap (λ (x : Bool). length (cond x (own ∷ only unlisted (reported f n ws)) (only unlisted (reported f n ws)))) q ∙ ap suc r
      go true false q r = ap (λ (x : Bool). length (cond x (own ∷ only unlisted (reported f n ws)) (only unlisted (reported f n ws)))) q ∙ r
      go false b q r = r

  pub count-listed : (c : Catalogue) (r : Result) → result_at f n ≡ Some r
      → count_of unlisted (skill_list c f n) ≡ count_of (is_new (training_of f)) (wanted_skills c r)
  unfolding skill_list ◌>>=◌
  count-listed c r e = ap (λ (o : Option Result). count_of unlisted (◌>>=◌ o (λ x. reported f n (wanted_skills c x)))) e ∙ count-reported (wanted_skills c r)

-- no more are counted than there are
pub count-walk : (t : Demand → Bool) (w : Walk) → count_of t (walk_of w) ≤ w.len
count-walk t w = omega (arith, count-le t (walk_of w), zip_length (pos 0) 0 w.ids w.levels w.len)
