-- What a fit touches, as the image lists it; and the parts of a catalogue that is sound.
use Prim.Native.Nat.{ℕ, ◌+◌, ◌*◌, ◌<◌, ◌≤◌}
use native.Mathlib.Omega.{arith}
use mathlib.Core.Path.{◌≡◌, refl, sym, ap, ap₂, ◌∙◌}
use mathlib.Core.Bool.{Bool, true, false, true≢false}
use mathlib.Core.List.{List, [], ◌∷◌, ◌++◌, map}
use lib.IntN.{pos}
use lib.ListN.{length, get_or, take, drop}
use Rattle.words.specs.Words.{table, any_of, each, given}
use Rattle.words.proofs.Tables.{map-table, any_false}
use Rattle.numbers.specs.Sizes as Sizes
use Rattle.image.specs.Bytes.{i32_at}
use Rattle.keys.specs.Keys.{Sorted}
use Rattle.catalogue.specs.Catalogue.{Id, Catalogue}
use Rattle.catalogue.specs.Sound.{Sound}
use Rattle.catalogue.proofs.Reading.{types-sorted, links-sorted, bases-sorted}
use Rattle.fit.specs.Fit.{Fit, Item, fit_of, mode_of, all_results, skill_count, item_count, skills_at, item_at}
use Rattle.skill.specs.Skill.{Demand}
use Rattle.skill.specs.Held.{zip_to, held_at, walk_of}
use Rattle.skill.specs.declared.walk.Walk.{Walk}
use Rattle.trim.specs.Trim.{touched, wanted_ids}
use Rattle.trim.specs.Marked.{named}
use Rattle.trim.specs.Parts.{at_of, size_of, first_of, width_of}
use Rattle.trim.specs.declared.part.Part.{Part}
use Rattle.trim.specs.declared.part.Part.TheVariants.{Types, Links, Bases}

-- ---- ids at places of a fit's image
pub skills-listed : (b : List ℕ) → table (skill_count b) (λ i. i32_at b (skills_at b + 4 * i)) ≡ (fit_of b).skills
unfolding fit_of
skills-listed b = refl

pub types-listed : (b : List ℕ) → table (item_count b) (λ i. (item_at b i).type) ≡ map (λ (i : Item). i.type) (fit_of b).items
unfolding fit_of
types-listed b = sym (map-table (λ (i : Item). i.type) (item_count b) (item_at b))

-- the ship, the mode where one is given, the skills, the types of the items
pub named-of : (b : List ℕ) (ship : Id) (skills items : ℕ) → ship ≡ (fit_of b).frame.ship → skills ≡ skill_count b → items ≡ item_count b
    → (((ship ∷ []) ++ given (mode_of (fit_of b).frame) [] (λ (m : Id). m ∷ [])) ++ table skills (λ i. i32_at b (skills_at b + 4 * i)))
    ++ table items (λ i. (item_at b i).type) ≡ named (fit_of b)
named-of b ship skills items e p q =
    let modes = given (mode_of (fit_of b).frame) [] (λ (m : Id). m ∷ []) in
    let first = ap (λ (x : Id). x ∷ modes) e in
    let second = ap (λ (k : ℕ). table k (λ i. i32_at b (skills_at b + 4 * i))) p ∙ skills-listed b in
    let third = ap (λ (k : ℕ). table k (λ i. (item_at b i).type)) q ∙ types-listed b in
    ap₂ (λ (x y : List Id). x ++ y) (ap₂ (λ (x y : List Id). x ++ y) first second) third

-- what a fit touches is what it names and what its results want
pub named-touched : (c : Catalogue) (f : Fit) → named f ++ each (all_results f) (wanted_ids c) ≡ touched c f
unfolding touched
named-touched c f = refl

-- ---- the skills of a walk
pub walk-ids : (w : Walk) → map (λ (d : Demand). d.0) (walk_of w) ≡ table w.len (λ i. get_or w.ids i (pos 0))
unfolding zip_to
walk-ids w = map-table (λ (d : Demand). d.0) w.len (held_at w.ids w.levels)

-- ---- one of a table passes
pub any_here : {A : Type 0} (t : A → Bool) (n : ℕ) (f : ℕ → A) (j : ℕ) → j < n → t (f j) ≡ true → any_of t (table n f) ≡ true
any_here t n f j h e = go (any_of t (table n f)) refl
  where
    go : (b : Bool) → any_of t (table n f) ≡ b → b ≡ true
    go true q = refl
    go false q = absurd (true≢false (sym e ∙ any_false t n f q j h))

-- ---- the parts
-- no value is narrower than a key
pub four_wide : (p : Part) (k : ℕ) → 4 * k ≤ width_of p * k
unfolding width_of
four_wide Types k = omega arith
four_wide Links k = omega arith
four_wide Bases k = omega arith

module _ (b : List ℕ) (s : Sound b) where
  pub part-sorted : (p : Part) → Sorted (take (4 * size_of b p) (drop (at_of b p) b)) (size_of b p)
  unfolding at_of size_of
  part-sorted Types = types-sorted b s
  part-sorted Links = links-sorted b s
  part-sorted Bases = bases-sorted b s

  -- keys and values stand in the image
  pub part-room : (p : Part) → at_of b p + 4 * size_of b p + width_of p * size_of b p ≤ length b
  unfolding at_of size_of width_of
  part-room Types = omega (arith, s.size)
  part-room Links = omega (arith, s.size)
  part-room Bases = omega (arith, s.size)

  -- places are small
  pub part-few : (p : Part) → first_of b p + size_of b p ≤ Sizes.most_catalogue_bytes
  unfolding first_of size_of
  part-few Types = omega (arith, s.size, s.small)
  part-few Links = omega (arith, s.size, s.small)
  part-few Bases = omega (arith, s.size, s.small)
