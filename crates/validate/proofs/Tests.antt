-- From what the catalogue answers of a type to what kind it is, and the rules on the mode and the skills.
use Prim.Native.Nat.{ℕ, ◌+◌, ◌≤◌}
use native.Mathlib.Omega.{arith}
use mathlib.Core.Path.{◌≡◌, ap, ap₂, ◌∙◌}
use mathlib.Core.Bool.{Bool, false, not}
use mathlib.Core.List.{List}
use Rattle.std.specs.Prelude.{Option, None, Some}
use lib.ListN.{length}
use Rattle.words.specs.Words.{when, each, table, given, same}
use Rattle.words.proofs.Lengths.{few-when, few-bind, few-each}
use Rattle.words.proofs.Tables.{length-table}
use Rattle.numbers.specs.Categories as Categories
use Rattle.catalogue.specs.Catalogue.{Id, Catalogue}
use Rattle.catalogue.specs.declared.TypeInfo.{TypeInfo}
use Rattle.entry.specs.declared.Rule.TheVariants.{NotAMode, NotASkill}
use Rattle.entry.specs.Entries.{on_ship}
use Rattle.entry.specs.declared.Entries.{Entries}
use Rattle.entry.specs.Emitted.{Emitted}
use Rattle.entry.proofs.Emitted.{emitted-same, emitted-bind, emitted-bind_none, emitted-table_next}
use Rattle.context.specs.Gathered.{answer_of}
use Rattle.context.proofs.Types.{told}
use Rattle.validate.specs.Kind.{is_mode, is_skill, not_a_mode, not_a_skill_at}
use Rattle.validate.specs.Skills.{skill_at, OfSkills}

-- rule 21 of a skill: z and y are the id as the lookup and the entry were told it
pub skill-told : (c : Catalogue) (answer : Option TypeInfo) {z y id : Id} → z ≡ id → y ≡ id → answer ≡ answer_of c z
    → when (not (given answer false (λ x. same x.category Categories.skill))) (on_ship (NotASkill y)) ≡ not_a_skill_at c id
unfolding is_skill
skill-told c answer {z} {y} {id} e f h =
    ap₂ (λ (t : Bool) (i : Id). when (not t) (on_ship (NotASkill i)))
    (told false (λ x. same x.category Categories.skill) c id (h ∙ ap (answer_of c) e)) f

pub skill-few : (c : Catalogue) (id : Id) → length (not_a_skill_at c id) ≤ 1
skill-few c id = few-when (not (is_skill c id)) (on_ship (NotASkill id))

-- one entry a skill at most
pub skills-few : (c : Catalogue) (fit : List ℕ) (i : ℕ) {b a : Entries} → OfSkills c fit i b a → a.n ≤ b.n + i
skills-few c fit i w =
    let e = few-each (not_a_skill_at c) 1 (skill-few c) (table i (skill_at fit)) in
    let t = length-table 0 i (skill_at fit) in
    omega (arith, w.count, e, t)

skills-at : (c : Catalogue) (fit : List ℕ) {i j : ℕ} {b a : Entries} → i ≡ j → OfSkills c fit i b a → OfSkills c fit j b a
skills-at c fit e w = emitted-same (ap (λ (m : ℕ). each (table m (skill_at fit)) (not_a_skill_at c)) e) w

-- four skills more
pub skills-four : (c : Catalogue) (fit : List ℕ) (i : ℕ) {b a a₁ a₂ a₃ a₄ : Entries} → OfSkills c fit i b a
    → Emitted a a₁ (not_a_skill_at c (skill_at fit i)) → Emitted a₁ a₂ (not_a_skill_at c (skill_at fit (i + 1)))
    → Emitted a₂ a₃ (not_a_skill_at c (skill_at fit (i + 2))) → Emitted a₃ a₄ (not_a_skill_at c (skill_at fit (i + 3)))
    → OfSkills c fit (i + 4) b a₄
skills-four c fit i v w x y z =
    let f = not_a_skill_at c in
    let g = skill_at fit in
    let two : i + 1 + 1 ≡ i + 2 = omega arith in
    let three : i + 2 + 1 ≡ i + 3 = omega arith in
    let four : i + 3 + 1 ≡ i + 4 = omega arith in
    let second = skills-at c fit two (emitted-table_next f g (i + 1) (emitted-table_next f g i v w) x) in
    skills-at c fit four (emitted-table_next f g (i + 3) (skills-at c fit three (emitted-table_next f g (i + 2) second y)) z)

-- ---- the mode
module _ (c : Catalogue) (mode : Option Id) where
  pub mode-none : {b : Entries} → mode ≡ None → Emitted b b (not_a_mode c mode)
  unfolding not_a_mode
  mode-none e = emitted-bind_none _ e

  pub mode-some : {b a : Entries} (m : Id) (t : Bool) → mode ≡ Some m → t ≡ is_mode c m
      → Emitted b a (when (not t) (on_ship NotAMode)) → Emitted b a (not_a_mode c mode)
  unfolding not_a_mode
  mode-some m t e q w = emitted-bind _ e (emitted-same (ap (λ (s : Bool). when (not s) (on_ship NotAMode)) q) w)

  pub mode-few : length (not_a_mode c mode) ≤ 1
  unfolding not_a_mode
  mode-few = few-bind _ 1 (λ m. few-when (not (is_mode c m)) (on_ship NotAMode)) mode
