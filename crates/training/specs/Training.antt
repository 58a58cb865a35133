-- Document 02, P11: training, level by level. Each step raises by one the trained level of the first entry in a result's skill list, and
-- lists the skill at level 1 where it was not listed.
use Rattle.std.specs.Prelude.{ℕ, zero, suc, ◌+◌, ◌-◌, Bool, not, cond, List, [], ◌∷◌, ◌++◌, ltb, pos, length, take, drop, get_or}
use Rattle.std.specs.Int.Signed.{lt_z}
use Rattle.words.specs.Words.{each, count_of, same, contains}
use Rattle.numbers.specs.Sizes as Sizes
use Rattle.numbers.specs.Refusals as Refusals
use Rattle.image.specs.Bytes.{le, bits32}
use Rattle.catalogue.specs.Catalogue.{Id, Catalogue}
use Rattle.fit.specs.Fit.{Fit, items_at}
use Rattle.entry.specs.declared.Rule.{Rule}
use Rattle.entry.specs.declared.Rule.TheVariants.{Resource, Slots, WrongSlot, NotAModule, NotADrone, NotAFighter, NotAnImplant}
use Rattle.entry.specs.declared.Rule.TheVariants.{SlotTaken, WrongSlotIndex, SubsystemTaken, Skill, RigSize, ShipRestricted}
use Rattle.entry.specs.declared.Rule.TheVariants.{CapitalItem, StructureItem, ShipItem, MaxGroup, MaxType, NotAHull, NotAMode}
use Rattle.entry.specs.declared.Rule.TheVariants.{NotASkill, Banned, Points, UnknownType, Numbers}
use Rattle.entry.specs.declared.Entry.{Entry}
use Rattle.entry.specs.Entries.{fields}
use Rattle.skill.specs.Skill.{skill_list}
use Rattle.calls.specs.Answers.{no_result, too_many_skills}

-- listed skills and their levels
pub record Training : Type 0 where
  pub ids : List Id
  pub levels : List ℕ

abbrev pub training_of : Fit → Training
training_of f = record { ids = f.skills; levels = f.levels }

-- the fit with these
abbrev pub trained_as : Fit → Training → Fit
trained_as f t = record { frame = f.frame; skills = t.ids; levels = t.levels; items = f.items; results = f.results }

-- with one more in front
abbrev pub behind : Id → ℕ → Training → Training
behind i l t = record { ids = i ∷ t.ids; levels = l ∷ t.levels }

-- a skill's level raised by so many; one that is not listed goes to its place in ascending order, at that level
unfoldable pub raised : List Id → List ℕ → Id → ℕ → Training
raised [] ls t by = record { ids = t ∷ []; levels = by ∷ [] }
raised (i ∷ is) [] t by = record { ids = i ∷ is; levels = [] }
raised (i ∷ is) (l ∷ ls) t by =
    cond (same i t) (record { ids = i ∷ is; levels = (l + by) ∷ ls })
    (cond (lt_z t i) (record { ids = t ∷ i ∷ is; levels = by ∷ l ∷ ls }) (behind i l (raised is ls t by)))

-- the skill that an entry of a skill list is about
unfoldable pub skill_of : Rule → Id
skill_of (Skill type required level) = type
skill_of (Resource resource used available) = pos 0
skill_of (Slots slot used available) = pos 0
skill_of (WrongSlot expected) = pos 0
skill_of NotAModule = pos 0
skill_of NotADrone = pos 0
skill_of NotAFighter = pos 0
skill_of NotAnImplant = pos 0
skill_of SlotTaken = pos 0
skill_of (WrongSlotIndex expected) = pos 0
skill_of SubsystemTaken = pos 0
skill_of (RigSize ship item) = pos 0
skill_of ShipRestricted = pos 0
skill_of CapitalItem = pos 0
skill_of StructureItem = pos 0
skill_of ShipItem = pos 0
skill_of (MaxGroup group limit used allowed) = pos 0
skill_of (MaxType type used allowed) = pos 0
skill_of NotAHull = pos 0
skill_of NotAMode = pos 0
skill_of (NotASkill type) = pos 0
skill_of (Banned group) = pos 0
skill_of (Points used allowed) = pos 0
skill_of (UnknownType type) = pos 0
skill_of (Numbers rule sub a b c d) = pos 0

-- what it lacks: required less trained, the second and the third word of its payload
unfoldable pub lacking : Rule → ℕ
lacking r = get_or (fields r).2 1 0 - get_or (fields r).2 2 0

-- the first entry's skill is raised by one; with no entry nothing changes
unfoldable pub step_by : Fit → List Entry → Fit
step_by f [] = f
step_by f (e ∷ es) = trained_as f (raised f.skills f.levels (skill_of e.rule) 1)

module _ (c : Catalogue) (n : ℕ) where
  -- one step for result number n
  unfoldable pub step : Fit → Fit
  step f = step_by f (skill_list c f n)

  -- so many
  unfoldable pub trained_by : ℕ → Fit → Fit
  trained_by zero f = f
  trained_by (suc k) f = trained_by k (step f)

  -- 16: the entries of the first list whose ids are not listed would carry the listed skills over 1,024, whatever the steps
  unfoldable pub too_many_listed : Fit → Bool
  too_many_listed f =
      let unlisted : Entry → Bool = λ e. not (contains (skill_of e.rule) f.skills) in
      ltb Sizes.most_skills (length f.skills + count_of unlisted (skill_list c f n))

-- 8 and 9 as the skill call gives them, then 16
abbrev pub train_refusals : Catalogue → Fit → (result : ℕ) → List (ℕ × Bool)
train_refusals c f result =
    (Refusals.no_result, no_result f result)
    ∷ (Refusals.too_many_skills, too_many_skills c f result)
    ∷ (Refusals.too_many_listed, too_many_listed c result f)
    ∷ []

-- the image b with other skills and levels: their number, the other sizes and ids as they stand, they themselves, all behind them as it
-- stands
unfoldable pub trained_image : List ℕ → Training → List ℕ
trained_image b t =
    le 4 (length t.ids)
    ++ (take 24 (drop 4 b)
    ++ (each t.ids (λ i. le 4 (bits32 i))
    ++ (t.levels
    ++ drop (items_at b) b)))
