-- Document 02, P11: what a caller has after the training call, how many levels are missing, and what one step does to a skill list; an
-- image that is trained step by step, and lists that no step leads to.
use Rattle.std.specs.Prelude.{ℕ, ◌+◌, ◌*◌, ◌≡◌, false, not, List, [], ◌∷◌, ◌++◌, ◌⊎◌, ltb, pos, length, get_or, set, take, drop, replicate}
use Rattle.words.specs.Words.{count_of, sum_of, given, contains}
use Rattle.catalogue.specs.Catalogue.{Catalogue, catalogue_of}
use Rattle.fit.specs.Fit.{Fit, fit_of, result_at}
use Rattle.entry.specs.declared.Rule.TheVariants.{Skill}
use Rattle.entry.specs.declared.Entry.{Entry}
use Rattle.entry.specs.Entries.{fields, on_item}
use Rattle.skill.specs.Skill.{wants_too_many, skill_list}
use Rattle.training.specs.Training.{training_of, skill_of, lacking, trained_by, trained_image}
use Rattle.calls.specs.Output.{Written, output_word, filled}
use Rattle.fitcheck.specs.Train.{train_call}
use Rattle.promises.specs.Answers.{Outcome, Conditions, catalogue_conditions, fit_conditions}
use Rattle.promises.specs.Compare.{Bytes}
use Rattle.promises.specs.TrainCases.{demanding, pilot}

-- ---- the call as a caller sees it
abbrev pub train_outcome : (catalogue fit : List ℕ) (result steps : ℕ) (buffer : List ℕ) → Outcome
train_outcome catalogue fit result steps buffer =
    let o = train_call catalogue fit result steps buffer in
    record { word = output_word o; buffer = filled buffer o }

-- the bytes of the fit that the steps lead to: the old one's, but for skills and levels
abbrev pub trained_bytes : (catalogue fit : List ℕ) (result steps : ℕ) → List ℕ
trained_bytes catalogue fit result steps = trained_image fit (training_of (trained_by (catalogue_of catalogue) result steps (fit_of fit)))

-- behind 1 to 6: 8 and 9 as the skill call has them. 16: the entries of the first list whose ids are not listed would carry the listed skills
-- over 1,024, whatever the steps. 10: the buffer is shorter than the fit after the steps
abbrev pub train_own : (catalogue fit : List ℕ) (result steps : ℕ) (buffer : List ℕ) → Conditions
train_own catalogue fit result steps buffer =
    let c = catalogue_of catalogue in
    let f = fit_of fit in
    (8, ltb (length f.results + 1) result)
    ∷ (9, given (result_at f result) false (wants_too_many 512 c))
    ∷ (16, ltb 1024 (length f.skills + count_of (λ (e : Entry). not (contains (skill_of e.rule) f.skills)) (skill_list c f result)))
    ∷ (10, ltb (length buffer) (length (trained_bytes catalogue fit result steps)))
    ∷ []

abbrev pub train_conditions : (catalogue fit : List ℕ) (result steps : ℕ) (buffer : List ℕ) → Conditions
train_conditions catalogue fit result steps buffer =
    catalogue_conditions catalogue ++ (fit_conditions fit ++ train_own catalogue fit result steps buffer)

-- ---- levels that are missing: required less trained, over a list
abbrev pub missing : List Entry → ℕ
missing es = sum_of (λ (e : Entry). lacking e.rule) es

-- ---- the skill list of result n after so many steps
abbrev pub list_after : Catalogue → (n : ℕ) → Fit → ℕ → List Entry
list_after c n f steps = skill_list c (trained_by c n steps f) n

-- an entry with one level more: the last of skill, required and trained
abbrev pub one_level_more : Entry → Entry
one_level_more e =
    let words = (fields e.rule).2 in
    record { target = e.target; rule = Skill (skill_of e.rule) (get_or words 1 0) (get_or words 2 0 + 1) }

-- the list after one more step: its first entry is gone, or has one level more; every other is as it was
abbrev pub Onward : List Entry → List Entry → Type 0
Onward [] after = after ≡ []
Onward (e ∷ es) after = (after ≡ es) ⊎ (after ≡ one_level_more e ∷ es)

-- ---- what is copied byte for byte: the sizes and the frame's ids, bytes 4 to 27, and all that stands behind the listed skills
abbrev behind_skills : List ℕ → List ℕ
behind_skills b = drop (28 + 5 * length (fit_of b).skills) b

abbrev pub Copied : (old new : List ℕ) → Type 0
Copied old new = (take 24 (drop 4 new) ≡ take 24 (drop 4 old)) × (behind_skills new ≡ behind_skills old)

-- ---- an image: skills 10 at 1 and 20 at 4; result 2 wants 15 at 2, for that 20 at 5, and 10 at 3. Five levels are missing
abbrev pub PILOT : List ℕ
PILOT = pilot (10 ∷ 20 ∷ []) (1 ∷ 4 ∷ [])

abbrev lacks : (skill required level : ℕ) → Entry
lacks skill required level = on_item 0 (Skill (pos skill) required level)

abbrev first : List Entry
first = lacks 15 2 0 ∷ lacks 10 3 1 ∷ lacks 20 5 4 ∷ []

-- what the call writes after so many steps
abbrev Gives : ℕ → List ℕ → Type 0
Gives steps bytes = train_call demanding PILOT 2 steps (replicate 105 7) ≡ Written bytes

-- the image after one step: 15 is listed at 1
abbrev pub STEPPED : List ℕ
STEPPED = pilot (10 ∷ 15 ∷ 20 ∷ []) (1 ∷ 1 ∷ 4 ∷ [])

-- its skill list after so many
abbrev Lists : ℕ → List Entry → Type 0
Lists steps es = list_after (catalogue_of demanding) 2 (fit_of PILOT) steps ≡ es

pub record TrainExample : Type 0 where
  pub none_yet : Gives 0 PILOT
  pub one : Gives 1 STEPPED
  pub last_but_one : Gives 4 (pilot (10 ∷ 15 ∷ 20 ∷ []) (3 ∷ 2 ∷ 4 ∷ []))
  pub last : Gives 5 (pilot (10 ∷ 15 ∷ 20 ∷ []) (3 ∷ 2 ∷ 5 ∷ []))
  pub one_more : Gives 6 (pilot (10 ∷ 15 ∷ 20 ∷ []) (3 ∷ 2 ∷ 5 ∷ []))
  pub five : missing first ≡ 5
  pub list_0 : Lists 0 first
  pub list_1 : Lists 1 (lacks 15 2 1 ∷ lacks 10 3 1 ∷ lacks 20 5 4 ∷ [])
  pub list_2 : Lists 2 (lacks 10 3 1 ∷ lacks 20 5 4 ∷ [])
  pub list_4 : Lists 4 (lacks 20 5 4 ∷ [])
  pub list_5 : Lists 5 []
  -- both ways on, and none of these: nothing done, two levels at once, the last raised, the last gone, all gone, one added
  pub raised : Onward first (lacks 15 2 1 ∷ lacks 10 3 1 ∷ lacks 20 5 4 ∷ [])
  pub gone : Onward first (lacks 10 3 1 ∷ lacks 20 5 4 ∷ [])
  pub not_still : Onward first first → ⊥
  pub not_two : Onward first (lacks 15 2 2 ∷ lacks 10 3 1 ∷ lacks 20 5 4 ∷ []) → ⊥
  pub not_the_last : Onward first (lacks 15 2 0 ∷ lacks 10 3 1 ∷ lacks 20 5 5 ∷ []) → ⊥
  pub not_another_gone : Onward first (lacks 15 2 0 ∷ lacks 10 3 1 ∷ []) → ⊥
  pub not_all : Onward first [] → ⊥
  pub not_added : Onward first (lacks 9 1 0 ∷ first) → ⊥
  pub not_from_none : Onward [] (lacks 9 1 0 ∷ []) → ⊥
  -- copied, and not where one byte is another: the second of the items' number, the ship's last, the mode's last, the first behind the skills,
  -- the last of all; nor with one byte more or less
  pub bytes : Bytes PILOT
  pub itself : Copied PILOT PILOT
  pub copied : Copied PILOT STEPPED
  pub not_other_items : Copied PILOT (set STEPPED 5 1) → ⊥
  pub not_other_ship : Copied PILOT (set STEPPED 19 1) → ⊥
  pub not_other_mode : Copied PILOT (set STEPPED 27 1) → ⊥
  pub not_other_result : Copied PILOT (set STEPPED 43 1) → ⊥
  pub not_other_value : Copied PILOT (set STEPPED 102 1) → ⊥
  pub not_longer : Copied PILOT (STEPPED ++ (0 ∷ [])) → ⊥
  pub not_shorter : Copied PILOT (take 102 STEPPED) → ⊥
