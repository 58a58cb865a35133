-- Document 01, "Two fits compared": demand 3 of what two exported calls have left, their words and their buffers; and document 02, P7.
use Rattle.std.specs.Prelude.{ℕ, ◌≤◌, ◌≡◌, length}
use mathlib.Core.List.{List, Memᴰ}
use Rattle.catalogue.specs.Catalogue.{catalogue_of}
use Rattle.fit.specs.Fit.{fit_of}
use Rattle.promises.specs.Answers.{Outcome, refusal, entries_of}
use Rattle.promises.specs.Compare.{Grown, AddedVolumes, Kept}
use Rattle.promises.specs.Hauls.{Hauled, outside_hold, in_hold, StaysIn}

-- the word that a call returned, and its buffer afterwards
abbrev pub left : ℕ → List ℕ → Outcome
left word buffer = record { word = word; buffer = buffer }

-- two answered list calls
abbrev pub ListsKept : (catalogue old new : List ℕ) → Outcome → Outcome → Type 0
ListsKept catalogue old new o o' =
    Grown (fit_of old) (fit_of new) → AddedVolumes (catalogue_of catalogue) (fit_of old) (fit_of new) → refusal o ≡ 0 → refusal o' ≡ 0 → Kept o o'

-- two answered skill calls for one result
abbrev pub SkillsKept : (old new : List ℕ) → Outcome → Outcome → Type 0
SkillsKept old new o o' = Grown (fit_of old) (fit_of new) → refusal o ≡ 0 → refusal o' ≡ 0 → Kept o o'

-- P7: an answered list call has one entry of the hold at most
abbrev pub HeldOnce : Outcome → Type 0
HeldOnce o = refusal o ≡ 0 → length (in_hold o) ≤ 1

-- two answered list calls, with Cargo put behind the old fit. Outside the hold all entries are the same, byte for byte; and where the added
-- volumes are finite and not below zero, one of the hold that was there is there, its used number no lower
abbrev pub ListsHauled : (catalogue old new : List ℕ) → Outcome → Outcome → Type 0
ListsHauled catalogue old new o o' =
    Hauled (fit_of old) (fit_of new) → refusal o ≡ 0 → refusal o' ≡ 0
    → (outside_hold o ≡ outside_hold o')
    × (AddedVolumes (catalogue_of catalogue) (fit_of old) (fit_of new) → (e : List ℕ) → Memᴰ e (in_hold o) → StaysIn (in_hold o') e)

-- two answered skill calls for one result, likewise
abbrev pub SkillsHauled : (old new : List ℕ) → Outcome → Outcome → Type 0
SkillsHauled old new o o' = Hauled (fit_of old) (fit_of new) → refusal o ≡ 0 → refusal o' ≡ 0 → entries_of o ≡ entries_of o'
