-- Document 02, P9: what a caller has after the call that gives the smallest part of a fit that shows an entry, which pairs those are, what
-- the same entry is in bytes, and which entries look at no pair; an image, and parts of it that are not the answer.
use Rattle.std.specs.Prelude.{ℕ, ◌*◌, ◌/◌, ◌<◌, ◌≡◌, Bool, true, false, not, ◌&&◌, ◌||◌, T, eqb, leb, ltb, length, replicate}
use Rattle.std.specs.Prelude.{slice_get, Some}
use mathlib.Core.List.{List, [], ◌∷◌, ◌++◌, Memᴰ}
use Rattle.words.specs.Words.{any_of, count_of, in_order, table}
use Rattle.numbers.specs.Slots as Slots
use Rattle.numbers.specs.Resources as Resources
use Rattle.numbers.specs.declared.Resource.TheVariants.{LaunchedDrones, CargoBay}
use Rattle.numbers.specs.declared.SlotKind.TheVariants.{High, Medium}
use Rattle.image.specs.Bytes.{u8_at, u32_at}
use Rattle.floats.specs.Floats.{is_volume}
use Rattle.catalogue.specs.Catalogue.{Catalogue, catalogue_of}
use Rattle.fit.specs.Fit.{Fit, fit_of}
use Rattle.entry.specs.declared.Rule.TheVariants.{Slots, WrongSlot}
use Rattle.entry.specs.declared.Entry.{Entry}
use Rattle.entry.specs.Entries.{fields, place, on_ship, on_item, entry_bytes}
use Rattle.context.specs.Context.{Pair, pairs, is_in}
use Rattle.lists.specs.Terms.{main}
use Rattle.lists.specs.Lists.{whole_list}
use Rattle.parts.specs.Parts.{holds, Inside, numbers_of, part_of}
use Rattle.cause.specs.Cause.{shows, cause_bytes}
use Rattle.calls.specs.Output.{Output, Withheld, Written, output_word, filled}
use Rattle.fitcheck.specs.Cause.{cause_call}
use Rattle.promises.specs.Answers.{Outcome, count, Conditions, catalogue_conditions, fit_conditions}
use Rattle.promises.specs.Compare.{Bytes}
use Rattle.promises.specs.CallCases.{words, small}
use Rattle.promises.specs.CauseCases.{THREE}

-- ---- the call as a caller sees it
abbrev pub cause_outcome : (catalogue fit : List ℕ) (position : ℕ) (buffer : List ℕ) → Outcome
cause_outcome catalogue fit position buffer =
    let o = cause_call catalogue fit position buffer in
    record { word = output_word o; buffer = filled buffer o }

-- the officer's list, without a profile: positions count in it
abbrev pub listed : (catalogue fit : List ℕ) → List Entry
listed catalogue fit = whole_list main (catalogue_of catalogue) (fit_of fit)

-- behind 1 to 6. 14: the list ends before the position. 15: some pair in Cargo, whatever the entry, has a volume that is not finite or is
-- below zero. 10: the buffer is shorter than four bytes a kept pair
abbrev pub cause_own : (catalogue fit : List ℕ) (position : ℕ) (buffer : List ℕ) → Conditions
cause_own catalogue fit position buffer =
    let c = catalogue_of catalogue in
    let f = fit_of fit in
    (14, leb (length (listed catalogue fit)) position)
    ∷ (15, any_of (λ (p : Pair). is_in Slots.cargo p && not (is_volume p.volume)) (pairs c f))
    ∷ (10, ltb (length buffer) (length (cause_bytes c f position)))
    ∷ []

abbrev pub cause_conditions : (catalogue fit : List ℕ) (position : ℕ) (buffer : List ℕ) → Conditions
cause_conditions catalogue fit position buffer =
    catalogue_conditions catalogue ++ (fit_conditions fit ++ cause_own catalogue fit position buffer)

-- ---- the kept pairs, as they are read from what an answered call left: their numbers, and as flags of n pairs
abbrev pub kept_numbers : Outcome → List ℕ
kept_numbers o = table (count o / 4) λ i. u32_at o.buffer (4 * i)

abbrev pub kept_of : ℕ → Outcome → List Bool
kept_of n o = table n λ i. any_of (eqb i) (kept_numbers o)

-- numbers of n pairs, ascending, four bytes each
pub record Numbers (n : ℕ) (o : Outcome) : Type 0 where
  pub four : count o ≡ 4 * length (kept_numbers o)
  pub ascend : T (in_order ltb (kept_numbers o))
  pub below : (i : ℕ) → Memᴰ i (kept_numbers o) → i < n

-- of n pairs all before one, not that one, and of those behind it the kept ones
abbrev pub without : (n : ℕ) → (kept : List Bool) → ℕ → List Bool
without n kept i = table n λ j. ltb j i || (ltb i j && holds kept j)

-- ---- a set shows an entry of a fit, and no smaller one does: without any one or more of its pairs the entry is gone
pub record Least (c : Catalogue) (f : Fit) (e : Entry) (kept : List Bool) : Type 0 where
  pub still : T (shows c f e kept)
  pub gone : (s : List Bool) (i : ℕ) → Inside s kept → T (holds kept i) → (T (holds s i) → ⊥) → T (shows c f e s) → ⊥

-- ---- the same entry, in bytes: of a list, and of the list of a part whose pairs have these numbers in the fit
-- the rules that carry an id, in their first word: Skill, MaxGroup, MaxType, NotASkill, UnknownType
abbrev pub carries_id : (rule : ℕ) → Bool
carries_id rule = any_of (eqb rule) (11 ∷ 17 ∷ 18 ∷ 21 ∷ 26 ∷ [])

-- target, rule and sub are equal, and the id where the rule carries one; all else may be other, used and level numbers among it. An entry
-- about an item is about the same one: a pair of the part, whose index there is how many of them stand before it
pub record SameEntry (numbers : List ℕ) (old new : List ℕ) : Type 0 where
  pub target : u8_at new 0 ≡ u8_at old 0
  pub rule : u8_at new 1 ≡ u8_at old 1
  pub sub : u8_at new 2 ≡ u8_at old 2
  pub item : u8_at old 0 ≡ 1 → Memᴰ (u32_at old 4) numbers × (u32_at new 4 ≡ count_of (λ k. ltb k (u32_at old 4)) numbers)
  pub id : T (carries_id (u8_at old 1)) → u32_at new 8 ≡ u32_at old 8

-- the list of a part has it
abbrev pub Seen : Catalogue → Fit → Entry → List Bool → Type 0
Seen c f e s = (x : Entry) × Memᴰ x (whole_list main c (part_of f s)) × SameEntry (numbers_of s) (entry_bytes e) (entry_bytes x)

-- ---- an entry on the ship that looks at no pair: any but Slots, a league's points, launched drones and the hold
abbrev pub looks_at_pairs : (rule sub : ℕ) → Bool
looks_at_pairs rule sub =
    eqb rule 2 || eqb rule 25 || (eqb rule 1 && (eqb sub (Resources.number LaunchedDrones) || eqb sub (Resources.number CargoBay)))

abbrev pub of_the_ship : Entry → Bool
of_the_ship e = eqb (place e.target).0 0 && not (looks_at_pairs (fields e.rule).0 (fields e.rule).1)

-- ---- an image: three items in High slots of a ship that has one, each marked for Medium slots; so the rack has an entry, then each item
abbrev ROOM : List ℕ
ROOM = replicate 12 7

abbrev pub crowd : Entry
crowd = on_ship (Slots High 3 1)

abbrev second : Entry
second = on_item 1 (WrongSlot Medium)

abbrev Gives : (position : ℕ) → Output → Type 0
Gives position o = cause_call small THREE position ROOM ≡ o

-- a set of its pairs is least for an entry
abbrev pub Enough : Entry → (one two three : Bool) → Type 0
Enough e one two three = Least (catalogue_of small) (fit_of THREE) e (one ∷ two ∷ three ∷ [])

pub record CauseExample : Type 0 where
  pub bytes : Bytes THREE
  pub at_0 : slice_get (listed small THREE) 0 ≡ Some crowd
  pub at_2 : slice_get (listed small THREE) 2 ≡ Some second
  pub of_the_rack : Gives 0 (Written (words (0 ∷ 1 ∷ [])))
  pub of_the_second : Gives 2 (Written (words (1 ∷ [])))
  pub beyond : Gives 4 (Withheld 14)
  -- two of three would do as well, but are not what is left in turn; all three, one and none are not least
  pub not_the_last : Gives 0 (Written (words (1 ∷ 2 ∷ []))) → ⊥
  pub not_all : Enough crowd true true true → ⊥
  pub not_one : Enough crowd true false false → ⊥
  pub not_none : Enough crowd false false false → ⊥
  -- of an item's entry: not without the item, nor with another beside it
  pub not_others : Enough second true false true → ⊥
  pub not_beside : Enough second true true false → ⊥
