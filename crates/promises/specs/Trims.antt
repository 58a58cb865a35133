-- Document 02, P1: what a caller has after the trimming call, what it means that a fit's calls answer the same under two catalogues, what a
-- fit touches, and that what is kept is copied byte for byte; an image that is trimmed, catalogues under which the fit's calls answer
-- otherwise, catalogues that keep more or less than it touches, and bytes that are no copies.
use Rattle.std.specs.Prelude.{ℕ, ◌+◌, ◌*◌, ◌<◌, ◌≡◌, T, ◌⊎◌, ◌↔◌, ltb, pos, length, get_or, set, replicate}
use mathlib.Core.List.{List, [], ◌∷◌, ◌++◌, Memᴰ}
use Rattle.words.specs.Words.{any_of, only, from, contains}
use Rattle.image.specs.Bytes.{u8_at, i32_at}
use Rattle.catalogue.specs.Catalogue.{Id, TypeData, Link, Base, Catalogue, catalogue_of}
use Rattle.catalogue.specs.Catalogue.{name_count, effect_count, type_count, link_count, base_count}
use Rattle.catalogue.specs.Catalogue.{names_at, types_at, links_at, bases_at, size_of}
use Rattle.fit.specs.Fit.{Item, Result, Fit, fit_of, all_results}
use Rattle.numbers.specs.declared.SlotKind.TheVariants.{Medium}
use Rattle.entry.specs.declared.Rule.TheVariants.{Skill, WrongSlot}
use Rattle.entry.specs.declared.Entry.{Entry}
use Rattle.entry.specs.Entries.{on_ship, on_item}
use Rattle.skill.specs.Skill.{wants_too_many}
use Rattle.skill.specs.Wanted.{Wanted}
use Rattle.lists.specs.Terms.{Terms, main}
use Rattle.calls.specs.Answers.{Listed}
use Rattle.calls.specs.Output.{Written, output_word, filled}
use Rattle.fitcheck.specs.Calls.{list_call, skill_call}
use Rattle.trim.specs.Trim.{touched, trimmed_image}
use Rattle.fitcheck.specs.Trim.{trim_call}
use Rattle.promises.specs.Answers.{Outcome, Conditions, catalogue_conditions, fit_conditions}
use Rattle.promises.specs.TrimCases.{holding, nine, fifteen, twenty, touching, WHOLE, FLOWN, SMALL, SHIPLESS}

-- ---- the call as a caller sees it
abbrev pub trim_outcome : (catalogue fit buffer : List ℕ) → Outcome
trim_outcome catalogue fit buffer =
    let o = trim_call catalogue fit buffer in
    record { word = output_word o; buffer = filled buffer o }

-- the bytes of the catalogue that is written
abbrev pub trimmed_bytes : (catalogue fit : List ℕ) → List ℕ
trimmed_bytes catalogue fit = trimmed_image catalogue (touched (catalogue_of catalogue) (fit_of fit))

-- behind 1 to 6. 9: any result, the ship's and the character's among them, wants over 512 distinct skills. 10: the buffer is shorter than
-- the trimmed catalogue
abbrev pub trim_own : (catalogue fit buffer : List ℕ) → Conditions
trim_own catalogue fit buffer =
    (9, any_of (wants_too_many 512 (catalogue_of catalogue)) (all_results (fit_of fit)))
    ∷ (10, ltb (length buffer) (length (trimmed_bytes catalogue fit)))
    ∷ []

abbrev pub trim_conditions : (catalogue fit buffer : List ℕ) → Conditions
trim_conditions catalogue fit buffer = catalogue_conditions catalogue ++ (fit_conditions fit ++ trim_own catalogue fit buffer)

-- ---- the list call and every skill call of a fit answer the same under two catalogues, whatever else they bring: which refusal, or which
-- entries
pub record SameAnswers (fit one other : List ℕ) : Type 0 where
  pub lists : (t : Terms) (buffer : List ℕ) → list_call t one fit buffer ≡ list_call t other fit buffer
  pub skills : (t : Terms) (result : ℕ) (buffer : List ℕ) → skill_call t one fit result buffer ≡ skill_call t other fit result buffer

-- ---- what a fit touches
-- an id that it names: its ship's; its mode's, where the flag says that one is given; a listed skill; the type of an item, paired or not,
-- in any quantity
pub data Named (f : Fit) (id : Id) : Type 0 where
  as_ship : id ≡ f.frame.ship → Named f id
  as_mode : 0 < f.frame.mode_flag → id ≡ f.frame.mode → Named f id
  as_skill : Memᴰ id f.skills → Named f id
  as_item : (i : Item) → Memᴰ i f.items → id ≡ i.type → Named f id

-- one that it names, or a skill that a result of it wants, the ship's and the character's among them
abbrev pub Touched : Catalogue → Fit → Id → Type 0
Touched c f id = Named f id ⊎ ((r : Result) × Memᴰ r (all_results f) × Wanted c r id)

-- a catalogue has those types, links and bases of another whose ids a fit touches, and no others; `touched` is those ids
pub record TouchedAlone (c : Catalogue) (f : Fit) (new : Catalogue) : Type 0 where
  pub types : (x : TypeData) → Memᴰ x new.types ↔ (Memᴰ x c.types × Touched c f x.id)
  pub links : (x : Link) → Memᴰ x new.links ↔ (Memᴰ x c.links × Touched c f x.type)
  pub bases : (x : Base) → Memᴰ x new.bases ↔ (Memᴰ x c.bases × Touched c f x.type)
  pub ids : (id : Id) → T (contains id (touched c f)) ↔ Touched c f id

-- ---- what is copied byte for byte
-- so many bytes of an image, from a place on, are those of another, from a place of its own on
abbrev pub SameBytes : (new : List ℕ) (to : ℕ) (old : List ℕ) (at many : ℕ) → Type 0
SameBytes new to old at many = (c : ℕ) → c < many → u8_at new (to + c) ≡ u8_at old (at + c)

module _ (old : List ℕ) (ids : List Id) (new : List ℕ) where
  -- of a block by type, whose values have a width: the records are as many as those of the old block under the ids, and record k is the
  -- k-th of these, the bytes of its key and of its value
  abbrev pub BlockCopied : (at count : List ℕ → ℕ) (width : ℕ) → Type 0
  BlockCopied at count width =
      let kept = only (λ i. contains (i32_at old (at old + 4 * i)) ids) (from 0 (count old)) in
      (count new ≡ length kept)
      × ((k : ℕ) → k < length kept
      → SameBytes new (at new + 4 * k) old (at old + 4 * get_or kept k 0) 4
      × SameBytes new (at new + 4 * count new + width * k) old (at old + 4 * count old + width * get_or kept k 0) width)

  -- N and E; all names and effects; types, links and bases; and no byte behind them
  pub record CopiedUnder : Type 0 where
    pub sizes : SameBytes new 0 old 0 8
    pub front : SameBytes new (names_at new) old (names_at old) (8 * name_count old + 8 * effect_count old)
    pub types : BlockCopied types_at type_count 16
    pub links : BlockCopied links_at link_count 4
    pub bases : BlockCopied bases_at base_count 12
    pub size : length new ≡ size_of new

-- ---- the fit of the table and its catalogue: of item 9, whose link marks it for a Medium slot, the list has one entry; the character
-- wants skill 15, which has no type, and by way of its bases skill 21
abbrev ROOM : List ℕ
ROOM = replicate 432 7

abbrev Lists : (catalogue : List ℕ) → List Entry → Type 0
Lists catalogue es = list_call main catalogue FLOWN ROOM ≡ Listed es

abbrev Lacks : (catalogue : List ℕ) → List Entry → Type 0
Lacks catalogue es = skill_call main catalogue FLOWN 1 ROOM ≡ Listed es

abbrev faults : List Entry
faults = on_item 0 (WrongSlot Medium) ∷ []

abbrev lacking : List Entry
lacking = on_ship (Skill (pos 15) 1 0) ∷ on_ship (Skill (pos 21) 5 0) ∷ []

-- what is trimmed, but without the link that marks item 9; without what stands under an id that has no type; without a listed skill.
-- `SHIPLESS` is it without the ship
abbrev UNLINKED : List ℕ
UNLINKED =
    holding ((1, 6) ∷ (9, 7) ∷ (12, 8) ∷ (16, 16) ∷ (20, 16) ∷ (21, 16) ∷ [])
    ((1, 4) ∷ (9, 4) ∷ (9, 4) ∷ (9, 4) ∷ (15, 3) ∷ [])
    (((1, 6, 4, 5) ∷ []) ++ fifteen ++ twenty)

abbrev TYPED : List ℕ
TYPED =
    holding ((1, 6) ∷ (9, 7) ∷ (12, 8) ∷ (16, 16) ∷ (20, 16) ∷ (21, 16) ∷ [])
    (((1, 4) ∷ []) ++ nine)
    (((1, 6, 4, 5) ∷ []) ++ twenty)

abbrev UNSKILLED : List ℕ
UNSKILLED = touching ((1, 6) ∷ (9, 7) ∷ (12, 8) ∷ (16, 16) ∷ (21, 16) ∷ [])

-- a catalogue of what the fit touches
abbrev pub Touching : List ℕ → Type 0
Touching new = TouchedAlone (catalogue_of WHOLE) (fit_of FLOWN) (catalogue_of new)

-- a copy of what is kept
abbrev pub Copy : List ℕ → Type 0
Copy new = CopiedUnder WHOLE (touched (catalogue_of WHOLE) (fit_of FLOWN)) new

pub record TrimExample : Type 0 where
  pub trims : trim_call WHOLE FLOWN ROOM ≡ Written SMALL
  pub once_more : trim_call SMALL FLOWN ROOM ≡ Written SMALL
  pub list : Lists WHOLE faults
  pub small_list : Lists SMALL faults
  pub skills : Lacks WHOLE lacking
  pub small_skills : Lacks SMALL lacking
  -- all of it is not what is written, nor is less than the trimmed one; under none of these do the calls answer the same
  pub not_whole : trim_call WHOLE FLOWN ROOM ≡ Written WHOLE → ⊥
  pub not_typed : trim_call WHOLE FLOWN ROOM ≡ Written TYPED → ⊥
  pub unlinked : SameAnswers FLOWN UNLINKED WHOLE → ⊥
  pub typed : SameAnswers FLOWN TYPED WHOLE → ⊥
  pub unskilled : SameAnswers FLOWN UNSKILLED WHOLE → ⊥
  pub shipless : SameAnswers FLOWN SHIPLESS WHOLE → ⊥
  -- all of it has types that the fit does not touch, and without a listed skill, without what stands under an id that has no type, and
  -- without a link of an item it lacks what the fit touches
  pub not_all : Touching WHOLE → ⊥
  pub not_unskilled : Touching UNSKILLED → ⊥
  pub not_untyped : Touching TYPED → ⊥
  pub not_unlinked : Touching UNLINKED → ⊥
  -- no copies, though they decode to what is trimmed: the first type's volume bits, under flag 0, the third's NaN, under flag 1, and that
  -- of the second base are others
  pub as_flagless : catalogue_of (set SMALL 80 0) ≡ catalogue_of SMALL
  pub not_flagless : Copy (set SMALL 80 0) → ⊥
  pub as_volume : catalogue_of (set SMALL 112 0) ≡ catalogue_of SMALL
  pub not_other_volume : Copy (set SMALL 112 0) → ⊥
  pub as_value : catalogue_of (set SMALL 252 0) ≡ catalogue_of SMALL
  pub not_other_value : Copy (set SMALL 252 0) → ⊥
  -- nor where one byte is another: the last of E, the last of the effect's mark, the first of the third type's key, of the third link's
  -- key and of its effect, the last of the last base's; nor with fewer links, nor with a byte more
  pub not_other_size : Copy (set SMALL 7 1) → ⊥
  pub not_other_mark : Copy (set SMALL 43 1) → ⊥
  pub not_other_type : Copy (set SMALL 52 13) → ⊥
  pub not_other_link : Copy (set SMALL 172 8) → ⊥
  pub not_other_effect : Copy (set SMALL 196 4) → ⊥
  pub not_other_base : Copy (set SMALL 307 1) → ⊥
  pub not_fewer : Copy TYPED → ⊥
  pub not_longer : Copy (SMALL ++ (0 ∷ [])) → ⊥
