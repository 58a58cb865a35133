-- Worked cases: an input and the outcome expected of it. What an input is, what the definitions make of it, and words to write inputs with.
use Rattle.std.specs.Prelude.{ℕ, ◌+◌, Bool, false, List, [], ◌∷◌, map, ℤ, pos, negsuc, Float}
use Rattle.std.specs.Float.{fin}
use Rattle.words.specs.Words.{from, first_of}
use Rattle.numbers.specs.Names.{required_skill1, required_skill1_level, required_skill2, required_skill2_level}
use Rattle.image.specs.Bytes.{le}
use Rattle.floats.specs.Floats.{zero_f, of_nat, to_u, to_i32, over}
use Rattle.catalogue.specs.Catalogue.{Id, TypeData, Link, Base, Catalogue}
use Rattle.catalogue.specs.Refusals.{bad_length}
use Rattle.widening.specs.Widen.{wide_bits}
use Rattle.fit.specs.Fit.{Attribute, Item, Result, Fit}
use Rattle.fit.specs.Refusals.{bad_size}
use Rattle.entry.specs.declared.Entry.{Entry}
use Rattle.entry.specs.Entries.{entry_bytes}
use Rattle.profile.specs.Profile.{profile_refusal}
use Rattle.lists.specs.Terms.{Terms, main}
use Rattle.lists.specs.Lists.{whole_list, list_for}
use Rattle.skill.specs.Skill.{Demand, wanted_skills, wants_too_many, skill_list}
use Rattle.calls.specs.Answers.{returned, buffered, over_pairs, over_skills, skill_refusals}
use Rattle.fitcheck.specs.Calls.{list_call, skill_call}
use Rattle.fitcheck.specs.Hall.{hall_call, hall_returned}
use Rattle.calls.specs.Output.{output_word, filled}
use Rattle.fitcheck.specs.Widen.{widen_call}
use Rattle.training.specs.Training.{train_refusals}
use Rattle.fitcheck.specs.Train.{train_call}
use Rattle.trim.specs.Trim.{trim_refusals}
use Rattle.fitcheck.specs.Trim.{trim_call}
use Rattle.cause.specs.Cause.{cause_refusals, cause_bytes}
use Rattle.fitcheck.specs.Cause.{cause_call}
use Rattle.leave_out.specs.LeaveOut.{tries_made, leave_out_bytes}
use Rattle.fitcheck.specs.LeaveOut.{leave_out_call}
use Rattle.promises.specs.Before.{list_before}

-- ---- a catalogue: types with their groups and categories in the game
-- the attribute of name n
abbrev pub attribute : ℕ → Id
attribute n = pos (100 + n)

abbrev pub typed : (id group category : ℕ) → TypeData
typed id group category = record { id = pos id; group = pos group; category = pos category; volume_flag = 0; volume = zero_f }

-- hulls: a ship of group 25, a structure; 3 to 6 are containers, 7 is none
abbrev pub ship : Id
ship = pos 1

abbrev pub structure : Id
structure = pos 2

-- modules of two groups; one marked for the Medium rack; one marked for High, then Low; a turret and a launcher
abbrev pub gun : Id
gun = pos 10

abbrev pub plate : Id
plate = pos 11

abbrev pub shield : Id
shield = pos 12

abbrev pub relay : Id
relay = pos 13

abbrev pub turret : Id
turret = pos 14

abbrev pub launcher : Id
launcher = pos 15

abbrev pub part : Id
part = pos 16

-- another type of the gun's group; one marked as a turret, then as a launcher
abbrev pub rifle : Id
rifle = pos 18

abbrev pub hybrid : Id
hybrid = pos 19

abbrev pub standup_gun : Id
standup_gun = pos 17

-- what is no module
abbrev pub drone : Id
drone = pos 20

abbrev pub squadron : Id
squadron = pos 21

abbrev pub hardwiring : Id
hardwiring = pos 22

abbrev pub stance : Id
stance = pos 23

abbrev pub gunnery : Id
gunnery = pos 24

-- a volume of 2.5; a volume of 1,000 whose flag is 0
abbrev pub ore : Id
ore = pos 25

abbrev pub ghost : Id
ghost = pos 26

-- volumes of 2 ^ 53 and of 1, which are lost when added to it one by one
abbrev pub vast : Id
vast = pos 27

abbrev pub parcel : Id
parcel = pos 28

abbrev pub unknown : Id
unknown = pos 99

abbrev linked : ℕ → ℕ → Link
linked type mark = record { type = pos type; effect = pos (200 + mark) }

-- the catalogue in which these names have ids; effect 200 + m has mark m, and there is no effect 299
unfoldable pub known : List ℕ → Catalogue
known names = record {
  names = map (λ n. record { number = n; id = attribute n }) names;
  effects = map (λ m. record { id = pos (200 + m); mark = m }) (from 0 9);
  types =
      typed 1 25 6 ∷ typed 2 1657 65 ∷ typed 3 12 2 ∷ typed 4 340 2 ∷ typed 5 448 2 ∷ typed 6 649 2 ∷ typed 7 13 2
      ∷ typed 10 50 7 ∷ typed 11 51 7 ∷ typed 12 52 7 ∷ typed 13 53 7 ∷ typed 14 54 7 ∷ typed 15 55 7 ∷ typed 16 954 32 ∷ typed 17 1562 66
      ∷ typed 18 50 7 ∷ typed 19 56 7
      ∷ typed 20 100 18 ∷ typed 21 1652 87 ∷ typed 22 300 20 ∷ typed 23 1306 7 ∷ typed 24 255 16
      ∷ record { id = pos 25; group = pos 450; category = pos 25; volume_flag = 1; volume = fin false 5 (negsuc 0) }
      ∷ record { id = pos 26; group = pos 450; category = pos 25; volume_flag = 0; volume = fin false 125 (pos 3) }
      ∷ record { id = pos 27; group = pos 450; category = pos 25; volume_flag = 1; volume = fin false 1 (pos 53) }
      ∷ record { id = pos 28; group = pos 450; category = pos 25; volume_flag = 1; volume = fin false 1 (pos 0) } ∷ [];
  links =
      linked 12 2 ∷ linked 12 0 ∷ linked 12 99 ∷ linked 13 1 ∷ linked 13 3 ∷ linked 13 7
      ∷ linked 14 1 ∷ linked 14 7 ∷ linked 15 1 ∷ linked 15 8 ∷ linked 19 7 ∷ linked 19 8 ∷ [];
  bases = [];
}

-- a type's value of a name
abbrev pub base : (type name value : ℕ) → Base
base type name v = record { type = pos type; attribute = attribute name; value = of_nat v }

-- the names of two skills are known; what the types demand
abbrev pub tree : List Base → Catalogue
tree bases = record {
  names =
      map (λ n. record { number = n; id = attribute n })
      (required_skill1 ∷ required_skill1_level ∷ required_skill2 ∷ required_skill2_level ∷ []);
  effects = [];
  types = [];
  links = [];
  bases = bases;
}

-- ---- a fit
-- name n's attribute has a value
abbrev pub has : ℕ → Float → Attribute
has n v = record { id = attribute n; value = v }

abbrev pub result : ℕ → List Attribute → Result
result state attributes = record { state = state; reserved = 0; attributes = attributes }

-- it demands the skill of an amount, at a level
abbrev pub asks_for : Float → ℕ → Result
asks_for skill level = result 0 (has required_skill1 skill ∷ has required_skill1_level (of_nat level) ∷ [])

abbrev pub asks : ℕ → ℕ → Result
asks id level = asks_for (of_nat id) level

-- an item and its result
abbrev pub Thing : Type 0
Thing = Item × Result

-- so many of a type in a slot, in a state
abbrev pub stack : (quantity : ℕ) → Id → (slot index state : ℕ) → List Attribute → Thing
stack quantity type slot index state attributes =
    (record { type = type; quantity = quantity; slot = slot; reserved = 0; index = index }, result state attributes)

-- one, online
abbrev pub one : Id → (slot index : ℕ) → List Attribute → Thing
one type slot index attributes = stack 1 type slot index 1 attributes

-- no mode, no skills; attributes of the hull and of the character
abbrev pub fit_with : Id → List Attribute → List Attribute → List Thing → Fit
fit_with hull attributes character things = record {
  frame = record { ship = hull; mode_flag = 0; mode = pos 0; ship_result = result 0 attributes; character_result = result 0 character };
  skills = [];
  levels = [];
  items = map (λ t. t.0) things;
  results = map (λ t. t.1) things;
}

abbrev pub fit : Id → List Attribute → List Thing → Fit
fit hull attributes things = fit_with hull attributes [] things

-- ---- inputs and outcomes
pub data Input : Type 0 where
  -- a cast to an unsigned integer of so many bits, and to i32
  Unsigned : ℕ → Float → Input
  Signed : Float → Input
  -- used and available; or any used number
  Over : Float → Float → Input
  AnyOver : Float → Input
  -- the list of a fit, and under a profile
  Fitted : Catalogue → Fit → Input
  InLeague : Terms → Catalogue → Fit → Input
  -- the wanted skills of a result; whether they are more than a limit; the skill list of a result number
  Wants : Catalogue → Result → Input
  Exceeds : ℕ → Catalogue → Result → Input
  Skilled : Catalogue → Fit → ℕ → Input
  -- an entry in bytes
  Written : Entry → Input
  -- the conditions of refusals 1, 4 and, for pairs and for skills, 13; the first of 8, 9, 13 for skills and 10 that holds, or of 11 and 12, or 0
  BadLength : (catalogue : List ℕ) → Input
  BadSize : (fit : List ℕ) → Input
  OverPairs : Terms → Catalogue → Fit → Input
  OverSkills : Terms → Catalogue → Fit → (result : ℕ) → Input
  SkillRefusal : Terms → Catalogue → Fit → (result : ℕ) → (buffer : List ℕ) → Input
  ProfileRefusal : (profile : List ℕ) → Input
  -- the calls, of bytes
  ListCall : (catalogue fit buffer : List ℕ) → Input
  LeagueCall : Terms → (catalogue fit buffer : List ℕ) → Input
  SkillCall : (catalogue fit : List ℕ) (result : ℕ) (buffer : List ℕ) → Input
  PageSkillCall : Terms → (catalogue fit : List ℕ) (result : ℕ) (buffer : List ℕ) → Input
  HallCall : (catalogue input : List ℕ) → Input
  -- the list call as it was before
  ListBefore : (catalogue fit buffer : List ℕ) → Input
  -- the bits of an f32, widened; the widening call
  Single : ℕ → Input
  WidenCall : (old buffer : List ℕ) → Input
  -- the first of 8, 9 and 16 that holds, or 0; the training call
  TrainRefusal : Catalogue → Fit → (result : ℕ) → Input
  TrainCall : (catalogue fit : List ℕ) (result steps : ℕ) (buffer : List ℕ) → Input
  -- 9 of a trim, or 0; the trimming call
  TrimRefusal : Catalogue → Fit → Input
  TrimCall : (catalogue fit buffer : List ℕ) → Input
  -- the first of 14 and 15 that holds, or 0; the kept pairs' numbers in bytes; the call for an entry's cause
  CauseRefusal : Catalogue → Fit → (position : ℕ) → Input
  Causes : Catalogue → Fit → (position : ℕ) → Input
  CauseCall : (catalogue fit : List ℕ) (position : ℕ) (buffer : List ℕ) → Input
  -- the tries that a budget makes; tries, distance and numbers of what is left out, in bytes; the call for it
  TriesMade : Catalogue → Fit → (budget : ℕ) → Input
  LeavesOut : Catalogue → Fit → (budget : ℕ) → Input
  LeaveOutCall : (catalogue fit : List ℕ) (budget : ℕ) (buffer : List ℕ) → Input

pub data Expected : Type 0 where
  Number : ℕ → Expected
  Integer : ℤ → Expected
  Holds : Bool → Expected
  HoldsOf : (Float → Bool) → Expected
  Entries : List Entry → Expected
  Demands : List Demand → Expected
  InBytes : List ℕ → Expected
  -- the word, and the buffer afterwards
  Returns : ℕ → List ℕ → Expected

-- what the definitions make of an input
unfoldable pub outcome_of : Input → Expected
outcome_of (Unsigned w x) = Number (to_u w x)
outcome_of (Signed x) = Integer (to_i32 x)
outcome_of (Over used available) = Holds (over used available)
outcome_of (AnyOver available) = HoldsOf λ used. over used available
outcome_of (Fitted c f) = Entries (whole_list main c f)
outcome_of (InLeague t c f) = Entries (list_for t c f)
outcome_of (Wants c r) = Demands (wanted_skills c r)
outcome_of (Exceeds limit c r) = Holds (wants_too_many limit c r)
outcome_of (Skilled c f n) = Entries (skill_list c f n)
outcome_of (Written e) = InBytes (entry_bytes e)
outcome_of (BadLength catalogue) = Holds (bad_length catalogue)
outcome_of (BadSize fit) = Holds (bad_size fit)
outcome_of (OverPairs t c f) = Holds (over_pairs t c f)
outcome_of (OverSkills t c f n) = Holds (over_skills t c f n)
outcome_of (SkillRefusal t c f n buffer) = Number (first_of (skill_refusals t c f n buffer))
outcome_of (ProfileRefusal profile) = Number (profile_refusal profile)
outcome_of (ListCall catalogue fit buffer) = let a = list_call main catalogue fit buffer in Returns (returned a) (buffered buffer a)
outcome_of (LeagueCall t catalogue fit buffer) = let a = list_call t catalogue fit buffer in Returns (returned a) (buffered buffer a)
outcome_of (SkillCall catalogue fit result buffer) = let a = skill_call main catalogue fit result buffer in Returns (returned a) (buffered buffer a)
outcome_of (PageSkillCall t catalogue fit result buffer) = let a = skill_call t catalogue fit result buffer in Returns (returned a) (buffered buffer a)
outcome_of (HallCall catalogue input) = Number (hall_returned (hall_call catalogue input))
outcome_of (ListBefore catalogue fit buffer) = let a = list_before main catalogue fit buffer in Returns (returned a) (buffered buffer a)
outcome_of (Single n) = Number (wide_bits (le 4 n) 0)
outcome_of (WidenCall old buffer) = let o = widen_call old buffer in Returns (output_word o) (filled buffer o)
outcome_of (TrainRefusal c f n) = Number (first_of (train_refusals c f n))
outcome_of (TrainCall catalogue fit result steps buffer) =
    let o = train_call catalogue fit result steps buffer in Returns (output_word o) (filled buffer o)
outcome_of (TrimRefusal c f) = Number (first_of (trim_refusals c f))
outcome_of (TrimCall catalogue fit buffer) = let o = trim_call catalogue fit buffer in Returns (output_word o) (filled buffer o)
outcome_of (CauseRefusal c f position) = Number (first_of (cause_refusals c f position))
outcome_of (Causes c f position) = InBytes (cause_bytes c f position)
outcome_of (CauseCall catalogue fit position buffer) =
    let o = cause_call catalogue fit position buffer in Returns (output_word o) (filled buffer o)
outcome_of (TriesMade c f budget) = Number (tries_made c f budget)
outcome_of (LeavesOut c f budget) = InBytes (leave_out_bytes c f budget)
outcome_of (LeaveOutCall catalogue fit budget buffer) =
    let o = leave_out_call catalogue fit budget buffer in Returns (output_word o) (filled buffer o)

abbrev pub Case : Type 0
Case = Input × Expected
