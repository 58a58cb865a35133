-- Every promise, whole, with no proof in it; `proofs/Promised.antt` has the theorem. The calls are `list_call`, `skill_call`, `hall_call`,
-- `widen_call`, `train_call`, `trim_call`, `cause_call` and `leave_out_call` of fitcheck/specs, functions of bytes, and the exported
-- functions are proved equal to them: the word by `returned`, `hall_returned`, `output_word`, the buffer by `buffered`, `filled`. Read
-- `Answers`, `Compare`, `GrownCase`, `KeptCases`, `Walks`, `Halls`, `Widens`, `Trains`, `Trims`, `Causes`, `LeavingOut`, `Edges` beside this
-- file, and lists/specs for the list. `Terms` is what a call brings beside images and buffer.
use Rattle.std.specs.Prelude.{ℕ, ◌+◌, ◌*◌, ◌/◌, ◌^◌, min, ◌≤◌, ◌<◌, ◌≡◌, Bool, false, not, cond, ◌↔◌, T, leb, eqb}
use Rattle.std.specs.Prelude.{length, get_or, slice_get, Some}
use mathlib.Core.List.{List, [], map, Memᴰ}
use Rattle.std.specs.Float.Ieee.Exact.{HasValue}
use Rattle.words.specs.Words.{from, only, is_empty, sum_of}
use Rattle.image.specs.Bytes.{u8_at}
use Rattle.floats.specs.Floats.{of_nat}
use Rattle.catalogue.specs.Catalogue.{Catalogue, catalogue_of}
use Rattle.catalogue.specs.Refusals.{catalogue_refusal}
use Rattle.widening.specs.Old.{old_catalogue_of}
use Rattle.widening.specs.Widen.{widened}
use Rattle.fit.specs.Fit.{Item, Result, Fit, fit_of}
use Rattle.fit.specs.Refusals.{bad_size, fit_refusal}
use Rattle.entry.specs.declared.Entry.{Entry}
use Rattle.entry.specs.Entries.{number, entry_bytes}
use Rattle.context.specs.Context.{pairs}
use Rattle.resource.specs.Resource.{launched}
use Rattle.skill.specs.Skill.{wants_too_many, skill_list}
use Rattle.lists.specs.Terms.{Terms, read_by, main}
use Rattle.validate.specs.Validate.{list_of}
use Rattle.lists.specs.Lists.{league_list, whole_list, for_reader, list_for}
use Rattle.training.specs.Training.{step, trained_by}
use Rattle.trim.specs.Trim.{touched, trimmed}
use Rattle.parts.specs.Parts.{size, every, holds, less, numbers_of, part_of, down_from, thinned}
use Rattle.cause.specs.Cause.{is_about, shows, cause_bytes}
use Rattle.leave_out.specs.LeaveOut.{set_of, good, left_out, surplus, leave_out_bytes}
use Rattle.calls.specs.Output.{Written}
use Rattle.fitcheck.specs.Calls.{list_call, skill_call}
use Rattle.fitcheck.specs.Hall.{hall_call, hall_returned}
use Rattle.fitcheck.specs.Trim.{trim_call}
use Rattle.promises.specs.Answers.{Outcome, outcome, refusal, count, entry_at, entries_of}
use Rattle.promises.specs.Answers.{catalogue_conditions, fit_conditions, list_conditions, skill_conditions, None, Answers}
use Rattle.promises.specs.Before.{list_before, rust_call}
use Rattle.promises.specs.Compare.{Bytes, Grown, AddedVolumes, Alike, Apart, Kept}
use Rattle.promises.specs.Hauls.{Hauled, outside_hold, in_hold, StaysIn}
use Rattle.promises.specs.GrownCase.{grown_by, Example, GuestExample, HaulExample}
use Rattle.promises.specs.KeptCases.{Tables}
use Rattle.promises.specs.Walks.{MoreWanted, SkillsOf}
use Rattle.promises.specs.Halls.{HallAnswers, Judged}
use Rattle.promises.specs.Widens.{widen_outcome, widen_conditions, Fills, written, Stands}
use Rattle.promises.specs.Trains.{train_outcome, trained_bytes, train_conditions, missing, list_after, Onward, Copied, TrainExample}
use Rattle.promises.specs.Trims.{trim_outcome, trimmed_bytes, trim_conditions, SameAnswers, TouchedAlone, CopiedUnder, TrimExample}
use Rattle.promises.specs.Causes.{cause_outcome, listed, cause_conditions, kept_of, Numbers, without, Least, Seen, of_the_ship}
use Rattle.promises.specs.Causes.{CauseExample}
use Rattle.promises.specs.LeavingOut.{leave_outcome, leave_conditions, made_in, distance_in, behind_both, set_in, Good, is_against}
use Rattle.promises.specs.LeavingOut.{above_in, Smallest, LeftExample}
use Rattle.promises.specs.Names.{numbered, name_numbers}
use Rattle.promises.specs.Edges.{EDGES, Agree}

-- the two calls, as a caller sees them
abbrev pub list_outcome : Terms → (catalogue fit buffer : List ℕ) → Outcome
list_outcome t catalogue fit buffer = outcome buffer (list_call t catalogue fit buffer)

abbrev pub skill_outcome : Terms → (catalogue fit : List ℕ) (result : ℕ) (buffer : List ℕ) → Outcome
skill_outcome t catalogue fit result buffer = outcome buffer (skill_call t catalogue fit result buffer)

-- Demand 1. Of any bytes, a call gives the first refusal of the documents' order whose condition holds, and no other byte than the
-- entries' own changes; where no condition holds, it gives the list.
abbrev pub ListAnswers : Type 0
ListAnswers = (t : Terms) (catalogue fit buffer : List ℕ)
    → Answers (list_conditions t catalogue fit buffer) (list_for t (catalogue_of catalogue) (fit_of fit)) buffer
    (list_outcome t catalogue fit buffer)

abbrev pub SkillAnswers : Type 0
SkillAnswers = (t : Terms) (catalogue fit : List ℕ) (result : ℕ) (buffer : List ℕ)
    → Answers (skill_conditions t catalogue fit result buffer) (skill_list (catalogue_of catalogue) (fit_of fit) result) buffer
    (skill_outcome t catalogue fit result buffer)

-- No list has more than 5,654 entries, no skill list more than 512: a buffer of 135,696 bytes, or of 12,288, is never too short.
abbrev pub ListRoom : Type 0
ListRoom = (t : Terms) (catalogue fit buffer : List ℕ) → 135696 ≤ length buffer → refusal (list_outcome t catalogue fit buffer) ≡ 10 → ⊥

abbrev pub SkillRoom : Type 0
SkillRoom = (t : Terms) (catalogue fit : List ℕ) (result : ℕ) (buffer : List ℕ) → 12288 ≤ length buffer
    → refusal (skill_outcome t catalogue fit result buffer) ≡ 10 → ⊥

-- Drones over 4,294,967,295 were refused by 7. No call gives this number any more.
abbrev pub NoSeven : Type 0
NoSeven = (t : Terms) (catalogue fit input buffer : List ℕ) (result : ℕ)
    → (refusal (list_outcome t catalogue fit buffer) ≡ 7 → ⊥)
    × (refusal (skill_outcome t catalogue fit result buffer) ≡ 7 → ⊥)
    × (hall_returned (hall_call catalogue input) / 4294967296 ≡ 7 → ⊥)

-- Every list call that was not refused by 7 leaves what it left before, the word and every byte of the buffer: those that were answered, and
-- those that another number refused.
abbrev pub ListAsBefore : Type 0
ListAsBefore = (t : Terms) (catalogue fit buffer : List ℕ)
    → (refusal (outcome buffer (list_before t catalogue fit buffer)) ≡ 7 → ⊥)
    → list_outcome t catalogue fit buffer ≡ outcome buffer (list_before t catalogue fit buffer)

-- P2. Without a profile, whatever the allowance, a list call that 13 does not refuse leaves what one that knows no leagues would, the word and
-- every byte: the Rust's list with the missing types behind it, as its reader gets it, or the number that refuses it.
abbrev pub NoProfile : Type 0
NoProfile = (t : Terms) (catalogue fit buffer : List ℕ) → t.profile ≡ []
    → (refusal (list_outcome t catalogue fit buffer) ≡ 13 → ⊥)
    → list_outcome t catalogue fit buffer ≡ outcome buffer (rust_call t catalogue fit buffer)

-- P5. Take rule 26 out and the list given before remains, a league's entries included; without a profile that is the Rust's.
abbrev pub Unknowns : Type 0
Unknowns = (t : Terms) (c : Catalogue) (f : Fit)
    → (only (λ e. not (eqb (number e) 26)) (whole_list t c f) ≡ league_list t c f) × (t.profile ≡ [] → league_list t c f ≡ list_of c f)

-- The same of the bytes that an answered call left, as its reader gets them, byte 1 of an entry being its rule's number.
abbrev pub UnknownsLeft : Type 0
UnknownsLeft = (t : Terms) (catalogue fit buffer : List ℕ) → refusal (list_outcome t catalogue fit buffer) ≡ 0
    → only (λ e. not (eqb (u8_at e 1) 26)) (entries_of (list_outcome t catalogue fit buffer))
    ≡ map entry_bytes (for_reader t.reader (league_list t (catalogue_of catalogue) (fit_of fit)))

-- P8. Whatever the limits of a page, a call that 13 does not refuse leaves what the main page's leaves, the word and every byte of the buffer:
-- each list that it answers, and every other refusal. Limits above the main page's, 256 and 512, count as those.
abbrev pub SmallPage : Type 0
SmallPage = (t t' : Terms) (catalogue fit buffer : List ℕ)
    → Alike t t' → 256 ≤ t'.pairs → (refusal (list_outcome t catalogue fit buffer) ≡ 13 → ⊥)
    → list_outcome t catalogue fit buffer ≡ list_outcome t' catalogue fit buffer

-- The skill call of each result, likewise, for the same reader. It reads no profile.
abbrev pub SmallPageSkills : Type 0
SmallPageSkills = (t t' : Terms) (catalogue fit : List ℕ) (result : ℕ) (buffer : List ℕ)
    → t.reader ≡ t'.reader → 256 ≤ t'.pairs → 512 ≤ t'.skills → (refusal (skill_outcome t catalogue fit result buffer) ≡ 13 → ⊥)
    → skill_outcome t catalogue fit result buffer ≡ skill_outcome t' catalogue fit result buffer

-- 13 is of smaller pages: the main page gives it for nothing.
abbrev pub MainPage : Type 0
MainPage = (t : Terms) (catalogue fit : List ℕ) (result : ℕ) (buffer : List ℕ) → 256 ≤ t.pairs
    → (refusal (list_outcome t catalogue fit buffer) ≡ 13 → ⊥)
    × (512 ≤ t.skills → refusal (skill_outcome t catalogue fit result buffer) ≡ 13 → ⊥)

-- P14. Of two fits that 4 to 6 do not refuse and that differ in listed skills and levels alone, in how many there are too, a guest's list
-- calls, else alike, leave the same word and the same buffer, whatever it held: nothing in them depends on those skills and levels.
abbrev pub GuestBlind : Type 0
GuestBlind = (t : Terms) (catalogue one other buffer : List ℕ) → t.reader ≡ 0
    → None (fit_conditions one) → None (fit_conditions other) → Apart (fit_of one) (fit_of other)
    → list_outcome t catalogue one buffer ≡ list_outcome t catalogue other buffer

-- A guest's skill call, whatever its bytes, is refused by 20 and leaves the buffer.
abbrev pub GuestSkills : Type 0
GuestSkills = (t : Terms) (catalogue fit : List ℕ) (result : ℕ) (buffer : List ℕ) → t.reader ≡ 0
    → skill_outcome t catalogue fit result buffer ≡ record { word = 20 * 4294967296; buffer = buffer }

-- What a guest is told: the officer's entries but those of rule 21, byte for byte in their order. Each call has its own buffer.
abbrev pub GuestList : Type 0
GuestList = (t : Terms) (catalogue fit guests officers : List ℕ)
    → refusal (list_outcome (read_by 0 t) catalogue fit guests) ≡ 0 → refusal (list_outcome (read_by 2 t) catalogue fit officers) ≡ 0
    → entries_of (list_outcome (read_by 0 t) catalogue fit guests)
    ≡ only (λ e. not (eqb (u8_at e 1) 21)) (entries_of (list_outcome (read_by 2 t) catalogue fit officers))

-- Pilots and officers get the whole list, and their calls leave the same, the word and every byte.
abbrev pub FullList : Type 0
FullList = (t : Terms) (catalogue fit : List ℕ) (result : ℕ) (buffer : List ℕ)
    → (list_for (read_by 2 t) (catalogue_of catalogue) (fit_of fit) ≡ whole_list t (catalogue_of catalogue) (fit_of fit))
    × (list_outcome (read_by 1 t) catalogue fit buffer ≡ list_outcome (read_by 2 t) catalogue fit buffer)
    × (skill_outcome (read_by 1 t) catalogue fit result buffer ≡ skill_outcome (read_by 2 t) catalogue fit result buffer)

-- The drones of a fit that 4 does not refuse, 256 stacks of 4,294,967,295 at most, are a number that an f64 holds: the one that is listed has
-- the value of their total, with no rounding.
abbrev pub DronesExact : Type 0
DronesExact = (c : Catalogue) (fit : List ℕ) → Bytes fit → T (not (bad_size fit))
    → let total = launched (pairs c (fit_of fit)) in HasValue (of_nat total) false total 1

-- Demand 3 for the list. Items and results put behind those of a fit with as many results as items, drones in any number among them, and
-- lowered levels, make no entry vanish: it has its own place in the new list, in the old order, with a used number no lower and every other
-- byte the same. Rules 24, 25 and 26 are among the entries, as both calls have the same profile and allowance; both name the same reader,
-- whoever that is. Their limits may differ.
abbrev pub ListKept : Type 0
ListKept = (t t' : Terms) (catalogue old new old_buffer new_buffer : List ℕ) → Alike t t' → Bytes new
    → Grown (fit_of old) (fit_of new)
    → AddedVolumes (catalogue_of catalogue) (fit_of old) (fit_of new)
    → refusal (list_outcome t catalogue old old_buffer) ≡ 0
    → refusal (list_outcome t' catalogue new new_buffer) ≡ 0
    → Kept (list_outcome t catalogue old old_buffer) (list_outcome t' catalogue new new_buffer)

-- Demand 3 for the skill lists of every old result, ship and character included: those are the results whose old call is answered.
-- Volumes do not matter here, nor do the pages.
abbrev pub SkillKept : Type 0
SkillKept = (t t' : Terms) (catalogue old new old_buffer new_buffer : List ℕ) (result : ℕ)
    → Grown (fit_of old) (fit_of new)
    → refusal (skill_outcome t catalogue old result old_buffer) ≡ 0
    → refusal (skill_outcome t' catalogue new result new_buffer) ≡ 0
    → Kept (skill_outcome t catalogue old result old_buffer) (skill_outcome t' catalogue new result new_buffer)

-- P7. Cargo put behind a finished fit, of any types, quantities and volumes, touches the hold alone: both lists without CargoBay and rule 26
-- are the same entries, byte for byte, in the same order, for every reader, profile and allowance that both calls share and any limits.
abbrev pub HaulLists : Type 0
HaulLists = (t t' : Terms) (catalogue old new old_buffer new_buffer : List ℕ) → Alike t t' → Hauled (fit_of old) (fit_of new)
    → refusal (list_outcome t catalogue old old_buffer) ≡ 0
    → refusal (list_outcome t' catalogue new new_buffer) ≡ 0
    → outside_hold (list_outcome t catalogue old old_buffer) ≡ outside_hold (list_outcome t' catalogue new new_buffer)

-- The skill lists of every old result, ship and character included, are equal, byte for byte.
abbrev pub HaulSkills : Type 0
HaulSkills = (t t' : Terms) (catalogue old new old_buffer new_buffer : List ℕ) (result : ℕ) → Hauled (fit_of old) (fit_of new)
    → refusal (skill_outcome t catalogue old result old_buffer) ≡ 0
    → refusal (skill_outcome t' catalogue new result new_buffer) ≡ 0
    → entries_of (skill_outcome t catalogue old result old_buffer) ≡ entries_of (skill_outcome t' catalogue new result new_buffer)

-- The hold: no list has more than one entry of it, and where the added volumes are finite and not below zero one that was there is there, its
-- used number no lower.
abbrev pub HoldOnce : Type 0
HoldOnce = (t : Terms) (catalogue fit buffer : List ℕ) → refusal (list_outcome t catalogue fit buffer) ≡ 0
    → length (in_hold (list_outcome t catalogue fit buffer)) ≤ 1

abbrev pub HoldKept : Type 0
HoldKept = (t t' : Terms) (catalogue old new old_buffer new_buffer : List ℕ) → Alike t t' → Bytes new
    → Hauled (fit_of old) (fit_of new) → AddedVolumes (catalogue_of catalogue) (fit_of old) (fit_of new)
    → refusal (list_outcome t catalogue old old_buffer) ≡ 0
    → refusal (list_outcome t' catalogue new new_buffer) ≡ 0
    → (e : List ℕ) → Memᴰ e (in_hold (list_outcome t catalogue old old_buffer)) → StaysIn (in_hold (list_outcome t' catalogue new new_buffer)) e

-- The premises leave nothing out: a fit with as many results as items has grown by any items and any results behind its own, none and
-- unequal numbers included, and by any levels that are no higher. `Example` has two images that meet them all.
abbrev pub AnyGrowth : Type 0
AnyGrowth = (old : Fit) (levels : List ℕ) (items : List Item) (results : List Result)
    → length old.items ≡ length old.results
    → ((i : ℕ) → get_or levels i 0 ≤ get_or old.levels i 0)
    → Grown old (grown_by old levels items results)

-- The walk. An answered skill call is about a result that wants at most 512 skills. Its walk lists the wanted skills and no other, each
-- once, in the order met, at the highest level demanded; an entry is made of each that is trained below that.
abbrev pub SkillLists : Type 0
SkillLists = (t : Terms) (catalogue fit : List ℕ) (result : ℕ) (buffer : List ℕ) → refusal (skill_outcome t catalogue fit result buffer) ≡ 0
    → SkillsOf (catalogue_of catalogue) (fit_of fit) result

-- The condition of refusals 9 and, for skills, 13: more distinct skills are wanted than a limit, 512 or the page's.
abbrev pub TooMany : Type 0
TooMany = (limit : ℕ) (c : Catalogue) (r : Result) → T (wants_too_many limit c r) ↔ MoreWanted limit c r

-- The hall call's word, on any bytes.
abbrev pub HallCall : Type 0
HallCall = (catalogue input : List ℕ) → HallAnswers catalogue input (hall_returned (hall_call catalogue input))

-- Where the catalogue is not refused, a fit is clear exactly where the officer's list call on the main page, with no profile, has no entry and
-- it has as many results as items, refused exactly where that refuses with 4 to 6, and faulted where it lists entries or has unequal numbers.
abbrev pub HallFits : Type 0
HallFits = (catalogue fit buffer : List ℕ) → None (catalogue_conditions catalogue) → Judged catalogue fit buffer (list_outcome main catalogue fit buffer)

-- P10. Of any bytes, the widening call gives the first refusal whose condition holds, and no other byte than the new catalogue's own
-- changes; where no condition holds, it gives the widened catalogue.
abbrev pub WidenAnswers : Type 0
WidenAnswers = (old buffer : List ℕ) → Fills 10 (widen_conditions old buffer) (widened old) buffer (widen_outcome old buffer)

-- What it writes decodes to the old catalogue's records.
abbrev pub WidenDecodes : Type 0
WidenDecodes = (old buffer : List ℕ) → refusal (widen_outcome old buffer) ≡ 0 → catalogue_of (written (widen_outcome old buffer)) ≡ old_catalogue_of old

-- So, where it has at most 16,777,216 bytes, it is not refused, and the list and every skill list under it are those under the old one.
abbrev pub WidenStands : Type 0
WidenStands = (old buffer : List ℕ) → refusal (widen_outcome old buffer) ≡ 0 → count (widen_outcome old buffer) ≤ 16777216
    → Stands old (written (widen_outcome old buffer))

-- P11. Of any bytes, the training call gives the first refusal whose condition holds, 16 being the highest, and no other byte than the new
-- fit's own changes; where no condition holds, it gives the fit that the steps lead to.
abbrev pub TrainAnswers : Type 0
TrainAnswers = (catalogue fit : List ℕ) (result steps : ℕ) (buffer : List ℕ)
    → Fills 16 (train_conditions catalogue fit result steps buffer) (trained_bytes catalogue fit result steps) buffer
    (train_outcome catalogue fit result steps buffer)

-- 1 to 9 refuse it exactly where they refuse the skill call of that result, an officer's on the main page, whatever is lent to either.
abbrev pub TrainAsSkill : Type 0
TrainAsSkill = (catalogue fit : List ℕ) (result steps : ℕ) (buffer other : List ℕ) (n : ℕ) → 0 < n → n ≤ 9
    → (refusal (train_outcome catalogue fit result steps buffer) ≡ n) ↔ (refusal (skill_outcome main catalogue fit result other) ≡ n)

-- What it writes is a fit that 4 to 6 do not refuse, and decodes to the old one after so many single steps.
abbrev pub TrainDecodes : Type 0
TrainDecodes = (catalogue fit : List ℕ) (result steps : ℕ) (buffer : List ℕ) → refusal (train_outcome catalogue fit result steps buffer) ≡ 0
    → let new = written (train_outcome catalogue fit result steps buffer) in
    (fit_refusal new ≡ 0) × (fit_of new ≡ trained_by (catalogue_of catalogue) result steps (fit_of fit))

-- All but skills and levels is copied byte for byte; and where the first list is empty, the fit is written as it is.
abbrev pub TrainCopies : Type 0
TrainCopies = (catalogue fit : List ℕ) (result steps : ℕ) (buffer : List ℕ) → refusal (train_outcome catalogue fit result steps buffer) ≡ 0
    → let new = written (train_outcome catalogue fit result steps buffer) in
    Copied fit new × (Bytes fit → skill_list (catalogue_of catalogue) (fit_of fit) result ≡ [] → new ≡ fit)

-- The skill list of that result is empty in it exactly where the steps are no fewer than the sum of required less trained over the first list:
-- after exactly that many, and at no earlier step.
abbrev pub TrainEmpty : Type 0
TrainEmpty = (catalogue fit : List ℕ) (result steps : ℕ) (buffer : List ℕ) → refusal (train_outcome catalogue fit result steps buffer) ≡ 0
    → let c = catalogue_of catalogue in
    is_empty (skill_list c (fit_of (written (train_outcome catalogue fit result steps buffer))) result)
    ≡ leb (missing (skill_list c (fit_of fit) result)) steps

-- No step adds an entry to it: each takes its first entry off or gives that one level more, and leaves every other. A step on an empty list
-- changes nothing.
abbrev pub TrainSteps : Type 0
TrainSteps = (catalogue fit : List ℕ) (result steps : ℕ) (buffer : List ℕ) → refusal (train_outcome catalogue fit result steps buffer) ≡ 0
    → let after = list_after (catalogue_of catalogue) result (fit_of fit) in
    (k : ℕ) → Onward (after k) (after (k + 1))

abbrev pub TrainStill : Type 0
TrainStill = (c : Catalogue) (result : ℕ) (f : Fit) → skill_list c f result ≡ [] → step c result f ≡ f

-- P1. Of any bytes, the trimming call gives the first refusal whose condition holds, 10 being the highest, and no other byte than the
-- trimmed catalogue's own changes; where no condition holds, it gives the trimmed catalogue.
abbrev pub TrimAnswers : Type 0
TrimAnswers = (catalogue fit buffer : List ℕ)
    → Fills 10 (trim_conditions catalogue fit buffer) (trimmed_bytes catalogue fit) buffer (trim_outcome catalogue fit buffer)

-- 1 to 6 refuse it exactly where they refuse the list call of that fit, and 9 exactly where it refuses the skill call of one of its
-- results: an officer's on the main page, whatever is lent to any of them.
abbrev pub TrimRefused : Type 0
TrimRefused = (catalogue fit buffer other : List ℕ)
    → ((n : ℕ) → 0 < n → n ≤ 6 → (refusal (trim_outcome catalogue fit buffer) ≡ n) ↔ (refusal (list_outcome main catalogue fit other) ≡ n))
    × ((refusal (trim_outcome catalogue fit buffer) ≡ 9) ↔ ((result : ℕ) × (refusal (skill_outcome main catalogue fit result other) ≡ 9)))

-- A buffer as long as the catalogue is never too short.
abbrev pub TrimRoom : Type 0
TrimRoom = (catalogue fit buffer : List ℕ) → length catalogue ≤ length buffer → refusal (trim_outcome catalogue fit buffer) ≡ 10 → ⊥

-- What it writes is a catalogue that 1 to 3 do not refuse, and decodes to all names and effects and to what stands under the ids that the
-- fit touches, in its old order.
abbrev pub TrimDecodes : Type 0
TrimDecodes = (catalogue fit buffer : List ℕ) → refusal (trim_outcome catalogue fit buffer) ≡ 0
    → let small = written (trim_outcome catalogue fit buffer) in
    (catalogue_refusal small ≡ 0) × (catalogue_of small ≡ trimmed (catalogue_of catalogue) (touched (catalogue_of catalogue) (fit_of fit)))

-- So a type, a link or a base is in it exactly where it was in the old one and the fit touches its id: it names that, or a result of it
-- wants that skill.
abbrev pub TrimTouches : Type 0
TrimTouches = (catalogue fit buffer : List ℕ) → refusal (trim_outcome catalogue fit buffer) ≡ 0
    → TouchedAlone (catalogue_of catalogue) (fit_of fit) (catalogue_of (written (trim_outcome catalogue fit buffer)))

-- What is kept is copied byte for byte: N, E, all names and effects, and the key and the value of each record under those ids, volume bits
-- under flag 0 and every NaN too.
abbrev pub TrimCopies : Type 0
TrimCopies = (catalogue fit buffer : List ℕ) → refusal (trim_outcome catalogue fit buffer) ≡ 0
    → CopiedUnder catalogue (touched (catalogue_of catalogue) (fit_of fit)) (written (trim_outcome catalogue fit buffer))

-- The list and each skill list of that fit are the same under both catalogues, and so is what refuses them: for every reader, profile,
-- allowance, limit, result and buffer.
abbrev pub TrimSame : Type 0
TrimSame = (catalogue fit buffer : List ℕ) → refusal (trim_outcome catalogue fit buffer) ≡ 0
    → SameAnswers fit (written (trim_outcome catalogue fit buffer)) catalogue

-- Trimmed a second time by the same fit, it comes out as it is.
abbrev pub TrimTwice : Type 0
TrimTwice = (catalogue fit buffer : List ℕ) → refusal (trim_outcome catalogue fit buffer) ≡ 0
    → let small = written (trim_outcome catalogue fit buffer) in
    (other : List ℕ) → length small ≤ length other → trim_call small fit other ≡ Written small

-- P9. Of any bytes, the call that asks for an entry's cause gives the first refusal whose condition holds, 15 being the highest, and no
-- other byte than the kept pairs' numbers changes; where no condition holds, it gives these.
abbrev pub CauseAnswers : Type 0
CauseAnswers = (catalogue fit : List ℕ) (position : ℕ) (buffer : List ℕ)
    → Fills 15 (cause_conditions catalogue fit position buffer) (cause_bytes (catalogue_of catalogue) (fit_of fit) position) buffer
    (cause_outcome catalogue fit position buffer)

-- No cause has more than 256 pairs: a buffer of 1,024 bytes is never too short.
abbrev pub CauseRoom : Type 0
CauseRoom = (catalogue fit : List ℕ) (position : ℕ) (buffer : List ℕ) → 1024 ≤ length buffer
    → refusal (cause_outcome catalogue fit position buffer) ≡ 10 → ⊥

-- An answered call has an entry at its position: the one that stands there in what the officer's list call without a profile leaves.
abbrev pub CauseAsked : Type 0
CauseAsked = (catalogue fit : List ℕ) (position : ℕ) (buffer other : List ℕ) → refusal (cause_outcome catalogue fit position buffer) ≡ 0
    → refusal (list_outcome main catalogue fit other) ≡ 0
    → (e : Entry) × (slice_get (listed catalogue fit) position ≡ Some e)
    × (entry_at (list_outcome main catalogue fit other) position ≡ entry_bytes e)

-- It writes numbers of pairs, ascending, four bytes each: of the pairs that are left when, from the last to the first, each is dropped
-- where the entry stays without it.
abbrev pub CauseInTurn : Type 0
CauseInTurn = (catalogue fit : List ℕ) (position : ℕ) (buffer : List ℕ) (e : Entry)
    → refusal (cause_outcome catalogue fit position buffer) ≡ 0 → slice_get (listed catalogue fit) position ≡ Some e
    → let c = catalogue_of catalogue in
    let f = fit_of fit in
    let n = length (pairs c f) in
    let o = cause_outcome catalogue fit position buffer in
    Numbers n o × (kept_of n o ≡ thinned (shows c f e) (every n) (down_from n))

-- So a pair is kept exactly where the entry does not stay without it, beside all pairs before it and the kept ones behind it.
abbrev pub CauseDropped : Type 0
CauseDropped = (catalogue fit : List ℕ) (position : ℕ) (buffer : List ℕ) (e : Entry)
    → refusal (cause_outcome catalogue fit position buffer) ≡ 0 → slice_get (listed catalogue fit) position ≡ Some e
    → let c = catalogue_of catalogue in
    let f = fit_of fit in
    let n = length (pairs c f) in
    let kept = kept_of n (cause_outcome catalogue fit position buffer) in
    (i : ℕ) → i < n → holds kept i ≡ not (shows c f e (without n kept i))

-- The part of the kept pairs still lists the entry, about the same item and with the same rule, sub and id; drop any one or more of them
-- and it is gone.
abbrev pub CauseLeast : Type 0
CauseLeast = (catalogue fit : List ℕ) (position : ℕ) (buffer : List ℕ) (e : Entry) → Bytes fit
    → refusal (cause_outcome catalogue fit position buffer) ≡ 0
    → slice_get (listed catalogue fit) position ≡ Some e
    → let c = catalogue_of catalogue in
    let f = fit_of fit in
    Least c f e (kept_of (length (pairs c f)) (cause_outcome catalogue fit position buffer))

-- What it means that a part lists the entry, in the bytes of the two entries: the same target, rule and sub, the same id where the rule
-- carries one, and about the same item, whose index in the part is how many of its pairs stand before it.
abbrev pub CauseShows : Type 0
CauseShows = (catalogue fit : List ℕ) (e : Entry) (s : List Bool) → None (fit_conditions fit) → Memᴰ e (listed catalogue fit)
    → T (shows (catalogue_of catalogue) (fit_of fit) e s) ↔ Seen (catalogue_of catalogue) (fit_of fit) e s

-- An entry on the ship that looks at no pair, a load such as Cpu, keeps none.
abbrev pub CauseNone : Type 0
CauseNone = (catalogue fit : List ℕ) (position : ℕ) (buffer : List ℕ) (e : Entry)
    → refusal (cause_outcome catalogue fit position buffer) ≡ 0 → slice_get (listed catalogue fit) position ≡ Some e → T (of_the_ship e)
    → count (cause_outcome catalogue fit position buffer) ≡ 0

-- Entries of one list differ in target, rule, sub or id, so that a position names one of them alone: the skills of a fit that 5 does not
-- refuse ascend, and no pair's number is another's.
abbrev pub EntriesDiffer : Type 0
EntriesDiffer = (catalogue fit : List ℕ) (i j : ℕ) (a b : Entry) → None (fit_conditions fit) → i < j
    → slice_get (listed catalogue fit) i ≡ Some a → slice_get (listed catalogue fit) j ≡ Some b
    → T (is_about a.target a.rule b) → ⊥

-- P13. Of any bytes, the call that says what to leave out gives the first refusal whose condition holds, 10 being the highest, and no other
-- byte than its two numbers and the set's changes; where no condition holds, it gives these.
abbrev pub LeaveAnswers : Type 0
LeaveAnswers = (catalogue fit : List ℕ) (budget : ℕ) (buffer : List ℕ)
    → Fills 10 (leave_conditions catalogue fit budget buffer) (leave_out_bytes (catalogue_of catalogue) (fit_of fit) budget) buffer
    (leave_outcome catalogue fit budget buffer)

-- No set has more than 256 pairs: a buffer of 1,032 bytes is never too short.
abbrev pub LeaveRoom : Type 0
LeaveRoom = (catalogue fit : List ℕ) (budget : ℕ) (buffer : List ℕ) → 1032 ≤ length buffer
    → refusal (leave_outcome catalogue fit budget buffer) ≡ 10 → ⊥

-- What is so of an answered call on a fit.
abbrev pub Left : (Catalogue → Fit → (budget : ℕ) → Outcome → Type 0) → Type 0
Left P = (catalogue fit : List ℕ) (budget : ℕ) (buffer : List ℕ) → refusal (leave_outcome catalogue fit budget buffer) ≡ 0
    → P (catalogue_of catalogue) (fit_of fit) budget (leave_outcome catalogue fit budget buffer)

-- It writes numbers of pairs, ascending, four bytes each, behind the two numbers: of what the tries leave, one after the other.
abbrev pub LeftSet : Type 0
LeftSet = Left λ c f budget o. Numbers (length (pairs c f)) (behind_both o) × (set_in (length (pairs c f)) o ≡ left_out c f budget)

-- So of the smallest good set that the tries check, the earliest among equals: first the pairs that stay off when each in turn, from the
-- first, is put back where the set stays good, then every set by ascending number.
abbrev pub LeftSmallest : Type 0
LeftSmallest = Left λ c f budget o. Smallest c f (made_in o) (set_in (length (pairs c f)) o)

-- The set of a number, of n pairs: the powers of two of its pairs add up to the number.
abbrev pub LeftNumbers : Type 0
LeftNumbers = (n m : ℕ) → m < 2 ^ n → (length (set_of n m) ≡ n) × (sum_of (λ i. 2 ^ i) (numbers_of (set_of n m)) ≡ m)

-- The tries made are each pair in turn and, with up to 16 pairs, every set; or the budget if that is less.
abbrev pub LeftTries : Type 0
LeftTries = Left λ c f budget o.
    let n = length (pairs c f) in
    made_in o ≡ min budget (n + cond (leb n 16) (2 ^ n) 0)

-- The distance is how many more pairs the set has than the racks' surplus, of which every good set has at least as many.
abbrev pub LeftDistance : Type 0
LeftDistance = Left λ c f budget o. distance_in o + surplus c f ≡ size (set_in (length (pairs c f)) o)

-- The surplus, in the bytes of entries: over the officer's list without a profile, what each entry of a rack says is used less what it says
-- the ship has. A fit that is accepted has at most 256 pairs.
abbrev pub LeftSurplus : Type 0
LeftSurplus = (c : Catalogue) (f : Fit) → length (pairs c f) < 2 ^ 32
    → surplus c f ≡ sum_of (λ e. above_in (entry_bytes e)) (whole_list main c f)

abbrev pub LeftBound : Type 0
LeftBound = (c : Catalogue) (f : Fit) (s : List Bool) → Good c f s → surplus c f ≤ size s

-- So it says how far off the set is at most: no good set has fewer pairs by more than the distance.
abbrev pub LeftOff : Type 0
LeftOff = Left λ c f budget o. (s : List Bool) → Good c f s → size (set_in (length (pairs c f)) o) ≤ size s + distance_in o

-- The set is good.
abbrev pub LeftGood : Type 0
LeftGood = Left λ c f budget o. Good c f (set_in (length (pairs c f)) o)

-- What that means, in the bytes of entries: the officer's list of the fit without its pairs, and without a profile, has no entry of a rule
-- that is named.
abbrev pub GoodLists : Type 0
GoodLists = (c : Catalogue) (f : Fit) (s : List Bool)
    → T (good c f s) ↔ ((e : Entry) → Memᴰ e (whole_list main c (part_of f (map not s))) → T (is_against (entry_bytes e)) → ⊥)

-- With at least as many tries as pairs, no pair can be put back from it alone.
abbrev pub LeftLeast : Type 0
LeftLeast = Left λ c f budget o.
    let off = set_in (length (pairs c f)) o in
    (i : ℕ) → length (pairs c f) ≤ budget → T (holds off i) → T (good c f (less off i)) → ⊥

-- With up to 16 pairs and 65,552 tries or more, every other good set has at least as many.
abbrev pub LeftBest : Type 0
LeftBest = Left λ c f budget o.
    (s : List Bool) → length (pairs c f) ≤ 16 → 65552 ≤ budget → Good c f s → size (set_in (length (pairs c f)) o) ≤ size s

-- A larger budget never gives a larger set.
abbrev pub LeftMore : Type 0
LeftMore = (catalogue fit : List ℕ) (a b : ℕ) (buffer other : List ℕ) → a ≤ b
    → refusal (leave_outcome catalogue fit a buffer) ≡ 0 → refusal (leave_outcome catalogue fit b other) ≡ 0
    → let n = length (pairs (catalogue_of catalogue) (fit_of fit)) in
    size (set_in n (leave_outcome catalogue fit b other)) ≤ size (set_in n (leave_outcome catalogue fit a buffer))

-- Every name has its number of document 01, and the tables go through them in order: 0 to 87, none twice and none left out.
abbrev pub Names : Type 0
Names = (map (λ n. n.0) numbered ≡ map (λ n. n.1) numbered) × (name_numbers ≡ from 0 88)

-- Every edge of the table comes out as written there: the starred edges of document 01, for every rule an input where it is listed and one
-- where it is not, and for every part of a refusal one where it holds and one where it does not. The other promises would survive a
-- comparison turned round in a rule; this one does not.
abbrev pub Edges : Type 0
Edges = Agree EDGES

pub record Promises : Type 0 where
  pub list_answers : ListAnswers
  pub skill_answers : SkillAnswers
  pub list_room : ListRoom
  pub skill_room : SkillRoom
  pub no_seven : NoSeven
  pub list_as_before : ListAsBefore
  pub no_profile : NoProfile
  pub unknowns : Unknowns
  pub unknowns_left : UnknownsLeft
  pub small_page : SmallPage
  pub small_page_skills : SmallPageSkills
  pub main_page : MainPage
  pub guest_blind : GuestBlind
  pub guest_skills : GuestSkills
  pub guest_list : GuestList
  pub full_list : FullList
  pub guest_example : GuestExample
  pub drones_exact : DronesExact
  pub list_kept : ListKept
  pub skill_kept : SkillKept
  pub haul_lists : HaulLists
  pub haul_skills : HaulSkills
  pub hold_once : HoldOnce
  pub hold_kept : HoldKept
  pub haul_example : HaulExample
  pub any_growth : AnyGrowth
  pub example : Example
  -- old and new lists in bytes, kept and not kept: `list_kept` alone would survive a claim that lets more bytes change
  pub tables : Tables
  pub skill_lists : SkillLists
  pub too_many : TooMany
  pub hall_calls : HallCall
  pub hall_fits : HallFits
  pub widen_answers : WidenAnswers
  pub widen_decodes : WidenDecodes
  pub widen_stands : WidenStands
  pub train_answers : TrainAnswers
  pub train_as_skill : TrainAsSkill
  pub train_decodes : TrainDecodes
  pub train_copies : TrainCopies
  pub train_empty : TrainEmpty
  pub train_steps : TrainSteps
  pub train_still : TrainStill
  -- a fit trained step by step; lists that no step leads to, and bytes that no training writes
  pub train_example : TrainExample
  pub trim_answers : TrimAnswers
  pub trim_refused : TrimRefused
  pub trim_room : TrimRoom
  pub trim_decodes : TrimDecodes
  pub trim_touches : TrimTouches
  pub trim_copies : TrimCopies
  pub trim_same : TrimSame
  pub trim_twice : TrimTwice
  -- a catalogue that is trimmed, catalogues under which that fit's calls answer otherwise or that it does not touch alone, and bytes that
  -- are no copies
  pub trim_example : TrimExample
  pub cause_answers : CauseAnswers
  pub cause_room : CauseRoom
  pub cause_asked : CauseAsked
  pub cause_in_turn : CauseInTurn
  pub cause_dropped : CauseDropped
  pub cause_least : CauseLeast
  pub cause_shows : CauseShows
  pub cause_none : CauseNone
  pub entries_differ : EntriesDiffer
  -- an image, its causes, and parts that are none
  pub cause_example : CauseExample
  pub leave_answers : LeaveAnswers
  pub leave_room : LeaveRoom
  pub left_set : LeftSet
  pub left_smallest : LeftSmallest
  pub left_numbers : LeftNumbers
  pub left_tries : LeftTries
  pub left_distance : LeftDistance
  pub left_surplus : LeftSurplus
  pub left_bound : LeftBound
  pub left_off : LeftOff
  pub left_good : LeftGood
  pub good_lists : GoodLists
  pub left_least : LeftLeast
  pub left_best : LeftBest
  pub left_more : LeftMore
  -- an image, what is left out of it, and sets that are not
  pub left_example : LeftExample
  pub names : Names
  pub edges : Edges
