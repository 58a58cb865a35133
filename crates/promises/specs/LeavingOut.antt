-- Document 02, P13: what a caller has after the call that says what to leave out, and which set of pairs that is; an image, and answers
-- that are not its own.
use Rattle.std.specs.Prelude.{ℕ, ◌+◌, ◌-◌, min, ◌≤◌, ◌<◌, ◌≡◌, Bool, true, false, ◌&&◌, ◌||◌, cond, List, [], ◌∷◌, ◌++◌, ◌⊎◌, T, eqb, ltb}
use Rattle.std.specs.Prelude.{length, drop, replicate}
use Rattle.words.specs.Words.{any_of, from}
use Rattle.image.specs.Bytes.{u8_at, u32_at}
use Rattle.catalogue.specs.Catalogue.{Catalogue, catalogue_of}
use Rattle.fit.specs.Fit.{Fit, fit_of}
use Rattle.context.specs.Context.{pairs}
use Rattle.calls.specs.Output.{Output, Written, output_word, filled}
use Rattle.parts.specs.Parts.{size, every, thinned}
use Rattle.leave_out.specs.LeaveOut.{set_of, good, leave_out_bytes}
use Rattle.fitcheck.specs.LeaveOut.{leave_out_call}
use Rattle.promises.specs.Answers.{Outcome, Conditions, catalogue_conditions, fit_conditions}
use Rattle.promises.specs.Compare.{Bytes}
use Rattle.promises.specs.CallCases.{words, small}
use Rattle.promises.specs.CauseCases.{THREE}
use Rattle.promises.specs.Causes.{kept_of}

-- ---- the call as a caller sees it
abbrev pub leave_outcome : (catalogue fit : List ℕ) (budget : ℕ) (buffer : List ℕ) → Outcome
leave_outcome catalogue fit budget buffer =
    let o = leave_out_call catalogue fit budget buffer in
    record { word = output_word o; buffer = filled buffer o }

-- 1 to 6, then 10: the buffer is shorter than all that is written
abbrev pub leave_conditions : (catalogue fit : List ℕ) (budget : ℕ) (buffer : List ℕ) → Conditions
leave_conditions catalogue fit budget buffer =
    catalogue_conditions catalogue
    ++ (fit_conditions fit ++ (10, ltb (length buffer) (length (leave_out_bytes (catalogue_of catalogue) (fit_of fit) budget))) ∷ [])

-- ---- what an answered call left: the tries made, the distance, and behind these eight bytes the numbers of a set, as P9 writes them
abbrev pub made_in : Outcome → ℕ
made_in o = u32_at o.buffer 0

abbrev pub distance_in : Outcome → ℕ
distance_in o = u32_at o.buffer 4

abbrev pub behind_both : Outcome → Outcome
behind_both o = record { word = o.word - 8; buffer = drop 8 o.buffer }

-- the set as flags of n pairs
abbrev pub set_in : ℕ → Outcome → List Bool
set_in n o = kept_of n (behind_both o)

-- ---- sets of a fit's pairs that are good
pub record Good (c : Catalogue) (f : Fit) (off : List Bool) : Type 0 where
  pub all : length off ≡ length (pairs c f)
  pub good : T (good c f off)

-- the rules that none of its entries may have, by the bytes of an entry: SlotTaken, SubsystemTaken, MaxGroup, MaxType, and Slots of the six
-- racks, whose subs are 0 to 5
abbrev pub is_against : (entry : List ℕ) → Bool
is_against e = any_of (eqb (u8_at e 1)) (8 ∷ 10 ∷ 17 ∷ 18 ∷ []) || (eqb (u8_at e 1) 2 && ltb (u8_at e 2) 6)

-- what the entry of a rack that is over says is used less what it says the ship has; 0 of any other entry
abbrev pub above_in : (entry : List ℕ) → ℕ
above_in e = cond (eqb (u8_at e 1) 2 && ltb (u8_at e 2) 6) (u32_at e 8 - u32_at e 12) 0

-- ---- which of the sets that are tried it is
-- what putting back leaves: of all pairs each in turn, from the first, is put back where the set stays good without it, while there are tries
abbrev pub put_back : Catalogue → Fit → (tries : ℕ) → List Bool
put_back c f tries = let n = length (pairs c f) in thinned (good c f) (every n) (from 0 (min tries n))

-- a set by number: the first of its size that is good, where that is smaller than what putting back leaves
pub record FirstByNumber (c : Catalogue) (f : Fit) (tries : ℕ) (off : List Bool) : Type 0 where
  pub number : ℕ
  pub tried : length (pairs c f) + number < tries
  pub its_set : off ≡ set_of (length (pairs c f)) number
  pub smaller : size off < size (put_back c f tries)
  pub first : (m : ℕ) → m < number → T (good c f (set_of (length (pairs c f)) m)) → size off < size (set_of (length (pairs c f)) m)

-- the smallest good set that so many tries check, the earliest among equals
pub record Smallest (c : Catalogue) (f : Fit) (tries : ℕ) (off : List Bool) : Type 0 where
  pub of_put_back : size off ≤ size (put_back c f tries)
  pub of_numbers : (m : ℕ) → length (pairs c f) + m < tries → T (good c f (set_of (length (pairs c f)) m))
      → size off ≤ size (set_of (length (pairs c f)) m)
  pub earliest : (off ≡ put_back c f tries) ⊎ FirstByNumber c f tries off

-- ---- an image: three items in High slots of a ship that has one
abbrev ROOM : List ℕ
ROOM = replicate 21 7

abbrev Gives : (budget : ℕ) → Output → Type 0
Gives budget o = leave_out_call small THREE budget ROOM ≡ o

abbrev Leaves : (one two three : Bool) → Type 0
Leaves one two three = Good (catalogue_of small) (fit_of THREE) (one ∷ two ∷ three ∷ [])

abbrev Chosen : (tries : ℕ) (one two three : Bool) → Type 0
Chosen tries one two three = Smallest (catalogue_of small) (fit_of THREE) tries (one ∷ two ∷ three ∷ [])

pub record LeftExample : Type 0 where
  pub bytes : Bytes THREE
  -- no try, one, and all eleven
  pub at_once : Gives 0 (Written (words (0 ∷ 1 ∷ 0 ∷ 1 ∷ 2 ∷ [])))
  pub by_one : Gives 1 (Written (words (1 ∷ 0 ∷ 1 ∷ 2 ∷ [])))
  pub by_all : Gives 4294967295 (Written (words (11 ∷ 0 ∷ 1 ∷ 2 ∷ [])))
  -- the first two would do as well, but are found later; one of three would not do
  pub not_the_first : Gives 4294967295 (Written (words (11 ∷ 0 ∷ 0 ∷ 1 ∷ []))) → ⊥
  pub also : Leaves true true false
  pub not_one : Leaves false false true → ⊥
  pub not_none : Leaves false false false → ⊥
  -- all three are not the smallest once there is a try, and the first two not the earliest
  pub not_all : Chosen 1 true true true → ⊥
  pub not_earliest : Chosen 11 true true false → ⊥
