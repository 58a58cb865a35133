-- What the code holds: a row for each named entry of the list, and sets of pairs as bits.
use Rattle.std.specs.Prelude.{ℕ, ◌+◌, ◌-◌, ◌*◌, ◌≡◌, Bool, true, not, ◌&&◌, ◌||◌, cond, List, [], ◌∷◌, ◌++◌, map, eqb, ltb}
use Rattle.std.specs.Prelude.{length, get_or}
use mathlib.Core.List.{foldl}
use Rattle.words.specs.Words.{each, any_of, count_of, sum_of, given, table, from}
use Rattle.numbers.specs.declared.SlotKind.{SlotKind}
use Rattle.floats.specs.Floats.{to_u}
use Rattle.marks.specs.Marks.{is_marked}
use Rattle.catalogue.specs.Catalogue.{catalogue_of}
use Rattle.catalogue.specs.Lookups.{name_id}
use Rattle.fit.specs.Fit.{fit_of}
use Rattle.fit.specs.Lookups.{amount}
use Rattle.entry.specs.declared.Entry.{Entry}
use Rattle.entry.specs.Entries.{entry_bytes}
use Rattle.context.specs.declared.Context.{Context as Held}
use Rattle.context.specs.Gathered.{pair_count}
use Rattle.context.specs.Held.{pairs_in, context_in}
use Rattle.racks.specs.Taking.{takes}
use Rattle.lists.specs.Terms.{main}
use Rattle.lists.specs.Lists.{whole_list}
use Rattle.parts.specs.Parts.{chosen, size, every, holds}
use Rattle.cause.specs.declared.shown.Shown.{Shown}
use Rattle.cause.specs.Members.{slots_row}
use Rattle.cause.specs.Decided.{shown_of, has_own, broken_in}
use Rattle.leave_out.specs.LeaveOut.{is_named, set_of, tried}
use Rattle.leave_out.specs.Bits.{Unmarked}
use Rattle.leave_out.specs.declared.rows.Rows.{Rows}
use Rattle.leave_out.specs.declared.by_number.Found.{Found}

-- ---- rows
-- an entry's own pair by a number, 256 where it is about the ship
abbrev pub own_left : ℕ → List Bool → Bool
own_left own left = cond (ltb own 256) (holds left own) true

-- which of n pairs row r counts
unfoldable pub counted_in : List ℕ → ℕ → ℕ → List Bool
counted_in m r n = table n λ j. is_marked m (256 * r + j)

-- row r is over: its own pair is left, and more of those that it counts are left than it allows
unfoldable pub is_over : Rows → List Bool → ℕ → Bool
is_over rows left r =
    own_left (get_or rows.owns r 0) left
    && ltb (get_or rows.limits r 0) (size (chosen left (counted_in rows.counted r (length left))))

unfoldable pub any_over : Rows → List Bool → Bool
any_over rows left = any_of (is_over rows left) (from 0 rows.count)

-- the next row is free
abbrev pub Free : Rows → Type 0
Free rows = Unmarked (256 * rows.count) rows.counted

-- one row more, for n pairs, that is over where a test passes
pub record Added (n : ℕ) (before after : Rows) (t : List Bool → Bool) : Type 0 where
  pub count : after.count ≡ before.count + 1
  pub free : Free after
  pub over : (left : List Bool) → length left ≡ n → any_over after left ≡ any_over before left || t left

-- ---- entries
abbrev pub is_named_rule : Shown → Bool
is_named_rule s = any_of (eqb s.rule) (8 ∷ 10 ∷ 17 ∷ 18 ∷ []) || (eqb s.rule 2 && ltb s.sub 6)

-- the entry's own pair is left, and its rule still broken by the pairs that are
abbrev pub is_left : Held → Shown → List Bool → Bool
is_left x s left = has_own s.own left && broken_in x s (chosen left (pairs_in x))

-- an entry is taken in, where it is named
pub record Taken (x : Held) (s : Shown) (before after : Rows) : Type 0 where
  pub count : after.count ≡ before.count + cond (is_named_rule s) 1 0
  pub free : Free after
  pub over : (left : List Bool) → length left ≡ pair_count x.fit.now
      → any_over after left ≡ any_over before left || (is_named_rule s && is_left x s left)

abbrev pub entries_in : Held → List Entry
entries_in x = whole_list main (catalogue_of x.catalogue.now) (fit_of x.fit.now)

-- entries stand in a buffer from its first byte on
pub record Listed (es : List Entry) (b : List ℕ) : Type 0 where
  pub rest : List ℕ
  pub bytes : b ≡ each es entry_bytes ++ rest

-- a named entry is shown by the pairs that are left
unfoldable pub stays_in : Held → List Bool → Entry → Bool
stays_in x left e = is_named e && is_left x (shown_of e) left

-- the rows are those of some entries
abbrev pub Hold : Held → List Entry → Rows → Type 0
Hold x es rows = (left : List Bool) → length left ≡ pair_count x.fit.now → any_over rows left ≡ any_of (stays_in x left) es

-- ---- tries
-- what a set leaves breaks no row
abbrev pub passes : Rows → List Bool → Bool
passes rows off = not (any_over rows (map not off))

-- what a try leaves as the best, by a test of sets
unfoldable pub better_by : (List Bool → Bool) → ℕ → List Bool → ℕ → List Bool
better_by t n best k = let s = tried n best k in cond (t s && ltb (size s) (size best)) s best

unfoldable pub best_of : (List Bool → Bool) → ℕ → ℕ → List Bool
best_of t n tries = foldl (better_by t n) (every n) (from 0 tries)

-- the set of a number, or another where that is none
abbrev pub numbered_or : List Bool → ℕ → ℕ → List Bool
numbered_or other n m = cond (ltb m 65536) (set_of n m) other

-- the best set so far, of n pairs, is told by its number and its size
abbrev pub IsFound : List Bool → ℕ → Found → List Bool → Type 0
IsFound back n found best = (numbered_or back n found.number ≡ best) × (found.size ≡ size best)

-- ---- racks
-- the count of a row's slots above what the ship has; 0 where its name has no id
unfoldable pub above_at : Held → SlotKind × ℕ → ℕ
above_at x row =
    given (name_id (context_in x).names row.1) 0 λ id.
    count_of (takes row.0) (pairs_in x) - to_u 32 (amount (context_in x).ship_result id)

-- by the number of a rack
abbrev pub above_in : Held → ℕ → ℕ
above_in x kind = given (slots_row kind) 0 (above_at x)

abbrev pub surplus_in : Held → ℕ
surplus_in x = sum_of (above_in x) (from 0 6)
