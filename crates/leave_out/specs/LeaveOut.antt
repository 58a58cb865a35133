-- Document 02, P13: the fewest pairs to take off so that the named rules list nothing, among the sets that a budget's tries check. A set
-- is of those taken off.
use Rattle.std.specs.Prelude.{ℕ, ◌+◌, ◌-◌, ◌^◌, min, Bool, not, ◌&&◌, ◌||◌, cond, List, [], ◌∷◌, ◌++◌, eqb, leb, ltb, length}
use mathlib.Core.List.{map, foldl}
use Rattle.words.specs.Words.{each, any_of, count_of, sum_of, given, table, from}
use Rattle.numbers.specs.declared.SlotKind.{SlotKind}
use Rattle.numbers.specs.Slots as Slots
use Rattle.image.specs.Bytes.{le}
use Rattle.floats.specs.Floats.{to_u}
use Rattle.marks.specs.Marks.{bit_of}
use Rattle.catalogue.specs.Catalogue.{Catalogue}
use Rattle.catalogue.specs.Lookups.{name_id}
use Rattle.fit.specs.Fit.{Fit}
use Rattle.fit.specs.Lookups.{amount}
use Rattle.entry.specs.declared.Entry.{Entry}
use Rattle.entry.specs.Entries.{fields, number}
use Rattle.context.specs.Context.{pairs, is_in}
use Rattle.racks.specs.Racks.{RACKS}
use Rattle.validate.specs.Kind.{is_hull}
use Rattle.lists.specs.Terms.{main}
use Rattle.lists.specs.Lists.{whole_list}
use Rattle.parts.specs.Parts.{size, every, less, numbers_of, part_of}

-- SlotTaken, SubsystemTaken, MaxGroup, MaxType, and Slots of the six racks, whose subs are 0 to 5
unfoldable pub is_named : Entry → Bool
is_named e = any_of (eqb (number e)) (8 ∷ 10 ∷ 17 ∷ 18 ∷ []) || (eqb (number e) 2 && ltb (fields e.rule).1 6)

-- ---- tries
-- the set of a number, of n pairs: pair i counts 2 to the power i
unfoldable pub set_of : (n m : ℕ) → List Bool
set_of n m = table n (bit_of m)

-- what try k checks: the first n put back pair k, those behind take every set by ascending number
unfoldable pub tried : (n : ℕ) → (best : List Bool) → (k : ℕ) → List Bool
tried n best k = cond (ltb k n) (less best k) (set_of n (k - n))

-- how many tries there are: every set is tried with up to 16 pairs
unfoldable pub all_tries : ℕ → ℕ
all_tries n = n + cond (leb n 16) (2 ^ n) 0

module _ (c : Catalogue) (f : Fit) where
  abbrev pub pair_count : ℕ
  pair_count = length (pairs c f)

  -- the fit without the set lists none of the named rules
  unfoldable pub good : List Bool → Bool
  good off = not (any_of is_named (whole_list main c (part_of f (map not off))))

  -- what a try leaves as the best: the set that it checks, where that is good and smaller
  unfoldable pub better : (best : List Bool) → (k : ℕ) → List Bool
  better best k = let s = tried pair_count best k in cond (good s && ltb (size s) (size best)) s best

  -- all tries, or the budget if that is less
  unfoldable pub tries_made : (budget : ℕ) → ℕ
  tries_made budget = min budget (all_tries pair_count)

  -- the smallest good set that they check, the earliest among equals; at first all pairs, which is no try
  unfoldable pub left_out : (budget : ℕ) → List Bool
  left_out budget = foldl better (every pair_count) (from 0 (tries_made budget))

  -- ---- how far off it is
  -- a rack's count above what the ship has; 0 where its name has no id
  unfoldable pub above : SlotKind × ℕ → ℕ
  above row =
      given (name_id c.names row.1) 0 λ id.
      count_of (is_in (Slots.number row.0)) (pairs c f) - to_u 32 (amount f.frame.ship_result id)

  -- of all racks; 0 on a ship that is no hull. Every good set has at least as many
  unfoldable pub surplus : ℕ
  surplus = cond (is_hull c f.frame.ship) (sum_of above RACKS) 0

  -- at most so many more than the fewest that can be taken off
  unfoldable pub distance : (budget : ℕ) → ℕ
  distance budget = size (left_out budget) - surplus

  -- ---- the call
  -- the tries made, the distance, then the set's pairs, ascending, four bytes each
  unfoldable pub leave_out_bytes : (budget : ℕ) → List ℕ
  leave_out_bytes budget = le 4 (tries_made budget) ++ le 4 (distance budget) ++ each (numbers_of (left_out budget)) (le 4)
