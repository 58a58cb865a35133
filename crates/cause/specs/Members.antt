-- What an entry's rule looks at beside the entry's own pair: members and how many of them are allowed, the drones in space, the cargo; the
-- other rules nothing. By the numbers of rule and sub, and of the entry's own pair, where it is about one.
use Rattle.std.specs.Prelude.{ℕ, ◌+◌, Bool, false, not, ◌&&◌, ◌||◌, cond, List, [], ◌∷◌, ◌++◌, eqb, ltb, slice_get, Float}
use Rattle.std.specs.Prelude.{Option, None, Some}
use Rattle.words.specs.Words.{given, count_of, any_of, table, from}
use Rattle.numbers.specs.Names as Names
use Rattle.numbers.specs.declared.SlotKind.{SlotKind}
use Rattle.numbers.specs.declared.GroupLimit.{GroupLimit}
use Rattle.numbers.specs.declared.Resource.TheVariants.{LaunchedDrones, CargoBay}
use Rattle.numbers.specs.Resources as Resources
use Rattle.floats.specs.Floats.{zero_f, of_nat, to_u, over}
use Rattle.catalogue.specs.Catalogue.{Catalogue}
use Rattle.catalogue.specs.Lookups.{name_id}
use Rattle.fit.specs.Fit.{Result, Fit}
use Rattle.fit.specs.Lookups.{value, amount}
use Rattle.entry.specs.declared.Target.{Target}
use Rattle.entry.specs.declared.Target.TheVariants.{Ship, Item}
use Rattle.entry.specs.declared.Entry.{Entry}
use Rattle.entry.specs.Entries.{fields, number}
use Rattle.context.specs.Context.{Pair, Context, context, pairs}
use Rattle.resource.specs.Resource.{launched, cargo_used}
use Rattle.racks.specs.Racks.{RACKS, HARDPOINTS}
use Rattle.racks.specs.Taking.{takes}
use Rattle.slot.specs.Slot.{shares_slot, shares_part}
use Rattle.limits.specs.Limits.{group_limit_rows, in_group, of_type}
use Rattle.parts.specs.Parts.{chosen}

-- the number of the pair that an entry is about
unfoldable pub own : Target → Option ℕ
own Ship = None
own (Item i) = Some i

abbrev pub sub_of : Entry → ℕ
sub_of e = (fields e.rule).1

-- the rows by sub, of Slots and of MaxGroup
abbrev pub slots_row : ℕ → Option (SlotKind × ℕ)
slots_row sub = slice_get (RACKS ++ HARDPOINTS) sub

abbrev pub group_row : ℕ → Option (GroupLimit × ℕ × ℕ)
group_row sub = slice_get group_limit_rows sub

module _ (x : Context) where
  -- an attribute by its name, of the ship, the character or an item; 0 where the name has no id
  unfoldable pub amount_of : ℕ → Result → Float
  amount_of name r = given (name_id x.names name) zero_f (amount r)

  abbrev pub allowed_by : ℕ → Result → ℕ
  allowed_by name r = to_u 32 (amount_of name r)

  -- another subsystem, for the part of the ship that p is for
  unfoldable pub covers : Pair → Pair → Bool
  covers p o = given (name_id x.names Names.sub_system_slot) false λ id. given (value p.result id) false λ part. shares_part id part p o

  -- ---- of an entry about pair p: SlotTaken, SubsystemTaken, MaxGroup, MaxType
  unfoldable pub is_beside : (rule sub : ℕ) → (p o : Pair) → Bool
  is_beside rule sub p o =
      cond (eqb rule 8) (shares_slot p o)
      (cond (eqb rule 10) (covers p o)
      (cond (eqb rule 17) (given (group_row sub) false λ row. in_group p.group row.1 o)
      (eqb rule 18 && of_type p.type o)))

  unfoldable pub allowed_beside : (rule sub : ℕ) → Pair → ℕ
  allowed_beside rule sub p =
      cond (eqb rule 17) (given (group_row sub) 0 λ row. allowed_by row.2 p.result)
      (cond (eqb rule 18) (allowed_by Names.max_type_fitted p.result) 0)

-- ---- of any entry
abbrev pub sums_drones : (rule sub : ℕ) → Bool
sums_drones rule sub = eqb rule 1 && eqb sub (Resources.number LaunchedDrones)

abbrev pub sums_cargo : (rule sub : ℕ) → Bool
sums_cargo rule sub = eqb rule 1 && eqb sub (Resources.number CargoBay)

-- Slots, SlotTaken, SubsystemTaken, MaxGroup, MaxType
unfoldable pub is_counted : ℕ → Bool
is_counted rule = any_of (eqb rule) (2 ∷ 8 ∷ 10 ∷ 17 ∷ 18 ∷ [])

module _ (x : Context) (ps : List Pair) (at : Option ℕ) (rule sub : ℕ) where
  abbrev own_pair : Option Pair
  own_pair = given at None (slice_get ps)

  -- a pair that counts; none does for a rule that is not counted
  unfoldable pub is_member : Pair → Bool
  is_member o =
      cond (eqb rule 2) (given (slots_row sub) false λ row. takes row.0 o)
      (given own_pair false λ p. is_beside x rule sub p o)

  -- how many are allowed
  unfoldable pub limit : ℕ
  limit =
      cond (eqb rule 2) (given (slots_row sub) 0 λ row. allowed_by x row.1 x.ship_result)
      (given own_pair 0 λ p. allowed_beside x rule sub p)

  -- whether the rule is still broken, where qs are left and the entry's own pair is among them
  unfoldable pub is_broken : List Pair → Bool
  is_broken qs =
      cond (sums_drones rule sub) (over (of_nat (launched qs)) (amount_of x Names.max_active_drones x.character_result))
      (cond (sums_cargo rule sub) (over (cargo_used qs) (amount_of x Names.capacity x.ship_result))
      (not (is_counted rule) || ltb limit (count_of is_member qs)))

module _ (c : Catalogue) (f : Fit) (e : Entry) where
  -- an entry of the list is there, its own pair kept, where its rule is still broken
  unfoldable pub stays : List Bool → Bool
  stays kept = is_broken (context c f.frame) (pairs c f) (own e.target) (number e) (sub_of e) (chosen kept (pairs c f))
