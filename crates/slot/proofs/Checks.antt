-- What the code of each check tells of an item is what the check's definition says of the pair.
use Prim.Native.Nat.{ℕ, ◌+◌, ◌≤◌}
use mathlib.Core.Path.{◌≡◌, sym, ap, ◌∙◌}
use mathlib.Core.Bool.{Bool, true, not, ◌&&◌, ◌||◌}
use mathlib.Core.List.{List, []}
use Rattle.std.specs.Prelude.{None, Some}
use lib.Dec.{eqb, leb}
use Rattle.words.specs.Words.{◌>>=◌, table, when, when_any, any_of, same}
use Rattle.numbers.specs.declared.SlotKind.{SlotKind}
use Rattle.numbers.specs.Slots as Slots
use Rattle.numbers.specs.Slots.{kind_of}
use Rattle.numbers.specs.Categories as Categories
use Rattle.catalogue.specs.Catalogue.{Id}
use Rattle.entry.specs.declared.Entry.{Entry}
use Rattle.entry.specs.declared.Rule.{Rule}
use Rattle.entry.specs.declared.Rule.TheVariants.{WrongSlot, NotAModule, NotADrone, NotAFighter, NotAnImplant, SlotTaken, WrongSlotIndex}
use Rattle.entry.specs.Entries.{on_item}
use Rattle.entry.specs.declared.Entries.{Entries}
use Rattle.entry.specs.Emitted.{Emitted}
use Rattle.entry.proofs.Emitted.{emitted-same}
use Rattle.context.specs.Context.{Pair, Context, is_fitted, is_in, is_fighter_slot, is_module_category}
use Rattle.context.specs.Gathered.{pair_count, pair_at, pairs_of}
use Rattle.context.proofs.Pairs.{pairs-table}
use Rattle.slot.specs.declared.Item.{Item}
use Rattle.slot.specs.Slot.{wrong_slot, not_a_module, not_a_drone, not_a_fighter, not_an_implant, slot_taken, wrong_slot_index}
use Rattle.slot.specs.AtPair.{expects, Holds, Checked}

-- ---- what each check tells
module _ (item : Item) where
  abbrev pub is_misplaced : ℕ → Bool
  is_misplaced rack = leb item.slot Slots.service && not (eqb item.slot rack)

  abbrev pub is_of : Id → Bool
  is_of category = same item.category category

  abbrev told : Rule → Entry
  told rule = on_item item.position rule

  module _ (x : Context) {ps : List Pair} {p : Pair} (h : Holds x ps p item) where
    pub wrong_slot-no_rack : item.rack ≡ None → [] ≡ wrong_slot x p
    unfolding wrong_slot ◌>>=◌
    wrong_slot-no_rack e = rw (← h.rack, e)

    module _ {rack : ℕ} (e : item.rack ≡ Some rack) where
      pub wrong_slot-none : kind_of rack ≡ None → [] ≡ wrong_slot x p
      unfolding wrong_slot ◌>>=◌
      wrong_slot-none q = rw (← h.rack, e, q)

      pub wrong_slot-shown : {kind : SlotKind} → kind_of rack ≡ Some kind → when (is_misplaced rack) (told (WrongSlot kind)) ≡ wrong_slot x p
      unfolding wrong_slot is_fitted is_in ◌>>=◌
      wrong_slot-shown q = rw (← h.rack, e, q, h.slot, h.position)

    pub not-a_module_is : when (leb item.slot Slots.service && not (is_module_category item.category)) (told NotAModule) ≡ not_a_module x p
    unfolding not_a_module is_fitted is_module_category same
    not-a_module_is = rw (h.slot, h.category, h.position)

    pub not-a_drone_is : when (eqb item.slot Slots.drone_bay && not (is_of Categories.drone)) (told NotADrone)
        ≡ not_a_drone x p
    unfolding not_a_drone is_in same
    not-a_drone_is = rw (h.slot, h.category, h.position)

    pub not-a_fighter_is : {t : Bool} → t ≡ eqb item.slot Slots.fighter_tube || eqb item.slot Slots.fighter_bay
        → when (t && not (is_of Categories.fighter)) (told NotAFighter) ≡ not_a_fighter x p
    unfolding not_a_fighter is_fighter_slot is_in same
    not-a_fighter_is e = rw (e, h.slot, h.category, h.position)

    pub not-an_implant_is : {t : Bool} → t ≡ eqb item.slot Slots.implant || eqb item.slot Slots.booster
        → when (t && not (is_of Categories.implant)) (told NotAnImplant) ≡ not_an_implant x p
    unfolding not_an_implant is_in same
    not-an_implant_is e = rw (e, h.slot, h.category, h.position)

    pub slot-taken_is : when item.taken (told SlotTaken) ≡ slot_taken x ps p
    unfolding slot_taken when_any
    slot-taken_is = rw (h.position, h.taken)

    pub index_is : {index : ℕ} → item.expected ≡ Some index → when true (told (WrongSlotIndex index)) ≡ wrong_slot_index x p
    unfolding expects when
    index_is e = rw h.position (sym (ap (expects p) e) ∙ h.expected)

    pub index-none : item.expected ≡ None → [] ≡ wrong_slot_index x p
    unfolding expects
    index-none e = sym (ap (expects p) e) ∙ h.expected

-- ---- code that writes an entry or none
pub checked : {b a : Entries} {item : Item} {es : List Entry} (check : Context → List Pair → Pair → List Entry)
    → Emitted b a es × (a.n ≤ b.n + 1)
    → ((x : Context) (ps : List Pair) (p : Pair) → Holds x ps p item → es ≡ check x ps p) → Checked 1 item check b a
checked check w told = record { wrote = λ x ps p h. emitted-same (told x ps p h) w.0; few = w.1 }

-- ---- all pairs asked
pub any-all : (t : Pair → Bool) (catalogue fit : List ℕ) {i : ℕ} {found : Bool} → i ≡ pair_count fit
    → found ≡ any_of t (table i (pair_at catalogue fit)) → found ≡ any_of t (pairs_of catalogue fit)
any-all t catalogue fit e p =
    p ∙ ap (λ (n : ℕ). any_of t (table n (pair_at catalogue fit))) e ∙ ap (any_of t) (sym (pairs-table catalogue fit))
