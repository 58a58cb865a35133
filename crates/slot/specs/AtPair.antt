-- validate/slot.rs: what the code holds of the names, of where pairs sit and of a pair, and what it tells of the pair.
use Rattle.std.specs.Prelude.{ℕ, ◌+◌, ◌*◌, ◌<◌, ◌≤◌, ◌≡◌, ◌&&◌, List, [], ◌∷◌, get_or}
use Rattle.std.specs.Prelude.{Option, None, Some}
use Rattle.words.specs.Words.{when, any_of}
use Rattle.numbers.specs.Names as Names
use Rattle.catalogue.specs.Catalogue.{catalogue_of}
use Rattle.catalogue.specs.Lookups.{name_id}
use Rattle.fit.specs.Fit.{item_at}
use Rattle.entry.specs.declared.Entry.{Entry}
use Rattle.entry.specs.declared.Rule.TheVariants.{WrongSlotIndex, SubsystemTaken}
use Rattle.entry.specs.declared.Entries.{Entries}
use Rattle.entry.specs.Emitted.{Emitted}
use Rattle.context.specs.Context.{Pair, Context, on}
use Rattle.context.specs.Gathered.{pair_count}
use Rattle.slot.specs.declared.Ids.{Ids}
use Rattle.slot.specs.declared.Item.{Item}
use Rattle.slot.specs.Slot.{holds_one, shares_slot, wrong_slot_index, subsystem_taken}

-- the attributes that the checks look up
pub record Named (catalogue : List ℕ) (ids : Ids) : Type 0 where
  pub implantness : ids.implantness ≡ name_id (catalogue_of catalogue).names Names.implantness
  pub boosterness : ids.boosterness ≡ name_id (catalogue_of catalogue).names Names.boosterness
  pub part : ids.part ≡ name_id (catalogue_of catalogue).names Names.sub_system_slot

-- a slot and an index as one number, which is that of no others
pub record Sits (slot index place : ℕ) : Type 0 where
  pub number : place ≡ slot * 65536 + index
  pub small : index < 65536

-- an array holds where each of the first n pairs sits, at the pair's position
abbrev pub Placed : ℕ → (fit places : List ℕ) → Type 0
Placed n fit places = (i : ℕ) → i < n → Sits (item_at fit i).slot (item_at fit i).index (get_or places i 0)

abbrev pub Places : (fit places : List ℕ) → Type 0
Places fit places = Placed (pair_count fit) fit places

-- the entry of a pair that should have another index
unfoldable pub expects : Pair → Option ℕ → List Entry
expects p None = []
expects p (Some index) = on p (WrongSlotIndex index) ∷ []

-- an item holds what the checks look at of a pair
pub record Holds (x : Context) (ps : List Pair) (p : Pair) (item : Item) : Type 0 where
  pub position : item.position ≡ p.position
  pub slot : item.slot ≡ p.slot
  pub category : item.category ≡ p.category
  pub rack : item.rack ≡ p.rack
  pub taken : item.taken ≡ (holds_one p && any_of (shares_slot p) ps)
  pub expected : expects p item.expected ≡ wrong_slot_index x p
  pub covered : when item.covered (on p SubsystemTaken) ≡ subsystem_taken x ps p

-- code wrote what a check says of any pair that the item holds, and so many entries at most
pub record Checked
    (most : ℕ) (item : Item) (check : Context → List Pair → Pair → List Entry)
    (before after : Entries) : Type 0 where
  pub wrote : (x : Context) (ps : List Pair) (p : Pair) → Holds x ps p item → Emitted before after (check x ps p)
  pub few : after.n ≤ before.n + most
