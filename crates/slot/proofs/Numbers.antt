-- The checks that read an attribute: of a slot's own number, and of a subsystem's part.
use Prim.Native.Nat.{ℕ}
use mathlib.Core.Path.{◌≡◌, refl, sym, ◌∙◌}
use mathlib.Core.Bool.{Bool, true, false, not}
use mathlib.Core.List.{List, []}
use Rattle.std.specs.Prelude.{Option, None, Some}
use lib.Dec.{eqb}
use lib.Ieee.{Float, eq}
use borrow.Author.Tests.{eq-eqb, ne_eqb}
use Rattle.words.specs.Words.{◌>>=◌, when, when_any, any_of, given}
use Rattle.numbers.specs.Names as Names
use Rattle.numbers.specs.Slots as Slots
use Rattle.floats.specs.Floats.{to_u}
use Rattle.catalogue.specs.Catalogue.{Id, catalogue_of}
use Rattle.catalogue.specs.Lookups.{name_id}
use Rattle.fit.specs.Lookups.{value}
use Rattle.entry.specs.declared.Entry.{Entry}
use Rattle.entry.specs.declared.Rule.TheVariants.{WrongSlotIndex, SubsystemTaken}
use Rattle.context.specs.Context.{Pair, Context, context, is_in, is_other, on}
use Rattle.context.specs.Gathered.{context_of}
use Rattle.slot.specs.Slot.{slot_number_name, shares_part, wrong_slot_index, subsystem_taken}
use Rattle.slot.specs.AtPair.{expects}

-- the names of a call's context are the catalogue's
pub context-names : (catalogue fit : List ℕ) → (catalogue_of catalogue).names ≡ (context_of catalogue fit).names
unfolding context_of context
context-names catalogue fit = refl

pub part_named : (catalogue fit : List ℕ) {o : Option Id} → o ≡ name_id (catalogue_of catalogue).names Names.sub_system_slot
    → o ≡ name_id (context_of catalogue fit).names Names.sub_system_slot
unfolding context_of context
part_named catalogue fit e = e

-- ---- the number of an implant's or a booster's slot
module _ (p : Pair) {s : ℕ} (e : s ≡ p.slot) where
  pub number-implant : s ≡ Slots.implant → slot_number_name p ≡ Some Names.implantness
  unfolding slot_number_name is_in
  number-implant h = rw (← e, h)

  pub number-booster : s ≡ Slots.booster → slot_number_name p ≡ Some Names.boosterness
  unfolding slot_number_name is_in
  number-booster h = rw (← e, h)

  pub number-none : (s ≡ Slots.implant → ⊥) → (s ≡ Slots.booster → ⊥) → slot_number_name p ≡ None
  unfolding slot_number_name is_in
  number-none h k = rw (← e, ne_eqb s Slots.implant h, ne_eqb s Slots.booster k)

-- a value by way of another
bind_given : {A B C : Type 0} (o : Option A) (f : A → Option B) (g : B → List C) → ◌>>=◌ o (λ a. ◌>>=◌ (f a) g) ≡ ◌>>=◌ (given o None f) g
unfolding ◌>>=◌ given
bind_given None f g = refl
bind_given (Some a) f g = refl

module _ (x : Context) (p : Pair) where
  -- the attribute that names the item's slot
  abbrev number : Option Id
  number = given (slot_number_name p) None (name_id x.names)

  -- what is said of the index that it names
  abbrev named : Float → List Entry
  named v = when (not (eqb (to_u 16 v) p.index)) (on p (WrongSlotIndex (to_u 16 v)))

  by-id : wrong_slot_index x p ≡ ◌>>=◌ number (λ id. ◌>>=◌ (value p.result id) named)
  unfolding wrong_slot_index
  by-id = bind_given (slot_number_name p) (name_id x.names) _

  pub unnumbered : number ≡ None → expects p None ≡ wrong_slot_index x p
  unfolding expects ◌>>=◌
  unnumbered e = sym (by-id ∙ rw e)

  module _ (id : Id) (e : number ≡ Some id) where
    pub unnamed : value p.result id ≡ None → expects p None ≡ wrong_slot_index x p
    unfolding expects ◌>>=◌
    unnamed q = sym (by-id ∙ rw (e, q))

    module _ (v : Float) {r : ℕ} (q : value p.result id ≡ Some v) (t : r ≡ to_u 16 v) where
      by_value : {b : Bool} → eqb r p.index ≡ b → wrong_slot_index x p ≡ when (not b) (on p (WrongSlotIndex r))
      unfolding ◌>>=◌
      by_value s = by-id ∙ rw (e, q, ← t, s)

      pub right_index : r ≡ p.index → expects p None ≡ wrong_slot_index x p
      unfolding expects when
      right_index s = sym (by_value (eq-eqb r p.index s))

      pub wrong_index : (r ≡ p.index → ⊥) → expects p (Some r) ≡ wrong_slot_index x p
      unfolding expects when
      wrong_index s = sym (by_value (ne_eqb r p.index s))

-- ---- the part of a subsystem
module _ (id : Id) (part : Float) (p o : Pair) where
  pub part-own : o.position ≡ p.position → false ≡ shares_part id part p o
  unfolding shares_part is_other
  part-own e = rw (eq-eqb o.position p.position e)

  pub part-elsewhere : (o.position ≡ p.position → ⊥) → is_in Slots.subsystem o ≡ false → false ≡ shares_part id part p o
  unfolding shares_part is_other
  part-elsewhere n e = rw (ne_eqb o.position p.position n, e)

  pub part-is : {t : Bool} → (o.position ≡ p.position → ⊥) → is_in Slots.subsystem o ≡ true
      → t ≡ given (value o.result id) false (λ v. eq v part) → t ≡ shares_part id part p o
  unfolding shares_part is_other
  part-is n e q = rw (ne_eqb o.position p.position n, e) q

-- ---- a part that another subsystem has
bind_nil : {A B : Type 0} (o : Option A) (f : A → List B) → ((a : A) → f a ≡ []) → ◌>>=◌ o f ≡ []
unfolding ◌>>=◌
bind_nil None f h = refl
bind_nil (Some a) f h = h a

module _ (x : Context) (ps : List Pair) (p : Pair) where
  -- what the code's answer stands for
  abbrev told : Bool → List Entry
  told t = when t (on p SubsystemTaken)

  pub no_subsystem : is_in Slots.subsystem p ≡ false → told false ≡ subsystem_taken x ps p
  unfolding subsystem_taken when_any when
  no_subsystem e = sym (bind_nil (name_id x.names Names.sub_system_slot) _ (λ id. bind_nil (value p.result id) _ (λ part. rw e)))

  pub part-unnamed : name_id x.names Names.sub_system_slot ≡ None → told false ≡ subsystem_taken x ps p
  unfolding subsystem_taken ◌>>=◌ when
  part-unnamed e = rw e

  module _ (id : Id) (n : name_id x.names Names.sub_system_slot ≡ Some id) where
    pub part-missing : value p.result id ≡ None → told false ≡ subsystem_taken x ps p
    unfolding subsystem_taken ◌>>=◌ when
    part-missing v = rw (n, v)

    pub part-given : {t : Bool} (part : Float) → value p.result id ≡ Some part → is_in Slots.subsystem p ≡ true
        → t ≡ any_of (shares_part id part p) ps → told t ≡ subsystem_taken x ps p
    unfolding subsystem_taken when_any ◌>>=◌
    part-given part v e q = rw (n, v, e, q)
