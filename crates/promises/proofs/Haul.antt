-- Cargo behind a fit: every entry outside CargoBay stays. Rule by rule.
use Prim.Native.Nat.{ℕ}
use mathlib.Core.Path.{◌≡◌, refl, sym, ap, ap₂, ◌∙◌, subst}
use mathlib.Core.Bool.{Bool, true, false, not, ◌&&◌, ◌||◌, cond}
use mathlib.Core.List.{List, [], ◌∷◌, ◌++◌, append-nil}
use Rattle.std.specs.Prelude.{Option, None, Some}
use lib.Dec.{T, eqb, leb, ltb, eqb→eq}
use lib.ListN.{length}
use lib.Ieee.{Float}
use Rattle.floats.specs.Floats.{of_nat}
use Rattle.words.specs.Words.{◌>>=◌, each, when, when_any, when_above, unless, only, count_of, sum_of, any_of}
use Rattle.words.proofs.Steps.{only-append, each_append}
use Rattle.catalogue.specs.Catalogue.{Id, Catalogue}
use Rattle.catalogue.specs.Lookups.{name_id}
use Rattle.fit.specs.Fit.{Frame, mode_of}
use Rattle.fit.specs.Lookups.{amount}
use Rattle.numbers.specs.Slots as Slots
use Rattle.numbers.specs.Names as Names
use Rattle.numbers.specs.declared.Resource.TheVariants.{LaunchedDrones, CargoBay}
use Rattle.numbers.specs.declared.GroupLimit.{GroupLimit}
use Rattle.entry.specs.declared.Entry.{Entry}
use Rattle.entry.specs.declared.Rule.TheVariants.{NotAHull, Resource, ShipItem, StructureItem}
use Rattle.entry.specs.Entries.{on_ship}
use Rattle.context.specs.Context.{Pair, Context, context, is_in, is_fitted, is_fighter_slot, is_on_hull, is_other, on}
use Rattle.validate.specs.Kind.{is_hull, not_a_mode, not_a_skill}
use Rattle.resource.specs.Resource.{resource, is_launched, launched, loads, launched_drones, cargo}
use Rattle.racks.specs.Racks.{HARDPOINTS, takes_hardpoint, slots, racks, hardpoints}
use Rattle.slot.specs.Slot.{slot_number_name, holds_one, shares_slot, shares_part, wrong_slot, not_a_module, not_a_drone, not_a_fighter, not_an_implant}
use Rattle.slot.specs.Slot.{wrong_slot_index, slot_taken, subsystem_taken, slot_checks}
use Rattle.item.specs.Item.{rig_size_at, rig_size, is_restricted, is_structure, is_standup, ship_restricted_at, ship_restricted, is_capital_item, capital_item_at, capital_item, standup_at, standup}
use Rattle.limits.specs.Limits.{group_limit_rows, in_group, group_limit_at, group_limit, group_limits, of_type, type_limit_at, type_limit}
use Rattle.validate.specs.Validate.{hull_rules, list_with}
use Rattle.words.proofs.All.{All, nil, cons, all-when, all-bind}
use Rattle.lists.proofs.Numbers.{only_no, behind, parted}

-- ---- the words, over a list with others behind it that do not count
module _ {A : Type 0} where
  pub all_map : {P Q : A → Type 0} → ((x : A) → P x → Q x) → {l : List A} → All P l → All Q l
  all_map f nil = nil
  all_map f (cons {x} p h) = cons (f x p) (all_map f h)

  pub only_same : (t : A → Bool) (l m : List A) → All (λ x. t x ≡ false) m → only t (l ++ m) ≡ only t l
  only_same t l m h = only-append t l m ∙ ap (λ (r : List A). only t l ++ r) (only_no t h) ∙ append-nil (only t l)

  count_same : (t : A → Bool) (l m : List A) → All (λ x. t x ≡ false) m → count_of t (l ++ m) ≡ count_of t l
  unfolding count_of
  count_same t l m h = ap (λ (r : List A). length r) (only_same t l m h)

  any-no : (t : A → Bool) {m : List A} → All (λ x. t x ≡ false) m → any_of t m ≡ false
  unfolding any_of
  any-no t nil = refl
  any-no t (cons {x} {l} p h) = ap (λ (b : Bool). b || any_of t l) p ∙ any-no t h

  any_same : (t : A → Bool) (l m : List A) → All (λ x. t x ≡ false) m → any_of t (l ++ m) ≡ any_of t l
  unfolding any_of
  any_same t [] m h = any-no t h
  any_same t (x ∷ l) m h = ap (λ (b : Bool). t x || b) (any_same t l m h)

  module _ {B : Type 0} where
    each-no : (f : A → List B) {m : List A} → All (λ x. f x ≡ []) m → each m f ≡ []
    unfolding each
    each-no f nil = refl
    each-no f (cons {x} {l} p h) = ap (λ (r : List B). r ++ each l f) p ∙ each-no f h

    pub each-alike : (f g : A → List B) (l : List A) → ((x : A) → f x ≡ g x) → each l f ≡ each l g
    unfolding each
    each-alike f g [] h = refl
    each-alike f g (x ∷ l) h = ap₂ (λ (r s : List B). r ++ s) (h x) (each-alike f g l h)

    pub each_same : (f g : A → List B) (l m : List A) → ((x : A) → f x ≡ g x) → All (λ x. f x ≡ []) m → each (l ++ m) f ≡ each l g
    each_same f g l m h n = each_append f l m ∙ ap₂ (λ (r s : List B). r ++ s) (each-alike f g l h) (each-no f n) ∙ append-nil (each l g)

    bind_no : (o : Option A) (f : A → List B) → ((x : A) → f x ≡ []) → (◌>>=◌ o f) ≡ []
    unfolding ◌>>=◌
    bind_no None f h = refl
    bind_no (Some x) f h = h x

    pub bind_same : (o : Option A) (f g : A → List B) → ((x : A) → f x ≡ g x) → (◌>>=◌ o f) ≡ (◌>>=◌ o g)
    unfolding ◌>>=◌
    bind_same None f g h = refl
    bind_same (Some x) f g h = h x

  pub when-no : (b : Bool) (e : A) → b ≡ false → when b e ≡ []
  unfolding when
  when-no b e h = ap (λ (t : Bool). cond t (e ∷ []) []) h

pub and_no : (a b : Bool) → a ≡ false → (a && b) ≡ false
and_no true b h = absurd (subst (λ (t : Bool). T (not t)) (sym h) tt)
and_no false b h = refl

and_false : (a : Bool) → (a && false) ≡ false
and_false true = refl
and_false false = refl

and_no_right : (a b : Bool) → b ≡ false → (a && b) ≡ false
and_no_right true b h = h
and_no_right false b h = refl

module _ {A B : Type 0} where
  when_any-same : (b : Bool) (t : A → Bool) (l m : List A) (e : B) → (b ≡ true → All (λ x. t x ≡ false) m) → when_any b t (l ++ m) e ≡ when_any b t l e
  unfolding when_any
  when_any-same true t l m e h = ap (λ (b : Bool). when b e) (any_same t l m (h refl))
  when_any-same false t l m e h = refl

  when_any-no : (b : Bool) (t : A → Bool) (l : List A) (e : B) → b ≡ false → when_any b t l e ≡ []
  unfolding when_any when
  when_any-no b t l e h = ap (λ (c : Bool). cond (c && any_of t l) (e ∷ []) []) h

  when_above-same : (b : Bool) (t : A → Bool) (l m : List A) (limit : ℕ) (e : ℕ → B) → All (λ x. t x ≡ false) m
      → when_above b (count_of t (l ++ m)) limit e ≡ when_above b (count_of t l) limit e
  when_above-same b t l m limit e h = ap (λ (n : ℕ). when_above b n limit e) (count_same t l m h)

when_above-no : {B : Type 0} (b : Bool) (n limit : ℕ) (e : ℕ → B) → b ≡ false → when_above b n limit e ≡ []
unfolding when_above when
when_above-no b n limit e h = ap (λ (c : Bool). cond (c && ltb limit n) (e n ∷ []) []) h

not_yes : (b : Bool) → not b ≡ true → b ≡ false
not_yes true h = sym h
not_yes false h = refl

bool_clash : {b : Bool} → b ≡ true → b ≡ false → ⊥
bool_clash p q = subst T (sym p ∙ q) tt

-- ---- what a pair in the hold is not
abbrev pub Held : Pair → Type 0
Held p = p.slot ≡ Slots.cargo

module _ (p : Pair) (h : Held p) where
  not_in : (slot : ℕ) → eqb 11 slot ≡ false → is_in slot p ≡ false
  unfolding is_in
  not_in slot e = ap (λ (n : ℕ). eqb n slot) h ∙ e

  pub not-fitted : is_fitted p ≡ false
  unfolding is_fitted
  not-fitted = ap (λ (n : ℕ). leb n 5) h

  not-fighter : is_fighter_slot p ≡ false
  unfolding is_fighter_slot
  not-fighter = ap₂ (λ (a b : Bool). a || b) (not_in Slots.fighter_tube refl) (not_in Slots.fighter_bay refl)

  not-on_hull : is_on_hull p ≡ false
  unfolding is_on_hull
  not-on_hull = ap₂ (λ (a b : Bool). a || b) not-fitted not-fighter

  not-one : holds_one p ≡ false
  unfolding holds_one is_in
  not-one = ap (λ (n : ℕ). not (eqb n Slots.drone_bay || eqb n Slots.fighter_bay || eqb n Slots.cargo)) h

  no_number : slot_number_name p ≡ None
  unfolding slot_number_name
  no_number = ap₂ (λ (a b : Bool). cond a (Some Names.implantness) (cond b (Some Names.boosterness) None)) (not_in Slots.implant refl) (not_in Slots.booster refl)

module _ (x : Context) (ps added : List Pair) (held : All Held added) where
  abbrev qs : List Pair
  qs = ps ++ added

  none-held : (t : Pair → Bool) → ((p : Pair) → Held p → t p ≡ false) → All (λ (p : Pair). t p ≡ false) added
  none-held t f = all_map f held

  -- ---- resource.rs
  drones-same : launched_drones x qs ≡ launched_drones x ps
  unfolding launched_drones launched
  drones-same = ap (λ (l : List Pair). ◌>>=◌ (name_id x.names Names.max_active_drones) λ m. resource LaunchedDrones (of_nat (sum_of (λ p. p.quantity) l)) (amount x.character_result m))
      (only_same is_launched ps added (none-held is_launched λ p h. unfold is_launched in and_no _ _ (not_in p h Slots.drone_bay refl)))

  -- ---- slot.rs
  rack-count : (s : ℕ) → eqb 11 s ≡ false → count_of (is_in s) qs ≡ count_of (is_in s) ps
  rack-count s e = count_same (is_in s) ps added (none-held (is_in s) λ p h. not_in p h s e)

  racks-same : racks x qs ≡ racks x ps
  unfolding racks each
  racks-same = rw (rack-count 0 refl, rack-count 1 refl, rack-count 2 refl, rack-count 3 refl, rack-count 4 refl, rack-count 5 refl)

  hardpoints-same : hardpoints x qs ≡ hardpoints x ps
  unfolding hardpoints
  hardpoints-same = each-alike _ _ HARDPOINTS λ r.
      ap (slots x r.0 r.1) (count_same (takes_hardpoint r.0) ps added (none-held (takes_hardpoint r.0) λ p h. unfold takes_hardpoint in rw (not-fitted p h)))

  apart : (p o : Pair) → holds_one p ≡ true → Held o → shares_slot p o ≡ false
  unfolding shares_slot
  apart p o e h = rw (differ (eqb o.slot p.slot) refl, and_false (is_other p o))
    where
      differ : (b : Bool) → eqb o.slot p.slot ≡ b → eqb o.slot p.slot ≡ false
      differ true q = absurd (bool_clash e (not-one p (sym (eqb→eq o.slot p.slot (subst T (sym q) tt)) ∙ h)))
      differ false q = q

  slot_taken-same : (p : Pair) → slot_taken x qs p ≡ slot_taken x ps p
  unfolding slot_taken
  slot_taken-same p = when_any-same _ _ ps added _ (λ e. none-held _ (λ o h. apart p o e h))

  part_none : (id : Id) (part : Float) (p o : Pair) → Held o → shares_part id part p o ≡ false
  unfolding shares_part
  part_none id part p o h = rw (not_in o h Slots.subsystem refl, and_false (is_other p o))

  subsystem_taken-same : (p : Pair) → subsystem_taken x qs p ≡ subsystem_taken x ps p
  unfolding subsystem_taken
  subsystem_taken-same p = bind_same _ _ _ λ id. bind_same _ _ _ λ part.
      when_any-same _ _ ps added _ (λ e. none-held (shares_part id part p) (part_none id part p))

  module _ (p : Pair) (h : Held p) where
    wrong_slot-none : wrong_slot x p ≡ []
    unfolding wrong_slot
    wrong_slot-none = bind_no _ _ λ rack. bind_no _ _ λ expected. when-no _ _ (rw (not-fitted p h))

    not_a_module-none : not_a_module x p ≡ []
    unfolding not_a_module
    not_a_module-none = when-no _ _ (rw (not-fitted p h))

    not_a_drone-none : not_a_drone x p ≡ []
    unfolding not_a_drone
    not_a_drone-none = when-no _ _ (rw (not_in p h Slots.drone_bay refl))

    not_a_fighter-none : not_a_fighter x p ≡ []
    unfolding not_a_fighter
    not_a_fighter-none = when-no _ _ (rw (not-fighter p h))

    not_an_implant-none : not_an_implant x p ≡ []
    unfolding not_an_implant
    not_an_implant-none = when-no _ _ (rw (not_in p h Slots.implant refl, not_in p h Slots.booster refl))

    slot_taken-none : slot_taken x qs p ≡ []
    unfolding slot_taken
    slot_taken-none = when_any-no _ _ qs _ (not-one p h)

    wrong_slot_index-none : wrong_slot_index x p ≡ []
    unfolding wrong_slot_index ◌>>=◌
    wrong_slot_index-none = rw (no_number p h)

    subsystem_taken-none : subsystem_taken x qs p ≡ []
    unfolding subsystem_taken
    subsystem_taken-none = bind_no _ _ λ id. bind_no _ _ λ part. when_any-no _ _ qs _ (not_in p h Slots.subsystem refl)

    checks_none : slot_checks x qs p ≡ []
    unfolding slot_checks
    checks_none = rw (wrong_slot-none, not_a_module-none, not_a_drone-none, not_a_fighter-none, not_an_implant-none, slot_taken-none, wrong_slot_index-none, subsystem_taken-none)

  checks_same : each qs (slot_checks x qs) ≡ each ps (slot_checks x ps)
  checks_same = each_same _ _ ps added (λ p. unfold slot_checks in rw (slot_taken-same p, subsystem_taken-same p)) (all_map checks_none held)

  -- ---- item.rs
  at_none : (f : Pair → List Entry) → ((p : Pair) → Held p → f p ≡ []) → each qs f ≡ each ps f
  at_none f h = each_same f f ps added (λ p. refl) (all_map h held)

  rig_size_at-none : (id : Id) (ship : Float) (p : Pair) → Held p → rig_size_at id ship p ≡ []
  unfolding rig_size_at
  rig_size_at-none id ship p h = bind_no _ _ λ size. when-no _ _ (rw (not_in p h Slots.rig refl))

  rig_size-same : rig_size x qs ≡ rig_size x ps
  unfolding rig_size
  rig_size-same = bind_same _ _ _ λ id. bind_same _ _ _ λ ship. at_none (rig_size_at id ship) (rig_size_at-none id ship)

  ship_restricted_at-none : (p : Pair) → Held p → ship_restricted_at x p ≡ []
  unfolding ship_restricted_at is_restricted
  ship_restricted_at-none p h = when-no _ _ (rw (not-fitted p h))

  ship_restricted-same : ship_restricted x qs ≡ ship_restricted x ps
  unfolding ship_restricted
  ship_restricted-same = at_none (ship_restricted_at x) ship_restricted_at-none

  capital_item_at-none : (volume : Id) (p : Pair) → Held p → capital_item_at volume p ≡ []
  unfolding capital_item_at is_capital_item
  capital_item_at-none volume p h = when-no _ _ (rw (not-fitted p h))

  capital_item-same : capital_item x qs ≡ capital_item x ps
  unfolding capital_item
  capital_item-same = bind_same _ _ _ λ volume. bind_same _ _ _ λ capital. ap (unless _) (at_none (capital_item_at volume) (capital_item_at-none volume))

  standup_at-none : (p : Pair) → Held p → standup_at x p ≡ []
  unfolding standup_at
  standup_at-none p h = go (is_structure x)
    where
      go : (b : Bool) → cond b (when (is_on_hull p && not (is_standup x p)) (on p ShipItem)) (when (is_on_hull p && is_standup x p) (on p StructureItem)) ≡ []
      go true = when-no _ _ (and_no _ _ (not-on_hull p h))
      go false = when-no _ _ (and_no _ _ (not-on_hull p h))

  standup-same : standup x qs ≡ standup x ps
  unfolding standup
  standup-same = at_none (standup_at x) standup_at-none

  in_group-none : (group : Id) (lowest : ℕ) (p : Pair) → Held p → in_group group lowest p ≡ false
  unfolding in_group
  in_group-none group lowest p h = rw (not-fitted p h)

  group_limit_at-same : (limit : GroupLimit) (lowest : ℕ) (id : Id) (p : Pair) → group_limit_at limit lowest id qs p ≡ group_limit_at limit lowest id ps p
  unfolding group_limit_at
  group_limit_at-same limit lowest id p = bind_same _ _ _ λ allowed. when_above-same _ _ ps added _ _ (none-held _ (in_group-none p.group lowest))

  group_limit_at-none : (limit : GroupLimit) (lowest : ℕ) (id : Id) (p : Pair) → Held p → group_limit_at limit lowest id qs p ≡ []
  unfolding group_limit_at
  group_limit_at-none limit lowest id p h = bind_no _ _ λ allowed. when_above-no _ _ _ _ (not-fitted p h)

  group_limits-same : group_limits x qs ≡ group_limits x ps
  unfolding group_limits group_limit
  group_limits-same = each-alike _ _ group_limit_rows λ g. bind_same _ _ _ λ id.
      each_same (group_limit_at g.0 g.1 id qs) (group_limit_at g.0 g.1 id ps) ps added (group_limit_at-same g.0 g.1 id)
      (all_map (group_limit_at-none g.0 g.1 id) held)

  of_type-none : (type : Id) (p : Pair) → Held p → of_type type p ≡ false
  unfolding of_type
  of_type-none type p h = rw (not-fitted p h)

  type_limit_at-same : (id : Id) (p : Pair) → type_limit_at id qs p ≡ type_limit_at id ps p
  unfolding type_limit_at
  type_limit_at-same id p = bind_same _ _ _ λ allowed. when_above-same _ _ ps added _ _ (none-held _ (of_type-none p.type))

  type_limit_at-none : (id : Id) (p : Pair) → Held p → type_limit_at id qs p ≡ []
  unfolding type_limit_at
  type_limit_at-none id p h = bind_no _ _ λ allowed. when_above-no _ _ _ _ (not-fitted p h)

  type_limit-same : type_limit x qs ≡ type_limit x ps
  unfolding type_limit
  type_limit-same = bind_same _ _ _ λ id. each_same (type_limit_at id qs) (type_limit_at id ps) ps added (type_limit_at-same id) (all_map (type_limit_at-none id) held)

  behind-same : behind x qs ≡ behind x ps
  behind-same = rw (racks-same, hardpoints-same, checks_same, rig_size-same, ship_restricted-same, capital_item-same, standup-same, group_limits-same, type_limit-same)

  -- ---- a filter that takes CargoBay out
  module _ (t : Entry → Bool) (gone : (u a : Float) → t (on_ship (Resource CargoBay u a)) ≡ false) where
    gone-cargo : (l : List Pair) → only t (cargo x l) ≡ []
    unfolding cargo resource
    gone-cargo l = only_no t (all-bind _ λ capacity. all-when _ _ (λ _. gone _ _))

    only-parted : (l : List Pair) → only t (hull_rules x l) ≡ only t (loads x ++ launched_drones x l) ++ only t (behind x l)
    only-parted l =
        ap (only t) (parted x l)
        ∙ only-append t (loads x ++ launched_drones x l) (cargo x l ++ behind x l)
        ∙ ap (λ (m : List Entry). only t (loads x ++ launched_drones x l) ++ m) (only-append t (cargo x l) (behind x l) ∙ ap (λ (m : List Entry). m ++ only t (behind x l)) (gone-cargo l))

    pub rules-same : only t (hull_rules x qs) ≡ only t (hull_rules x ps)
    rules-same = only-parted qs ∙ ap₂ (λ (a b : List Entry). only t (loads x ++ a) ++ only t b) drones-same behind-same ∙ sym (only-parted ps)

-- ---- the list of a fit with cargo put behind
module _ (t : Entry → Bool) (gone : (u a : Float) → t (on_ship (Resource CargoBay u a)) ≡ false) (ps added : List Pair) (held : All Held added) where
  pub list_same : (c : Catalogue) (k : Frame) (ids : List Id) → only t (list_with c k ids (ps ++ added)) ≡ only t (list_with c k ids ps)
  unfolding list_with
  list_same c k ids = go (is_hull c k.ship)
    where
      front : List Entry
      front = not_a_mode c (mode_of k) ++ not_a_skill c ids

      go : (b : Bool) → only t (cond b (not_a_mode c (mode_of k) ++ not_a_skill c ids ++ hull_rules (context c k) (ps ++ added)) (on_ship NotAHull ∷ []))
          ≡ only t (cond b (not_a_mode c (mode_of k) ++ not_a_skill c ids ++ hull_rules (context c k) ps) (on_ship NotAHull ∷ []))
      go true =
          only-append t front (hull_rules (context c k) (ps ++ added))
          ∙ ap (λ (m : List Entry). only t front ++ m) (rules-same (context c k) ps added held t gone)
          ∙ sym (only-append t front (hull_rules (context c k) ps))
      go false = refl
