-- The list over all pairs, and over those of a set that has an entry's own pair: each has an entry of the rule where the rule is still
-- broken by them. Rule by rule.
use Prim.Native.Nat.{ℕ, zero, suc, ◌<◌}
use native.Mathlib.Omega.{arith}
use mathlib.Core.Path.{◌≡◌, refl, sym, ap, ap₂, ◌∙◌, subst}
use mathlib.Core.Bool.{Bool, true, false, ◌&&◌, ◌||◌, cond, true≢false}
use mathlib.Core.List.{List, [], ◌∷◌, ◌++◌}
use lib.Dec.{eqb, ltb}
use lib.ListN.{length}
use lib.Ieee.{Float}
use Rattle.std.specs.Prelude.{Option, None, Some, slice_get, is_none}
use Rattle.std.proofs.lemmas.Bool.{and_parts, eqb-true, lt-ltb}
use Rattle.words.specs.Words.{each, when, when_any, when_above, only, count_of, any_of, given}
use Rattle.words.proofs.All.{All, nil, cons}
use Rattle.numbers.specs.Names as Names
use Rattle.numbers.specs.Slots as Slots
use Rattle.numbers.specs.Limits as Limits
use Rattle.numbers.specs.Resources as Resources
use Rattle.numbers.specs.declared.SlotKind.{SlotKind}
use Rattle.numbers.specs.declared.GroupLimit.{GroupLimit}
use Rattle.numbers.specs.declared.Resource.{Resource}
use Rattle.floats.specs.Floats.{zero_f, of_nat, to_u, over}
use Rattle.catalogue.specs.Catalogue.{Id, Catalogue}
use Rattle.catalogue.specs.Lookups.{name_id}
use Rattle.fit.specs.Fit.{Result, Frame}
use Rattle.fit.specs.Lookups.{value, amount}
use Rattle.entry.specs.declared.Target.{Target}
use Rattle.entry.specs.declared.Target.TheVariants.{Ship, Item}
use Rattle.entry.specs.declared.Rule.{Rule}
use Rattle.entry.specs.declared.Rule.TheVariants.{Slots, SlotTaken, SubsystemTaken, MaxGroup, MaxType}
use Rattle.entry.specs.declared.Rule.TheVariants as Rules
use Rattle.entry.specs.declared.Entry.{Entry}
use Rattle.entry.specs.Entries.{fields, number, on_ship}
use Rattle.context.specs.Context.{Pair, Context, context, is_in, on}
use Rattle.resource.specs.Resource.{LOADS, resource, launched, cargo_used, loads, launched_drones, cargo, resources}
use Rattle.racks.specs.Racks.{RACKS, HARDPOINTS, takes_hardpoint, slots, racks, hardpoints}
use Rattle.racks.specs.Taking.{takes}
use Rattle.slot.specs.Slot.{wrong_slot, not_a_module, not_a_drone, not_a_fighter, not_an_implant, wrong_slot_index}
use Rattle.slot.specs.Slot.{shares_slot, shares_part, slot_taken, subsystem_taken, slot_checks}
use Rattle.item.specs.Item.{rig_size_at, rig_size, ship_restricted_at, ship_restricted, is_structure, capital_item_at, capital_item}
use Rattle.item.specs.Item.{standup_at, standup}
use Rattle.limits.specs.Limits.{group_limit_rows, in_group, group_limit_at, group_limit, group_limits, of_type, type_limit_at, type_limit}
use Rattle.validate.specs.Kind.{is_hull, not_a_mode, not_a_skill}
use Rattle.validate.specs.Validate.{hull_rules, list_with}
use Rattle.lists.specs.Terms.{main}
use Rattle.lists.specs.Unknown.{unknown_type_at, unknown_types}
use Rattle.lists.specs.Lists.{on_hull, league_with, whole_with}
use Rattle.lists.proofs.Behind.{no_league}
use Rattle.parts.specs.Parts.{chosen, holds}
use Rattle.cause.specs.Cause.{id_of, alike, same_target, is_about, is_kept}
use Rattle.cause.specs.Members.{own, sub_of, slots_row, group_row, amount_of, allowed_by, covers, is_beside, allowed_beside}
use Rattle.cause.specs.Members.{is_counted, is_member, limit, is_broken}
use Rattle.cause.proofs.Steady.{Steady, steady_none, steady_join, steady_test, steady_alone, steady_unless, steady_cond, steady_bind}
use Rattle.cause.proofs.Steady.{steady_each, steady_chosen}

-- ---- elements of lists
pub none_some : {A : Type 0} {B : Type 0} {x : A} → None ≡ Some x → B
none_some e = absurd (true≢false (ap is_none e))

pub some_same : {A : Type 0} (x y : A) → Some x ≡ Some y → x ≡ y
unfolding given
some_same {A} x y e = ap (λ (o : Option A). given o x (λ z. z)) e

pub below_length : {A : Type 0} (l : List A) (i : ℕ) (x : A) → slice_get l i ≡ Some x → i < length l
below_length [] i x e = none_some e
below_length (y ∷ l) zero x e = omega arith
below_length (y ∷ l) (suc i) x e = let k = below_length l i x e in omega (arith, k)

-- ---- an entry that is about the same, of the same rule
own_same : (u t : Target) → same_target u t ≡ true → own u ≡ own t
unfolding same_target own
own_same Ship Ship h = refl
own_same Ship (Item j) h = absurd (true≢false (sym h))
own_same (Item i) Ship h = absurd (true≢false (sym h))
own_same (Item i) (Item j) h = ap (λ (n : ℕ). Some n) (eqb-true i j h)

-- what is kept of a target that is a pair
kept_own : (kept : List Bool) (t : Target) (i : ℕ) → is_kept kept t ≡ true → same_target (Item i) t ≡ true → holds kept i ≡ true
unfolding is_kept same_target
kept_own kept Ship i k h = absurd (true≢false (sym h))
kept_own kept (Item j) i k h = subst (λ (n : ℕ). holds kept n ≡ true) (sym (eqb-true i j h)) k

all-any : {A : Type 0} (l : List A) → All (λ _. Prim.Unit {0}) l
all-any [] = nil
all-any (x ∷ l) = cons tt (all-any l)

-- a test that some pass is a count above 0
pub any_counted : {A : Type 0} (t : A → Bool) (l : List A) → any_of t l ≡ ltb 0 (count_of t l)
unfolding any_of count_of only
any_counted t [] = refl
any_counted {A} t (x ∷ l) = go (t x) (any_counted t l)
  where
    go : (b : Bool) → any_of t l ≡ ltb 0 (length (only t l)) → b || any_of t l ≡ ltb 0 (length (cond b (x ∷ only t l) (only t l)))
    go true h = sym (lt-ltb 0 (suc (length (only t l))) (omega arith))
    go false h = h

-- ---- an attribute that is there
module _ (x : Context) (name : ℕ) (id : Id) (named : name_id x.names name ≡ Some id) (res : Result) where
  amount_named : amount_of x name res ≡ amount res id
  unfolding amount_of amount given
  amount_named = ap (λ (o : Option Id). given o zero_f (amount res)) named

  value_named : (v : Float) → value res id ≡ Some v → to_u 32 v ≡ allowed_by x name res
  unfolding amount given
  value_named v e = ap (to_u 32) (sym (amount_named ∙ ap (λ (o : Option Float). given o zero_f (λ w. w)) e))

module _ (x : Context) (ps : List Pair) (kept : List Bool) (t : Target) (r : Rule) where
  abbrev qs : List Pair
  qs = chosen kept ps

  abbrev about : Entry → Bool
  about = is_about t r

  -- the rule is still broken by some pairs: the rule and the target asked for, and those of an entry
  abbrev broken : List Pair → Bool
  broken l = is_broken x ps (own t) (fields r).0 (fields r).1 l

  abbrev broken_by : Entry → List Pair → Bool
  broken_by e l = is_broken x ps (own e.target) (number e) (sub_of e) l

  told : (e : Entry) → about e ≡ true → (l : List Pair) → broken_by e l ≡ broken l
  unfolding is_about alike
  told e h l =
      let p = and_parts _ _ h in
      let a = and_parts _ _ p.1 in
      let b = and_parts _ _ a.0 in
      rw (own_same e.target t p.0, eqb-true (fields r).0 (fields e.rule).0 b.0, eqb-true (fields r).1 (fields e.rule).1 b.1)

  -- ---- about the ship
  -- the target is the ship, or one of the pairs
  abbrev pub Aimed : Type 0
  Aimed = (i : ℕ) → own t ≡ Some i → i < length ps

  abbrev Alike : List Entry → List Entry → Type 0
  Alike = Steady about (broken ps) (broken qs) Aimed

  aimed_ship : (u : Rule) → about (on_ship u) ≡ true → Aimed
  unfolding is_about own
  aimed_ship u h = λ i e. none_some (own_same Ship t (and_parts _ _ h).0 ∙ e)

  alone_ship : (b : Bool) (u : Rule) → ((l : List Pair) → true ≡ broken_by (on_ship u) l) → Alike (when b (on_ship u)) (when b (on_ship u))
  alone_ship b u h =
      steady_alone b (on_ship u) (λ q. h ps ∙ told (on_ship u) q ps) (λ q. h qs ∙ told (on_ship u) q qs) (aimed_ship u)

  test_ship : (b tp tq : Bool) (u v : Rule) → about (on_ship u) ≡ about (on_ship v)
      → tp ≡ broken_by (on_ship u) ps → tq ≡ broken_by (on_ship v) qs
      → Alike (when (b && tp) (on_ship u)) (when (b && tq) (on_ship v))
  test_ship b tp tq u v s hp hq =
      steady_test b tp tq (on_ship u) (on_ship v) s (λ q. hp ∙ told (on_ship u) q ps) (λ q. hq ∙ told (on_ship v) q qs) (aimed_ship u)

  -- ---- resource.rs
  -- a resource that no list sums up
  abbrev Loaded : Resource × ℕ × ℕ → Type 0
  Loaded row = (eqb (Resources.number row.0) 5 ≡ false) × (eqb (Resources.number row.0) 11 ≡ false)

  all_loaded : All Loaded LOADS
  all_loaded =
      cons (refl, refl) (cons (refl, refl) (cons (refl, refl) (cons (refl, refl) (cons (refl, refl)
      (cons (refl, refl) (cons (refl, refl) (cons (refl, refl) (cons (refl, refl) (cons (refl, refl) nil)))))))))

  loads-alike : Alike (loads x) (loads x)
  unfolding loads resource is_broken is_counted any_of fields
  loads-alike = steady_each all_loaded λ row q. steady_bind _ λ load _. steady_bind _ λ output _.
      alone_ship _ _ (λ l. rw (q.0, q.1))

  drones_alike : Alike (launched_drones x ps) (launched_drones x qs)
  unfolding launched_drones resource is_broken fields is_about alike id_of any_of
  drones_alike = steady_bind _ λ id named.
      test_ship true _ _ _ _ refl
      (ap (over (of_nat (launched ps))) (sym (amount_named x Names.max_active_drones id named x.character_result)))
      (ap (over (of_nat (launched qs))) (sym (amount_named x Names.max_active_drones id named x.character_result)))

  cargo-alike : Alike (cargo x ps) (cargo x qs)
  unfolding cargo resource is_broken fields is_about alike id_of any_of
  cargo-alike = steady_bind _ λ id named.
      test_ship true _ _ _ _ refl
      (ap (over (cargo_used ps)) (sym (amount_named x Names.capacity id named x.ship_result)))
      (ap (over (cargo_used qs)) (sym (amount_named x Names.capacity id named x.ship_result)))

  resources_alike : Alike (resources x ps) (resources x qs)
  unfolding resources
  resources_alike = steady_join (steady_join loads-alike drones_alike) cargo-alike

  -- ---- slot.rs, about the ship
  -- a row of either table: found by its number, and what takes it
  abbrev Rowed : (Pair → Bool) → SlotKind × ℕ → Type 0
  Rowed member row = (slots_row (Slots.number row.0) ≡ Some row) × (takes row.0 ≡ member)

  slots-members : (row : SlotKind × ℕ) (member : Pair → Bool) → Rowed member row → is_member x ps None 2 (Slots.number row.0) ≡ member
  unfolding is_member given
  slots-members row member q = ap {B = Pair → Bool} (λ (o : Option (SlotKind × ℕ)) (p : Pair). given o false (λ w. takes w.0 p)) q.0 ∙ q.1

  slots-limit : (row : SlotKind × ℕ) (member : Pair → Bool) → Rowed member row → (id : Id) → name_id x.names row.1 ≡ Some id
      → limit x ps None 2 (Slots.number row.0) ≡ to_u 32 (amount x.ship_result id)
  unfolding limit given
  slots-limit row member q id named = rw (q.0, amount_named x row.1 id named x.ship_result)

  slots-broken : (row : SlotKind × ℕ) (member : Pair → Bool) → Rowed member row → (id : Id) → name_id x.names row.1 ≡ Some id
      → (l : List Pair) → ltb (to_u 32 (amount x.ship_result id)) (count_of member l) ≡ is_broken x ps None 2 (Slots.number row.0) l
  unfolding is_broken is_counted any_of
  slots-broken row member q id named l = sym (rw (slots-members row member q, slots-limit row member q id named))

  slots_alike : (row : SlotKind × ℕ) (member : Pair → Bool) → Rowed member row
      → Alike (slots x row.0 row.1 (count_of member ps)) (slots x row.0 row.1 (count_of member qs))
  unfolding slots when_above is_about alike fields id_of any_of own
  slots_alike row member q = steady_bind _ λ id named.
      test_ship true _ _ _ _ refl (slots-broken row member q id named ps) (slots-broken row member q id named qs)

  racks-rowed : All (λ row. Rowed (is_in (Slots.number row.0)) row) RACKS
  unfolding takes
  racks-rowed =
      cons (refl, refl) (cons (refl, refl) (cons (refl, refl) (cons (refl, refl) (cons (refl, refl) (cons (refl, refl) nil)))))

  hardpoints-rowed : All (λ row. Rowed (takes_hardpoint row.0) row) HARDPOINTS
  unfolding takes
  hardpoints-rowed = cons (refl, refl) (cons (refl, refl) nil)

  racks-alike : Alike (racks x ps) (racks x qs)
  unfolding racks
  racks-alike = steady_each racks-rowed λ row q. slots_alike row (is_in (Slots.number row.0)) q

  hardpoints_alike : Alike (hardpoints x ps) (hardpoints x qs)
  unfolding hardpoints
  hardpoints_alike = steady_each hardpoints-rowed λ row q. slots_alike row (takes_hardpoint row.0) q

  -- ---- about a pair
  module _ (own_kept : is_kept kept t ≡ true) where
    module _ (i : ℕ) (p : Pair) (there : slice_get ps i ≡ Some p) (numbered : p.position ≡ i) where
      abbrev AlikeAt : List Entry → List Entry → Type 0
      AlikeAt = Steady about (broken ps) (broken qs) ((holds kept i ≡ true) × Aimed)

      whose_pair : (u : Rule) → about (on p u) ≡ true → (holds kept i ≡ true) × Aimed
      unfolding is_about own
      whose_pair u h =
          let q : same_target (Item i) t ≡ true = ap (λ (n : ℕ). same_target (Item n) t) (sym numbered) ∙ (and_parts _ _ h).0 in (
            kept_own kept t i own_kept q,
            λ j e. subst (λ (n : ℕ). n < length ps) (some_same i j (own_same (Item i) t q ∙ e)) (below_length ps i p there),
          )

      alone_at : (b : Bool) (u : Rule) → ((l : List Pair) → true ≡ broken_by (on p u) l) → AlikeAt (when b (on p u)) (when b (on p u))
      alone_at b u h = steady_alone b (on p u) (λ q. h ps ∙ told (on p u) q ps) (λ q. h qs ∙ told (on p u) q qs) (whose_pair u)

      test_at : (b tp tq : Bool) (u v : Rule) → about (on p u) ≡ about (on p v) → tp ≡ broken_by (on p u) ps → tq ≡ broken_by (on p v) qs
          → AlikeAt (when (b && tp) (on p u)) (when (b && tq) (on p v))
      test_at b tp tq u v s hp hq =
          steady_test b tp tq (on p u) (on p v) s (λ q. hp ∙ told (on p u) q ps) (λ q. hq ∙ told (on p v) q qs) (whose_pair u)

      own_there : slice_get ps p.position ≡ Some p
      own_there = ap (slice_get ps) numbered ∙ there

      -- by the rule's members
      beside-members : (rule sub : ℕ) → eqb rule 2 ≡ false → is_member x ps (Some p.position) rule sub ≡ is_beside x rule sub p
      unfolding is_member given
      beside-members rule sub two =
          ap {B = Pair → Bool} (λ (b : Bool) (o : Pair). cond b (given (slots_row sub) false (λ row. takes row.0 o))
          (given (slice_get ps p.position) false (λ q. is_beside x rule sub q o))) two
          ∙ ap {B = Pair → Bool} (λ (op : Option Pair) (o : Pair). given op false (λ q. is_beside x rule sub q o)) own_there

      beside-limit : (rule sub : ℕ) → eqb rule 2 ≡ false → limit x ps (Some p.position) rule sub ≡ allowed_beside x rule sub p
      unfolding limit given
      beside-limit rule sub two = rw (two, own_there)

      beside : (rule sub : ℕ) → eqb rule 1 ≡ false → eqb rule 2 ≡ false → is_counted rule ≡ true → (l : List Pair)
          → ltb (allowed_beside x rule sub p) (count_of (is_beside x rule sub p) l) ≡ is_broken x ps (Some p.position) rule sub l
      unfolding is_broken
      beside rule sub one two counted l = sym (rw (one, counted, beside-members rule sub two, beside-limit rule sub two))

      -- ---- slot.rs
      wrong_slot-alike : AlikeAt (wrong_slot x p) (wrong_slot x p)
      unfolding wrong_slot is_broken is_counted any_of fields
      wrong_slot-alike = steady_bind _ λ rack _. steady_bind _ λ expected _. alone_at _ _ (λ l. refl)

      alone-alike : AlikeAt (wrong_slot x p ++ not_a_module x p ++ not_a_drone x p ++ not_a_fighter x p ++ not_an_implant x p)
          (wrong_slot x p ++ not_a_module x p ++ not_a_drone x p ++ not_a_fighter x p ++ not_an_implant x p)
      unfolding not_a_module not_a_drone not_a_fighter not_an_implant is_broken is_counted any_of fields
      alone-alike =
          steady_join (steady_join (steady_join (steady_join
          wrong_slot-alike
          (alone_at _ _ (λ l. refl)))
          (alone_at _ _ (λ l. refl)))
          (alone_at _ _ (λ l. refl)))
          (alone_at _ _ (λ l. refl))

      index-alike : AlikeAt (wrong_slot_index x p) (wrong_slot_index x p)
      unfolding wrong_slot_index is_broken is_counted any_of fields
      index-alike = steady_bind _ λ name _. steady_bind _ λ id _. steady_bind _ λ v _. alone_at _ _ (λ l. refl)

      slot_taken-alike : AlikeAt (slot_taken x ps p) (slot_taken x qs p)
      unfolding slot_taken when_any fields own is_beside allowed_beside is_counted any_of
      slot_taken-alike =
          test_at _ _ _ SlotTaken SlotTaken refl
          (any_counted (shares_slot p) ps ∙ beside 8 0 refl refl refl ps)
          (any_counted (shares_slot p) qs ∙ beside 8 0 refl refl refl qs)

      covers-is : (id : Id) → name_id x.names Names.sub_system_slot ≡ Some id → (part : Float) → value p.result id ≡ Some part
          → is_beside x 10 0 p ≡ shares_part id part p
      unfolding is_beside covers given
      covers-is id named part for =
          ap {B = Pair → Bool}
          (λ (o : Option Id) (q : Pair). given o false λ a. given (value p.result a) false λ v. shares_part a v p q) named
          ∙ ap {B = Pair → Bool} (λ (o : Option Float) (q : Pair). given o false λ v. shares_part id v p q) for

      part-broken : (id : Id) → name_id x.names Names.sub_system_slot ≡ Some id → (part : Float) → value p.result id ≡ Some part
          → (l : List Pair) → any_of (shares_part id part p) l ≡ broken_by (on p SubsystemTaken) l
      unfolding fields own is_counted any_of allowed_beside
      part-broken id named part for l =
          any_counted (shares_part id part p) l
          ∙ ap (λ (m : Pair → Bool). ltb 0 (count_of m l)) (sym (covers-is id named part for))
          ∙ beside 10 0 refl refl refl l

      subsystem_taken-alike : AlikeAt (subsystem_taken x ps p) (subsystem_taken x qs p)
      unfolding subsystem_taken when_any
      subsystem_taken-alike = steady_bind _ λ id named. steady_bind _ λ part for.
          test_at _ _ _ SubsystemTaken SubsystemTaken refl (part-broken id named part for ps) (part-broken id named part for qs)

      checks-alike : AlikeAt (slot_checks x ps p) (slot_checks x qs p)
      unfolding slot_checks
      checks-alike = steady_join (steady_join (steady_join alone-alike slot_taken-alike) index-alike) subsystem_taken-alike

      -- ---- item.rs, its limits
      abbrev Limited : GroupLimit × ℕ × ℕ → Type 0
      Limited g = group_row (Limits.number g.0) ≡ Some g

      group-members : (g : GroupLimit × ℕ × ℕ) → Limited g → is_beside x 17 (Limits.number g.0) p ≡ in_group p.group g.1
      unfolding is_beside given
      group-members g q = ap {B = Pair → Bool} (λ (o : Option (GroupLimit × ℕ × ℕ)) (k : Pair). given o false λ w. in_group p.group w.1 k) q

      group-allowed : (g : GroupLimit × ℕ × ℕ) → Limited g → (id : Id) → name_id x.names g.2 ≡ Some id → (v : Float)
          → value p.result id ≡ Some v → to_u 32 v ≡ allowed_beside x 17 (Limits.number g.0) p
      unfolding allowed_beside given
      group-allowed g q id named v e =
          value_named x g.2 id named p.result v e
          ∙ sym (ap (λ (o : Option (GroupLimit × ℕ × ℕ)). given o 0 λ w. allowed_by x w.2 p.result) q)

      group-alike : (g : GroupLimit × ℕ × ℕ) → Limited g → (id : Id) → name_id x.names g.2 ≡ Some id
          → AlikeAt (group_limit_at g.0 g.1 id ps p) (group_limit_at g.0 g.1 id qs p)
      unfolding group_limit_at when_above is_about alike fields id_of any_of own is_counted
      group-alike g q id named = steady_bind _ λ v e.
          let broken_is : (l : List Pair) → ltb (to_u 32 v) (count_of (in_group p.group g.1) l)
          ≡ is_broken x ps (Some p.position) 17 (Limits.number g.0) l
          = λ l. ap₂ (λ (n : ℕ) (m : Pair → Bool). ltb n (count_of m l)) (group-allowed g q id named v e) (sym (group-members g q))
          ∙ beside 17 (Limits.number g.0) refl refl refl l in
          test_at _ _ _ _ _ refl (broken_is ps) (broken_is qs)

      type-alike : (id : Id) → name_id x.names Names.max_type_fitted ≡ Some id → AlikeAt (type_limit_at id ps p) (type_limit_at id qs p)
      unfolding type_limit_at when_above is_about alike fields id_of any_of own is_counted is_beside allowed_beside
      type-alike id named = steady_bind _ λ v e.
          let broken_is : (l : List Pair) → ltb (to_u 32 v) (count_of (of_type p.type) l) ≡ is_broken x ps (Some p.position) 18 0 l
          = λ l. ap (λ (n : ℕ). ltb n (count_of (of_type p.type) l)) (value_named x Names.max_type_fitted id named p.result v e)
          ∙ beside 18 0 refl refl refl l in
          test_at _ _ _ _ _ refl (broken_is ps) (broken_is qs)

    -- ---- all pairs, and those of the set
    module _ (numbered : (i : ℕ) (p : Pair) → slice_get ps i ≡ Some p → p.position ≡ i) where
      slot_rules-alike : Alike (each ps (slot_checks x ps)) (each qs (slot_checks x qs))
      slot_rules-alike = steady_chosen kept ps _ _ λ i p e. checks-alike i p e (numbered i p e)

      rig_size-alike : Alike (rig_size x ps) (rig_size x qs)
      unfolding rig_size rig_size_at is_broken is_counted any_of fields
      rig_size-alike = steady_bind _ λ id _. steady_bind _ λ ship _. steady_chosen kept ps _ _ λ i p e. steady_bind _ λ v _.
          alone_at i p e (numbered i p e) _ _ (λ l. refl)

      ship_restricted-alike : Alike (ship_restricted x ps) (ship_restricted x qs)
      unfolding ship_restricted ship_restricted_at is_broken is_counted any_of fields
      ship_restricted-alike = steady_chosen kept ps _ _ λ i p e. alone_at i p e (numbered i p e) _ _ (λ l. refl)

      capital_item-alike : Alike (capital_item x ps) (capital_item x qs)
      unfolding capital_item capital_item_at is_broken is_counted any_of fields
      capital_item-alike = steady_bind _ λ volume _. steady_bind _ λ capital _. steady_unless _ (steady_chosen kept ps _ _ λ i p e.
          alone_at i p e (numbered i p e) _ _ (λ l. refl))

      standup-alike : Alike (standup x ps) (standup x qs)
      unfolding standup standup_at is_broken is_counted any_of fields
      standup-alike = steady_chosen kept ps _ _ λ i p e. steady_cond (is_structure x)
          (alone_at i p e (numbered i p e) _ _ (λ l. refl)) (alone_at i p e (numbered i p e) _ _ (λ l. refl))

      all_limited : All (λ g. group_row (Limits.number g.0) ≡ Some g) group_limit_rows
      all_limited = cons refl (cons refl (cons refl nil))

      group_limits-alike : Alike (group_limits x ps) (group_limits x qs)
      unfolding group_limits group_limit
      group_limits-alike = steady_each all_limited λ g q. steady_bind _ λ id named. steady_chosen kept ps _ _ λ i p e.
          group-alike i p e (numbered i p e) g q id named

      type_limit-alike : Alike (type_limit x ps) (type_limit x qs)
      unfolding type_limit
      type_limit-alike = steady_bind _ λ id named. steady_chosen kept ps _ _ λ i p e. type-alike i p e (numbered i p e) id named

      hull_rules-alike : Alike (hull_rules x ps) (hull_rules x qs)
      unfolding hull_rules
      hull_rules-alike =
          steady_join (steady_join (steady_join (steady_join
          resources_alike
          (steady_join racks-alike hardpoints_alike))
          slot_rules-alike)
          (steady_join (steady_join (steady_join rig_size-alike ship_restricted-alike) capital_item-alike) standup-alike))
          (steady_join group_limits-alike type_limit-alike)

      unknowns-alike : (c : Catalogue) → Alike (unknown_types c ps) (unknown_types c qs)
      unfolding unknown_types unknown_type_at is_broken is_counted any_of fields
      unknowns-alike c = steady_chosen kept ps _ _ λ i p e. alone_at i p e (numbered i p e) _ _ (λ l. refl)

      -- ---- the whole list
      list-alike : (c : Catalogue) (k : Frame) (ids : List Id) → context c k ≡ x → Alike (list_with c k ids ps) (list_with c k ids qs)
      unfolding list_with not_a_mode not_a_skill is_broken is_counted any_of fields when
      list-alike c k ids same =
          steady_cond (is_hull c k.ship)
          (steady_join
          (steady_join
          (steady_bind _ λ m _. alone_ship _ _ (λ l. refl))
          (steady_each (all-any ids) λ i _. alone_ship _ _ (λ l. refl)))
          (subst (λ (y : Context). Alike (hull_rules y ps) (hull_rules y qs)) (sym same) hull_rules-alike))
          (alone_ship true Rules.NotAHull (λ l. refl))

      pub whole-alike : (c : Catalogue) (k : Frame) (ids : List Id) → context c k ≡ x
          → Alike (whole_with main c k ids ps) (whole_with main c k ids qs)
      unfolding whole_with league_with on_hull
      whole-alike c k ids same =
          steady_join
          (steady_join (list-alike c k ids same)
          (steady_cond (is_hull c k.ship) (rw (no_league 0 ps, no_league 0 qs) steady_none) steady_none))
          (steady_cond (is_hull c k.ship) (unknowns-alike c) steady_none)
