-- The list over pairs that are numbered anew: the same entries, about the new numbers. Rule by rule; a rule that looks at other pairs asks
-- whether two numbers are equal, so they have to be equal anew exactly where they were.
use Prim.Native.Nat.{ℕ}
use mathlib.Core.Path.{◌≡◌, refl, sym, ap, ◌∙◌, subst}
use mathlib.Core.Bool.{Bool, false, not, ◌&&◌}
use mathlib.Core.List.{List, ◌++◌, map, foldl, Memᴰ}
use lib.Dec.{eqb}
use lib.Ieee.{Float, binary64, add, eq}
use Rattle.words.specs.Words.{when_any, only, count_of, sum_of, given}
use Rattle.floats.specs.Floats.{zero_f, of_nat}
use Rattle.catalogue.specs.Catalogue.{Id, Catalogue}
use Rattle.fit.specs.Fit.{Frame, Fit}
use Rattle.fit.specs.Lookups.{value}
use Rattle.entry.specs.declared.Rule.{Rule}
use Rattle.entry.specs.declared.Entry.{Entry}
use Rattle.entry.specs.Entries.{on_ship, on_item}
use Rattle.context.specs.Context.{Pair, Context, context, pairs, is_fitted, is_in, is_fighter_slot, is_on_hull, is_other}
use Rattle.numbers.specs.Slots as Slots
use Rattle.numbers.specs.declared.Resource.{Resource}
use Rattle.numbers.specs.declared.SlotKind.{SlotKind}
use Rattle.resource.specs.Resource.{LOADS, resource, is_launched, launched, cargo_volume, cargo_used, loads, launched_drones, cargo, resources}
use Rattle.racks.specs.Racks.{RACKS, HARDPOINTS, takes_hardpoint, slots, racks, hardpoints}
use Rattle.slot.specs.Slot.{slot_number_name, wrong_slot, not_a_module, not_a_drone, not_a_fighter, not_an_implant, wrong_slot_index, holds_one}
use Rattle.slot.specs.Slot.{shares_slot, shares_part, slot_taken, subsystem_taken, slot_checks}
use Rattle.item.specs.Item.{rig_size_at, rig_size, listed, is_restricted, ship_restricted_at, ship_restricted, is_structure, is_capital_item}
use Rattle.item.specs.Item.{capital_item_at, capital_item, is_standup, standup_at, standup}
use Rattle.limits.specs.Limits.{group_limit_rows, in_group, group_limit_at, group_limit, group_limits, of_type, type_limit_at, type_limit}
use Rattle.validate.specs.Kind.{is_hull, not_a_mode, not_a_skill}
use Rattle.validate.specs.Validate.{hull_rules, list_with}
use Rattle.profile.specs.Profile.{Price}
use Rattle.league.specs.League.{banned_at, banned, cost, points, over_allowance, league}
use Rattle.lists.specs.Terms.{Terms}
use Rattle.lists.specs.Unknown.{unknown_type_at, unknown_types}
use Rattle.lists.specs.Lists.{on_hull, league_with, whole_with, whole_list}
use Rattle.parts.specs.Parts.{chosen, part_of}
use Rattle.parts.proofs.Flags.{before_same}
use Rattle.parts.proofs.Beside.{Beside, nil, cons, beside_join, beside_when, beside_above, beside_unless, beside_cond, beside_bind, beside_each}
use Rattle.parts.proofs.Beside.{beside_map, any-map, only-map, count_map, sum_map, fold_map}
use Rattle.parts.proofs.Numbered.{moved, number_in, pairs-part, chosen-held}

-- two entries of one rule: both about the ship, or the first about one of some pairs and the second about its new number
pub data Aims (φ : ℕ → ℕ) (ps : List Pair) : Entry → Entry → Type 0 where
  ship : {r : Rule} → Aims φ ps (on_ship r) (on_ship r)
  item : {p : Pair} {r : Rule} → Memᴰ p ps → Aims φ ps (on_item p.position r) (on_item (φ p.position) r)

module _ (φ : ℕ → ℕ) (ps : List Pair)
    (apart : (p o : Pair) → Memᴰ p ps → Memᴰ o ps → eqb o.position p.position ≡ eqb (φ o.position) (φ p.position)) where
  abbrev qs : List Pair
  qs = map (moved φ) ps

  abbrev Moves : List Entry → List Entry → Type 0
  Moves = Beside (Aims φ ps)

  counted : (t : Pair → Bool) → ((p : Pair) → t p ≡ t (moved φ p)) → count_of t ps ≡ count_of t qs
  counted t h = sym (count_map (moved φ) t t h ps)

  -- ---- resource.rs
  resource-moves : (k : Resource) (u v a : Float) → u ≡ v → Moves (resource k u a) (resource k v a)
  unfolding resource
  resource-moves k u v a e = subst (λ (w : Float). Moves (resource k u a) (resource k w a)) e (beside_when _ _ _ _ refl ship)

  loads-move : (x : Context) → Moves (loads x) (loads x)
  unfolding loads
  loads-move x = beside_each LOADS λ l. beside_bind _ λ load. beside_bind _ λ output. resource-moves _ _ _ _ refl

  launched-same : launched ps ≡ launched qs
  unfolding launched is_launched is_in
  launched-same =
      sum_map (moved φ) (λ p. p.quantity) (λ p. p.quantity) (λ p. refl) (only is_launched ps)
      ∙ ap (λ (l : List Pair). sum_of (λ p. p.quantity) l) (sym (only-map (moved φ) is_launched is_launched (λ p. refl) ps))

  used_same : cargo_used ps ≡ cargo_used qs
  unfolding cargo_used cargo_volume is_in
  used_same =
      let step : Float → Pair → Float = λ sum p. add binary64 sum (cargo_volume p) in
      let e = only-map (moved φ) (is_in Slots.cargo) (is_in Slots.cargo) (λ p. refl) ps in
      fold_map (moved φ) step step (λ s p. refl) zero_f (only (is_in Slots.cargo) ps) ∙ sym (ap (λ (l : List Pair). foldl step zero_f l) e)

  resources-move : (x : Context) → Moves (resources x ps) (resources x qs)
  unfolding resources launched_drones cargo
  resources-move x =
      beside_join
      (beside_join (loads-move x) (beside_bind _ λ limit. resource-moves _ _ _ _ (ap of_nat launched-same)))
      (beside_bind _ λ capacity. resource-moves _ _ _ _ used_same)

  module _ (x : Context) where
    -- ---- slot.rs, about the ship
    slots-move : (slot : SlotKind) (name n m : ℕ) → n ≡ m → Moves (slots x slot name n) (slots x slot name m)
    unfolding slots
    slots-move slot name n m e = beside_bind _ λ id. beside_above _ _ _ _ _ _ _ refl e (λ k. ship)

    racks-move : Moves (racks x ps) (racks x qs)
    unfolding racks
    racks-move = beside_each RACKS λ r. slots-move r.0 r.1 _ _ (counted (is_in (Slots.number r.0)) (unfold is_in in λ p. refl))

    hardpoints-move : Moves (hardpoints x ps) (hardpoints x qs)
    unfolding hardpoints
    hardpoints-move = beside_each HARDPOINTS λ r.
        slots-move r.0 r.1 _ _ (counted (takes_hardpoint r.0) (unfold takes_hardpoint is_fitted in λ p. refl))

    -- ---- about a pair
    module _ (p : Pair) (m : Memᴰ p ps) where
      abbrev q : Pair
      q = moved φ p

      alone-move : Moves (wrong_slot x p ++ not_a_module x p ++ not_a_drone x p ++ not_a_fighter x p ++ not_an_implant x p)
          (wrong_slot x q ++ not_a_module x q ++ not_a_drone x q ++ not_a_fighter x q ++ not_an_implant x q)
      unfolding wrong_slot not_a_module not_a_drone not_a_fighter not_an_implant is_fitted is_fighter_slot is_in
      alone-move =
          beside_join (beside_join (beside_join (beside_join
          (beside_bind _ λ rack. beside_bind _ λ expected. beside_when _ _ _ _ refl (item m))
          (beside_when _ _ _ _ refl (item m)))
          (beside_when _ _ _ _ refl (item m)))
          (beside_when _ _ _ _ refl (item m)))
          (beside_when _ _ _ _ refl (item m))

      index-moves : Moves (wrong_slot_index x p) (wrong_slot_index x q)
      unfolding wrong_slot_index slot_number_name is_in
      index-moves = beside_bind _ λ name. beside_bind _ λ id. beside_bind _ λ v. beside_when _ _ _ _ refl (item m)

      shares_same : (o : Pair) → Memᴰ o ps → shares_slot p o ≡ shares_slot q (moved φ o)
      unfolding shares_slot is_other
      shares_same o n = ap (λ (b : Bool). not b && (eqb o.slot p.slot && eqb o.index p.index)) (apart p o m n)

      slot_taken-moves : Moves (slot_taken x ps p) (slot_taken x qs q)
      unfolding slot_taken when_any holds_one is_in
      slot_taken-moves = beside_when _ _ _ _ (ap (λ (b : Bool). holds_one p && b) (any-map (moved φ) (shares_slot p) (shares_slot q) ps shares_same)) (item m)

      part_same : (id : Id) (part : Float) (o : Pair) → Memᴰ o ps → shares_part id part p o ≡ shares_part id part q (moved φ o)
      unfolding shares_part is_other is_in
      part_same id part o n =
          ap (λ (b : Bool). not b && (is_in Slots.subsystem o && given (value o.result id) false (λ v. eq v part))) (apart p o m n)

      subsystem_taken-moves : Moves (subsystem_taken x ps p) (subsystem_taken x qs q)
      unfolding subsystem_taken when_any is_in
      subsystem_taken-moves = beside_bind _ λ id. beside_bind _ λ part.
          beside_when _ _ _ _ (ap (λ (b : Bool). is_in Slots.subsystem p && b) (any-map (moved φ) (shares_part id part p) (shares_part id part q) ps (part_same id part))) (item m)

      checks_move : Moves (slot_checks x ps p) (slot_checks x qs q)
      unfolding slot_checks
      checks_move = beside_join (beside_join (beside_join alone-move slot_taken-moves) index-moves) subsystem_taken-moves

    -- ---- item.rs
    rig_size-moves : Moves (rig_size x ps) (rig_size x qs)
    unfolding rig_size rig_size_at is_in
    rig_size-moves = beside_bind _ λ id. beside_bind _ λ size. beside_map (moved φ) ps _ _ λ p m. beside_bind _ λ v. beside_when _ _ _ _ refl (item m)

    ship_restricted-moves : Moves (ship_restricted x ps) (ship_restricted x qs)
    unfolding ship_restricted ship_restricted_at is_restricted listed is_fitted
    ship_restricted-moves = beside_map (moved φ) ps _ _ λ p m. beside_when _ _ _ _ refl (item m)

    capital_item-moves : Moves (capital_item x ps) (capital_item x qs)
    unfolding capital_item capital_item_at is_capital_item is_fitted is_in
    capital_item-moves = beside_bind _ λ volume. beside_bind _ λ capital.
        beside_unless _ (beside_map (moved φ) ps _ _ λ p m. beside_when _ _ _ _ refl (item m))

    standup-moves : Moves (standup x ps) (standup x qs)
    unfolding standup standup_at is_standup is_on_hull is_fitted is_fighter_slot is_in
    standup-moves = beside_map (moved φ) ps _ _ λ p m.
        beside_cond (is_structure x) (beside_when _ _ _ _ refl (item m)) (beside_when _ _ _ _ refl (item m))

    group_limits-move : Moves (group_limits x ps) (group_limits x qs)
    unfolding group_limits group_limit group_limit_at is_fitted
    group_limits-move = beside_each group_limit_rows λ g. beside_bind _ λ id. beside_map (moved φ) ps _ _ λ p m. beside_bind _ λ allowed.
        beside_above _ _ _ _ _ _ _ refl (counted (in_group p.group g.1) (unfold in_group is_fitted in λ o. refl)) (λ k. item m)

    type_limit-moves : Moves (type_limit x ps) (type_limit x qs)
    unfolding type_limit type_limit_at is_fitted
    type_limit-moves = beside_bind _ λ id. beside_map (moved φ) ps _ _ λ p m. beside_bind _ λ allowed.
        beside_above _ _ _ _ _ _ _ refl (counted (of_type p.type) (unfold of_type is_fitted in λ o. refl)) (λ k. item m)

    hull_rules-move : Moves (hull_rules x ps) (hull_rules x qs)
    unfolding hull_rules
    hull_rules-move =
        beside_join (beside_join (beside_join (beside_join
        (resources-move x)
        (beside_join racks-move hardpoints-move))
        (beside_map (moved φ) ps _ _ checks_move))
        (beside_join (beside_join (beside_join rig_size-moves ship_restricted-moves) capital_item-moves) standup-moves))
        (beside_join group_limits-move type_limit-moves)

  -- ---- a league's
  points-same : (prices : List Price) → points prices ps ≡ points prices qs
  unfolding points cost is_fitted
  points-same prices =
      sum_map (moved φ) (cost prices) (cost prices) (λ p. refl) (only is_fitted ps)
      ∙ ap (λ (l : List Pair). sum_of (cost prices) l) (sym (only-map (moved φ) is_fitted is_fitted (λ p. refl) ps))

  league-moves : (prices : List Price) (allowance : ℕ) → Moves (league prices allowance ps) (league prices allowance qs)
  unfolding league banned banned_at over_allowance is_fitted
  league-moves prices allowance =
      beside_join (beside_map (moved φ) ps _ _ λ p m. beside_when _ _ _ _ refl (item m))
      (beside_above _ _ _ _ _ _ _ refl (points-same prices) (λ k. ship))

  unknowns-move : (c : Catalogue) → Moves (unknown_types c ps) (unknown_types c qs)
  unfolding unknown_types unknown_type_at
  unknowns-move c = beside_map (moved φ) ps _ _ λ p m. beside_when _ _ _ _ refl (item m)

  -- ---- the whole list
  list_with-moves : (c : Catalogue) (k : Frame) (ids : List Id) → Moves (list_with c k ids ps) (list_with c k ids qs)
  unfolding list_with not_a_mode not_a_skill
  list_with-moves c k ids =
      beside_cond (is_hull c k.ship)
      (beside_join
      (beside_join (beside_bind _ λ m. beside_when _ _ _ _ refl ship) (beside_each ids λ i. beside_when _ _ _ _ refl ship))
      (hull_rules-move (context c k)))
      (cons ship nil)

  pub whole_with-moves : (t : Terms) (c : Catalogue) (k : Frame) (ids : List Id) → Moves (whole_with t c k ids ps) (whole_with t c k ids qs)
  unfolding whole_with league_with on_hull
  whole_with-moves t c k ids =
      beside_join
      (beside_join (list_with-moves c k ids) (beside_cond (is_hull c k.ship) (league-moves _ _) nil))
      (beside_cond (is_hull c k.ship) (unknowns-move c) nil)

-- ---- a part's list: over the chosen pairs, numbered anew
pub part-moves : (t : Terms) (c : Catalogue) (f : Fit) (s : List Bool)
    → Beside (Aims (number_in s) (chosen s (pairs c f))) (whole_with t c f.frame f.skills (chosen s (pairs c f))) (whole_list t c (part_of f s))
unfolding whole_list part_of
part-moves t c f s =
    let ps = chosen s (pairs c f) in
    subst (λ (l : List Pair). Beside (Aims (number_in s) ps) (whole_with t c f.frame f.skills ps) (whole_with t c f.frame f.skills l)) (sym (pairs-part c f s))
    (whole_with-moves (number_in s) ps (λ p o m n. sym (before_same s o.position p.position (chosen-held c f s o n) (chosen-held c f s p m))) t c f.frame f.skills)
