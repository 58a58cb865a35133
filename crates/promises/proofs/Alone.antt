-- Entries on the ship that look at no pair are those of the list without pairs: a filter that takes all others out leaves the same of both.
-- Rule by rule.
use Prim.Native.Nat.{ℕ}
use mathlib.Core.Path.{◌≡◌, refl, sym, ap, ap₂, ◌∙◌, subst}
use mathlib.Core.Bool.{Bool, true, false, cond}
use mathlib.Core.List.Memᴰ
use mathlib.Core.List.{List, [], ◌∷◌, ◌++◌, append-nil, Memᴰ}
use lib.Dec.{T}
use Rattle.words.specs.Words.{when_any, when_above, only}
use Rattle.words.proofs.All.{All, nil, all_join, all-when, all-unless, all-cond, all-bind, all-each}
use Rattle.words.proofs.Steps.{only-append}
use Rattle.catalogue.specs.Catalogue.{Id, Catalogue}
use Rattle.fit.specs.Fit.{Frame, mode_of}
use Rattle.profile.specs.Profile.{Price}
use Rattle.numbers.specs.declared.SlotKind.{SlotKind}
use Rattle.numbers.specs.Slots.{kind_of}
use Rattle.entry.specs.declared.Rule.TheVariants.{NotAHull}
use Rattle.entry.specs.declared.Entry.{Entry}
use Rattle.entry.specs.Entries.{fields, on_ship}
use Rattle.context.specs.Context.{Pair, Context, context}
use Rattle.resource.specs.Resource.{resource, loads, launched_drones, cargo}
use Rattle.racks.specs.Racks.{RACKS, HARDPOINTS, slots, racks, hardpoints}
use Rattle.slot.specs.Slot.{wrong_slot, not_a_module, not_a_drone, not_a_fighter, not_an_implant, wrong_slot_index, slot_taken, subsystem_taken, slot_checks}
use Rattle.item.specs.Item.{is_structure, rig_size_at, rig_size, ship_restricted_at, ship_restricted, capital_item_at, capital_item, standup_at, standup}
use Rattle.limits.specs.Limits.{group_limit_rows, group_limit_at, group_limit, group_limits, type_limit_at, type_limit}
use Rattle.league.specs.League.{banned_at, banned, over_allowance, league}
use Rattle.validate.specs.Kind.{is_hull, not_a_mode, not_a_skill}
use Rattle.validate.specs.Validate.{hull_rules, list_with}
use Rattle.lists.specs.Terms.{Terms}
use Rattle.lists.specs.Unknown.{unknown_type_at, unknown_types}
use Rattle.lists.specs.Lists.{on_hull, league_of, league_with, whole_with}
use Rattle.lists.proofs.Numbers.{only_no, behind, parted}
use Rattle.promises.specs.Causes.{of_the_ship}
use Rattle.promises.proofs.Growth.{only-mem}

-- all of them are about a pair, or look at pairs
abbrev Gone : List Entry → Type 0
Gone = All (λ (e : Entry). of_the_ship e ≡ false)

module _ (x : Context) (ps : List Pair) where
  gone-drones : Gone (launched_drones x ps)
  unfolding launched_drones resource fields
  gone-drones = all-bind _ λ limit. all-when _ _ (λ _. refl)

  gone-cargo : Gone (cargo x ps)
  unfolding cargo resource fields
  gone-cargo = all-bind _ λ capacity. all-when _ _ (λ _. refl)

  gone-slots : (slot : SlotKind) (name used : ℕ) → Gone (slots x slot name used)
  unfolding slots when_above fields
  gone-slots slot name used = all-bind _ λ id. all-when _ _ (λ _. refl)

  gone-racks : Gone (racks x ps ++ hardpoints x ps)
  unfolding racks hardpoints
  gone-racks = all_join (all-each RACKS λ r. gone-slots r.0 r.1 _) (all-each HARDPOINTS λ r. gone-slots r.0 r.1 _)

  gone-checks : (p : Pair) → Gone (slot_checks x ps p)
  unfolding slot_checks wrong_slot not_a_module not_a_drone not_a_fighter not_an_implant slot_taken wrong_slot_index subsystem_taken when_any
  gone-checks p =
      all_join (all_join (all_join (all_join (all_join (all_join (all_join
      (all-bind p.rack λ rack. all-bind (kind_of rack) λ _. all-when _ _ (λ _. refl))
      (all-when _ _ (λ _. refl)))
      (all-when _ _ (λ _. refl)))
      (all-when _ _ (λ _. refl)))
      (all-when _ _ (λ _. refl)))
      (all-when _ _ (λ _. refl)))
      (all-bind _ λ name. all-bind _ λ id. all-bind _ λ v. all-when _ _ (λ _. refl)))
      (all-bind _ λ id. all-bind _ λ part. all-when _ _ (λ _. refl))

  gone-items : Gone (rig_size x ps ++ ship_restricted x ps ++ capital_item x ps ++ standup x ps)
  unfolding rig_size rig_size_at ship_restricted ship_restricted_at capital_item capital_item_at standup standup_at
  gone-items =
      all_join (all_join (all_join
      (all-bind _ λ id. all-bind _ λ ship. all-each ps λ p. all-bind _ λ size. all-when _ _ (λ _. refl))
      (all-each ps λ p. all-when _ _ (λ _. refl)))
      (all-bind _ λ volume. all-bind _ λ capital. all-unless _ (all-each ps λ p. all-when _ _ (λ _. refl))))
      (all-each ps λ p. all-cond (is_structure x) (all-when _ _ (λ _. refl)) (all-when _ _ (λ _. refl)))

  gone-limits : Gone (group_limits x ps ++ type_limit x ps)
  unfolding group_limits group_limit group_limit_at type_limit type_limit_at when_above
  gone-limits =
      all_join
      (all-each group_limit_rows λ g. all-bind _ λ id. all-each ps λ p. all-bind _ λ allowed. all-when _ _ (λ _. refl))
      (all-bind _ λ id. all-each ps λ p. all-bind _ λ allowed. all-when _ _ (λ _. refl))

  gone-behind : Gone (behind x ps)
  gone-behind = all_join (all_join (all_join gone-racks (all-each ps gone-checks)) gone-items) gone-limits

  -- so the loads alone are left of the rules of a hull
  loads-left : only of_the_ship (hull_rules x ps) ≡ only of_the_ship (loads x)
  loads-left =
      ap (only of_the_ship) (parted x ps)
      ∙ only-append of_the_ship (loads x ++ launched_drones x ps) (cargo x ps ++ behind x ps)
      ∙ ap₂ (λ (l m : List Entry). l ++ m)
      (only-append of_the_ship (loads x) (launched_drones x ps)
      ∙ ap (λ (m : List Entry). only of_the_ship (loads x) ++ m) (only_no of_the_ship gone-drones)
      ∙ append-nil (only of_the_ship (loads x)))
      (only_no of_the_ship (all_join gone-cargo gone-behind))
      ∙ append-nil (only of_the_ship (loads x))

gone-league : (prices : List Price) (allowance : ℕ) (ps : List Pair) → Gone (league prices allowance ps)
unfolding league banned banned_at over_allowance when_above fields
gone-league prices allowance ps = all_join (all-each ps λ p. all-when _ _ (λ _. refl)) (all-when _ _ (λ _. refl))

gone-unknown : (c : Catalogue) (ps : List Pair) → Gone (unknown_types c ps)
unfolding unknown_types unknown_type_at
gone-unknown c ps = all-each ps λ p. all-when _ _ (λ _. refl)

module _ (c : Catalogue) (k : Frame) (ids : List Id) (ps qs : List Pair) where
  list_alone : only of_the_ship (list_with c k ids ps) ≡ only of_the_ship (list_with c k ids qs)
  unfolding list_with
  list_alone = go (is_hull c k.ship)
    where
      front : List Entry
      front = not_a_mode c (mode_of k) ++ not_a_skill c ids

      go : (b : Bool)
          → only of_the_ship (cond b (not_a_mode c (mode_of k) ++ not_a_skill c ids ++ hull_rules (context c k) ps) (on_ship NotAHull ∷ []))
          ≡ only of_the_ship (cond b (not_a_mode c (mode_of k) ++ not_a_skill c ids ++ hull_rules (context c k) qs) (on_ship NotAHull ∷ []))
      go true =
          only-append of_the_ship front (hull_rules (context c k) ps)
          ∙ ap (λ (m : List Entry). only of_the_ship front ++ m) (loads-left (context c k) ps ∙ sym (loads-left (context c k) qs))
          ∙ sym (only-append of_the_ship front (hull_rules (context c k) qs))
      go false = refl

  gone-on_hull : (es : List Entry) → Gone es → Gone (on_hull c k es)
  unfolding on_hull
  gone-on_hull es h = all-cond (is_hull c k.ship) h nil

module _ (t : Terms) (c : Catalogue) (k : Frame) (ids : List Id) where
  front-alone : (ps : List Pair) → only of_the_ship (whole_with t c k ids ps) ≡ only of_the_ship (list_with c k ids ps)
  unfolding whole_with league_with
  front-alone ps =
      only-append of_the_ship (list_with c k ids ps ++ on_hull c k (league_of t ps)) (on_hull c k (unknown_types c ps))
      ∙ ap₂ (λ (l m : List Entry). l ++ m)
      (only-append of_the_ship (list_with c k ids ps) (on_hull c k (league_of t ps))
      ∙ ap (λ (m : List Entry). only of_the_ship (list_with c k ids ps) ++ m)
      (only_no of_the_ship (gone-on_hull c k ids ps ps (league_of t ps) (gone-league _ _ ps)))
      ∙ append-nil (only of_the_ship (list_with c k ids ps)))
      (only_no of_the_ship (gone-on_hull c k ids ps ps (unknown_types c ps) (gone-unknown c ps)))
      ∙ append-nil (only of_the_ship (list_with c k ids ps))

  whole_alone : (ps qs : List Pair) → only of_the_ship (whole_with t c k ids ps) ≡ only of_the_ship (whole_with t c k ids qs)
  whole_alone ps qs = front-alone ps ∙ list_alone c k ids ps qs ∙ sym (front-alone qs)

-- ---- members of a filtered list
module _ {A : Type 0} (t : A → Bool) where
  mem_only : (l : List A) (x : A) → Memᴰ x l → T (t x) → Memᴰ x (only t l)
  unfolding only
  mem_only [] x m h = absurd (Memᴰ.not-nil m)
  mem_only (y ∷ l) x (Memᴰ.head e) h = go (t y) (subst (λ (z : A). T (t z)) e h)
    where
      go : (b : Bool) → T b → Memᴰ x (cond b (y ∷ only t l) (only t l))
      go true k = Memᴰ.head e
      go false k = absurd k
  mem_only (y ∷ l) x (Memᴰ.tail m) h = go (t y) (mem_only l x m h)
    where
      go : (b : Bool) → Memᴰ x (only t l) → Memᴰ x (cond b (y ∷ only t l) (only t l))
      go true k = Memᴰ.tail k
      go false k = k

-- an entry on the ship that looks at no pair is in the list over any other pairs
pub alone-listed : (t : Terms) (c : Catalogue) (k : Frame) (ids : List Id) (ps qs : List Pair) (e : Entry) → T (of_the_ship e)
    → Memᴰ e (whole_with t c k ids ps) → Memᴰ e (whole_with t c k ids qs)
alone-listed t c k ids ps qs e h m =
    (only-mem of_the_ship (whole_with t c k ids qs) e
    (subst (λ (l : List Entry). Memᴰ e l) (whole_alone t c k ids ps qs) (mem_only of_the_ship (whole_with t c k ids ps) e m h))).1
