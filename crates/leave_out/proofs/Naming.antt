-- How many named entries a list has at most. Rule by rule: those of rules that are not named, and of the others how many there are.
use Prim.Native.Nat.{ℕ, ◌+◌, ◌*◌, ◌≤◌, zero-le}
use native.Mathlib.Nat.{le_trans, le_of_eq, mul-suc}
use native.Mathlib.Omega.{arith}
use mathlib.Core.Path.{◌≡◌, refl, ap}
use mathlib.Core.Bool.{Bool, true, false, cond}
use mathlib.Core.List.{List, [], ◌∷◌, ◌++◌}
use Rattle.std.specs.Prelude.{Option, None, Some}
use lib.ListN.{length}
use Rattle.words.specs.Words.{◌>>=◌, each, when, when_any, when_above, count_of, any_of}
use Rattle.words.proofs.All.{All, nil, cons, all_join, all-when, all-unless, all-cond, all-bind, all-each}
use Rattle.catalogue.specs.Catalogue.{Id, Catalogue}
use Rattle.fit.specs.Fit.{Frame, mode_of}
use Rattle.numbers.specs.declared.Resource.{Resource}
use Rattle.numbers.specs.declared.Resource.TheVariants.{LaunchedDrones, CargoBay}
use Rattle.entry.specs.declared.Entry.{Entry}
use Rattle.entry.specs.Entries.{fields}
use Rattle.context.specs.Context.{Pair, Context, context}
use Rattle.resource.specs.Resource.{LOADS, resource, loads, launched_drones, cargo, resources}
use Rattle.racks.specs.Racks.{RACKS, HARDPOINTS, slots, racks, hardpoints}
use Rattle.slot.specs.Slot.{wrong_slot, not_a_module, not_a_drone, not_a_fighter, not_an_implant, wrong_slot_index, slot_taken, subsystem_taken, slot_checks}
use Rattle.item.specs.Item.{rig_size_at, rig_size, ship_restricted_at, ship_restricted, is_structure, capital_item_at, capital_item, standup_at, standup}
use Rattle.limits.specs.Limits.{group_limit_rows, group_limit_at, group_limit, group_limits, type_limit_at, type_limit}
use Rattle.validate.specs.Kind.{is_hull, not_a_mode, not_a_skill}
use Rattle.validate.specs.Validate.{hull_rules, list_with}
use Rattle.lists.specs.Terms.{main}
use Rattle.lists.specs.Unknown.{unknown_type_at, unknown_types}
use Rattle.lists.specs.Lists.{on_hull, league_with, whole_with}
use Rattle.lists.proofs.Behind.{no_league}
use Rattle.lists.proofs.Numbers.{only_no}
use Rattle.lists.proofs.Few.{count-le}
use Rattle.words.proofs.Lengths
use Rattle.leave_out.specs.LeaveOut.{is_named}
use Rattle.leave_out.proofs.Sharing.{count-append}

-- ---- at most n named entries
pub record Named (n : ℕ) (l : List Entry) : Type 0 where
  pub most : count_of is_named l ≤ n

abbrev Unnamed : List Entry → Type 0
Unnamed = All (λ e. is_named e ≡ false)

named_join : {a b : ℕ} {l m : List Entry} → Named a l → Named b m → Named (a + b) (l ++ m)
named_join {l = l} {m = m} h k = record { most = (let e = count-append is_named l m in omega (arith, e, h.most, k.most)) }

named_more : {a b : ℕ} {l : List Entry} → a ≤ b → Named a l → Named b l
named_more h k = record { most = le_trans k.most h }

nothing_unnamed : {l : List Entry} → l ≡ [] → Unnamed l
nothing_unnamed e = rw e nil

named_none : {l : List Entry} → Unnamed l → Named 0 l
named_none {l} h = record { most = le_of_eq (unfold count_of in ap length (only_no is_named h)) }

named_few : {n : ℕ} {l : List Entry} → length l ≤ n → Named n l
named_few {l = l} h = record { most = le_trans (count-le is_named l) h }

named-when : (b : Bool) (e : Entry) → Named 1 (when b e)
named-when b e = named_few (Lengths.few-when b e)

named_cond : (b : Bool) {n : ℕ} {l m : List Entry} → Named n l → Named n m → Named n (cond b l m)
named_cond true h k = h
named_cond false h k = k

module _ {I : Type 0} where
  named_bind : (o : Option I) {n : ℕ} {f : I → List Entry} → ((x : I) → Named n (f x)) → Named n (◌>>=◌ o f)
  unfolding ◌>>=◌
  named_bind None h = record { most = (let z : count_of is_named [] ≤ 0 = (named_none nil).most in le_trans z zero-le) }
  named_bind (Some x) h = h x

  named_each : (l : List I) {n : ℕ} {f : I → List Entry} → ((x : I) → Named n (f x)) → Named (n * length l) (each l f)
  unfolding each
  named_each [] {n} h = named_more (omega arith) (named_none nil)
  named_each (x ∷ l) {n} h = named_more (omega (arith, mul-suc n (length l))) (named_join (h x) (named_each l h))

-- ---- rule by rule
module _ (x : Context) (ps : List Pair) where
  named-resource : (k : Resource) (u a : _) → Unnamed (resource k u a)
  unfolding resource fields is_named any_of
  named-resource k u a = all-when _ _ (λ _. refl)

  named-resources : Unnamed (resources x ps)
  unfolding resources loads launched_drones cargo
  named-resources =
      all_join (all_join
      (all-each LOADS λ l. all-bind _ λ load. all-bind _ λ output. named-resource l.0 _ _)
      (all-bind _ λ limit. named-resource LaunchedDrones _ _))
      (all-bind _ λ capacity. named-resource CargoBay _ _)

  named-racks : Named 8 (racks x ps ++ hardpoints x ps)
  unfolding racks hardpoints slots when_above
  named-racks =
      named_join (named_each RACKS λ r. named_bind _ λ id. named-when _ _) (named_each HARDPOINTS λ r. named_bind _ λ id. named-when _ _)

  named-checks : (p : Pair) → Named 2 (slot_checks x ps p)
  unfolding slot_checks wrong_slot not_a_module not_a_drone not_a_fighter not_an_implant slot_taken wrong_slot_index subsystem_taken when_any fields is_named any_of
  named-checks p =
      named_join
      (named_join
      (named_join
      (named_none (all_join (all_join (all_join (all_join
      (all-bind p.rack λ _. all-bind _ λ _. all-when _ _ (λ _. refl))
      (all-when _ _ (λ _. refl)))
      (all-when _ _ (λ _. refl)))
      (all-when _ _ (λ _. refl)))
      (all-when _ _ (λ _. refl))))
      (named-when _ _))
      (named_none (all-bind _ λ name. all-bind _ λ id. all-bind _ λ v. all-when _ _ (λ _. refl))))
      (named_bind _ λ id. named_bind _ λ part. named-when _ _)

  named-items : Unnamed (rig_size x ps ++ ship_restricted x ps ++ capital_item x ps ++ standup x ps)
  unfolding rig_size rig_size_at ship_restricted ship_restricted_at capital_item capital_item_at standup standup_at fields is_named any_of
  named-items =
      all_join (all_join (all_join
      (all-bind _ λ id. all-bind _ λ ship. all-each ps λ p. all-bind _ λ size. all-when _ _ (λ _. refl))
      (all-each ps λ p. all-when _ _ (λ _. refl)))
      (all-bind _ λ volume. all-bind _ λ capital. all-unless _ (all-each ps λ p. all-when _ _ (λ _. refl))))
      (all-each ps λ p. all-cond (is_structure x) (all-when _ _ (λ _. refl)) (all-when _ _ (λ _. refl)))

  named-groups : Named (1 * length ps * 3) (group_limits x ps)
  unfolding group_limits group_limit group_limit_at when_above
  named-groups = named_each group_limit_rows λ g. named_bind _ λ id. named_each ps λ p. named_bind _ λ allowed. named-when _ _

  named-types : Named (1 * length ps) (type_limit x ps)
  unfolding type_limit type_limit_at when_above
  named-types = named_bind _ λ id. named_each ps λ p. named_bind _ λ allowed. named-when _ _

  named-rules : Named (8 + 6 * length ps) (hull_rules x ps)
  unfolding hull_rules
  named-rules =
      let n = length ps in
      let h : Named (0 + 8 + 2 * n + 0 + (1 * n * 3 + 1 * n)) (hull_rules x ps) =
      named_join (named_join (named_join (named_join (named_none named-resources) named-racks) (named_each ps named-checks)) (named_none named-items))
      (named_join named-groups named-types) in
      named_more (omega arith) h

module _ (c : Catalogue) (k : Frame) (ids : List Id) (ps : List Pair) where
  named-list : Named (8 + 6 * length ps) (list_with c k ids ps)
  unfolding list_with not_a_mode not_a_skill fields is_named any_of
  named-list =
      let before : Unnamed (not_a_mode c (mode_of k) ++ not_a_skill c ids) =
      all_join (all-bind _ λ _. all-when _ _ (λ _. refl)) (all-each ids λ _. all-when _ _ (λ _. refl)) in
      named_cond (is_hull c k.ship) (named_more (omega arith) (named_join (named_none before) (named-rules (context c k) ps)))
      (named_more zero-le (named_none (cons refl nil)))

  pub named-whole : Named (8 + 6 * length ps) (whole_with main c k ids ps)
  unfolding whole_with league_with on_hull unknown_types unknown_type_at fields is_named any_of
  named-whole =
      let league = all-cond (is_hull c k.ship) (nothing_unnamed (no_league 0 ps)) nil in
      let last = all-cond (is_hull c k.ship) (all-each ps λ p. all-when _ _ (λ _. refl)) nil in
      named_more (omega arith) (named_join (named_join named-list (named_none league)) (named_none last))
