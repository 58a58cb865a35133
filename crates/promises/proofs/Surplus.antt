-- The racks' surplus by the bytes of entries: a rack that is over has one entry, of what is used and what the ship has; no other entry is
-- of a rack. Rule by rule.
use Prim.Native.Nat.{ℕ, ◌-◌, ◌^◌, ◌≤◌, ◌<◌}
use native.Mathlib.Omega.{arith}
use mathlib.Core.Path.{◌≡◌, refl, sym, ◌∙◌}
use mathlib.Core.Bool.{Bool, true, false, cond}
use mathlib.Core.List.{List, [], ◌∷◌, ◌++◌}
use lib.Dec.{ltb, lit≤}
use lib.ListN.{length}
use lib.Ieee.{Float}
use borrow.Author.Tests.{ltb-false}
use Rattle.std.specs.Prelude.{Option, None, Some}
use Rattle.words.specs.Words.{◌>>=◌, each, when, when_any, when_above, count_of, sum_of, given}
use Rattle.words.proofs.All.{All, nil, cons, all_join, all-when, all-unless, all-cond, all-bind, all-each}
use Rattle.words.proofs.Steps.{sum_append}
use Rattle.image.specs.Bytes.{u32_at}
use Rattle.image.proofs.Puts.{le-u32}
use Rattle.numbers.specs.declared.Resource.{Resource}
use Rattle.numbers.specs.declared.Resource.TheVariants.{LaunchedDrones, CargoBay}
use Rattle.numbers.specs.declared.SlotKind.{SlotKind}
use Rattle.numbers.specs.Slots.{number, kind_of}
use Rattle.floats.specs.Floats.{to_u}
use Rattle.floats.proofs.Casts.{unsigned}
use Rattle.catalogue.specs.Catalogue.{Id, Catalogue}
use Rattle.catalogue.specs.Lookups.{name_id}
use Rattle.fit.specs.Fit.{Frame, Fit, mode_of}
use Rattle.fit.specs.Lookups.{amount}
use Rattle.entry.specs.declared.Rule.TheVariants.{Slots, NotAHull}
use Rattle.entry.specs.declared.Entry.{Entry}
use Rattle.entry.specs.Entries.{fields, on_ship, entry_bytes}
use Rattle.context.specs.Context.{Pair, Context, context, pairs, is_in}
use Rattle.resource.specs.Resource.{LOADS, resource, loads, launched_drones, cargo, resources}
use Rattle.racks.specs.Racks.{RACKS, slots, in_rack, racks, hardpoints, racks_and_hardpoints}
use Rattle.slot.specs.Slot.{wrong_slot, not_a_module, not_a_drone, not_a_fighter, not_an_implant, wrong_slot_index, slot_taken, subsystem_taken}
use Rattle.slot.specs.Slot.{slot_checks, slot_rules}
use Rattle.item.specs.Item.{is_structure, rig_size_at, rig_size, ship_restricted_at, ship_restricted, capital_item_at, capital_item}
use Rattle.item.specs.Item.{standup_at, standup, item_rules}
use Rattle.limits.specs.Limits.{group_limit_rows, group_limit_at, group_limit, group_limits, type_limit_at, type_limit, limit_rules}
use Rattle.validate.specs.Kind.{is_hull, not_a_mode, not_a_skill}
use Rattle.validate.specs.Validate.{hull_rules, list_with}
use Rattle.lists.specs.Terms.{main}
use Rattle.lists.specs.Unknown.{unknown_type_at, unknown_types}
use Rattle.lists.specs.Lists.{on_hull, league_of, league_with, whole_with, whole_list}
use Rattle.lists.proofs.Behind.{no_league}
use Rattle.leave_out.specs.LeaveOut.{above, surplus}
use Rattle.promises.specs.LeavingOut.{above_in}
use Rattle.promises.proofs.Reading.{only-short}

above_of : Entry → ℕ
above_of e = above_in (entry_bytes e)

-- ---- entries that are of no rack
abbrev Nothing : List Entry → Type 0
Nothing = All (λ (e : Entry). above_of e ≡ 0)

nothing-sum : {l : List Entry} → Nothing l → sum_of above_of l ≡ 0
unfolding sum_of
nothing-sum nil = refl
nothing-sum (cons h hs) = let k = nothing-sum hs in omega (arith, h, k)

nothing_behind : (l m : List Entry) → Nothing m → sum_of above_of (l ++ m) ≡ sum_of above_of l
nothing_behind l m h = let a = sum_append above_of l m in let z = nothing-sum h in omega (arith, a, z)

nothing_before : (l m : List Entry) → Nothing l → sum_of above_of (l ++ m) ≡ sum_of above_of m
nothing_before l m h = let a = sum_append above_of l m in let z = nothing-sum h in omega (arith, a, z)

module _ (x : Context) (ps : List Pair) where
  no-resource : (k : Resource) (u a : Float) → Nothing (resource k u a)
  unfolding above_of resource entry_bytes fields
  no-resource k u a = all-when _ _ (λ _. refl)

  no-resources : Nothing (resources x ps)
  unfolding resources loads launched_drones cargo
  no-resources =
      all_join (all_join
      (all-each LOADS λ l. all-bind _ λ load. all-bind _ λ output. no-resource l.0 _ _)
      (all-bind _ λ limit. no-resource LaunchedDrones _ _))
      (all-bind _ λ capacity. no-resource CargoBay _ _)

  no-checks : (p : Pair) → Nothing (slot_checks x ps p)
  unfolding above_of entry_bytes fields slot_checks wrong_slot not_a_module not_a_drone not_a_fighter not_an_implant slot_taken wrong_slot_index subsystem_taken when_any
  no-checks p =
      all_join (all_join (all_join (all_join (all_join (all_join (all_join
      (all-bind p.rack λ rack. all-bind (kind_of rack) λ _. all-when _ _ (λ _. refl))
      (all-when _ _ (λ _. refl)))
      (all-when _ _ (λ _. refl)))
      (all-when _ _ (λ _. refl)))
      (all-when _ _ (λ _. refl)))
      (all-when _ _ (λ _. refl)))
      (all-bind _ λ name. all-bind _ λ id. all-bind _ λ v. all-when _ _ (λ _. refl)))
      (all-bind _ λ id. all-bind _ λ part. all-when _ _ (λ _. refl))

  no-items : Nothing (item_rules x ps)
  unfolding above_of entry_bytes fields rig_size rig_size_at ship_restricted ship_restricted_at capital_item capital_item_at standup standup_at
  no-items =
      all_join (all_join (all_join
      (all-bind _ λ id. all-bind _ λ ship. all-each ps λ p. all-bind _ λ size. all-when _ _ (λ _. refl))
      (all-each ps λ p. all-when _ _ (λ _. refl)))
      (all-bind _ λ volume. all-bind _ λ capital. all-unless _ (all-each ps λ p. all-when _ _ (λ _. refl))))
      (all-each ps λ p. all-cond (is_structure x) (all-when _ _ (λ _. refl)) (all-when _ _ (λ _. refl)))

  no-limits : Nothing (limit_rules x ps)
  unfolding above_of entry_bytes fields group_limits group_limit group_limit_at type_limit type_limit_at when_above
  no-limits =
      all_join
      (all-each group_limit_rows λ g. all-bind _ λ id. all-each ps λ p. all-bind _ λ allowed. all-when _ _ (λ _. refl))
      (all-bind _ λ id. all-each ps λ p. all-bind _ λ allowed. all-when _ _ (λ _. refl))

  no-hardpoints : Nothing (hardpoints x ps)
  unfolding above_of entry_bytes fields hardpoints each slots when_above
  no-hardpoints = all_join (all-bind _ λ id. all-when _ _ (λ _. refl)) (all_join (all-bind _ λ id. all-when _ _ (λ _. refl)) nil)

-- ---- a rack's entry
sum-each : {A B : Type 0} (f : B → ℕ) (g : A → ℕ) (h : A → List B) {l : List A} → All (λ (a : A). sum_of f (h a) ≡ g a) l
    → sum_of f (each l h) ≡ sum_of g l
unfolding sum_of each
sum-each f g h nil = refl
sum-each f g h (cons {x} {l} e k) =
    let a = sum_append f (h x) (each l h) in
    let r = sum-each f g h k in
    omega (arith, a, e, r)

used-word : (slot : SlotKind) (used available : ℕ) → used < 2 ^ 32 → u32_at (entry_bytes (on_ship (Slots slot used available))) 8 ≡ used
unfolding entry_bytes fields u32_at each
used-word slot used available h = le-u32 used h

available-word : (slot : SlotKind) (used available : ℕ) → available < 2 ^ 32
    → u32_at (entry_bytes (on_ship (Slots slot used available))) 12 ≡ available
unfolding entry_bytes fields u32_at each
available-word slot used available h = le-u32 available h

cast-small : (v : Float) → to_u 32 v < 2 ^ 32
cast-small v = let h = unsigned 32 (lit≤ tt) v in omega (arith, h)

above-words : (slot : SlotKind) (used available : ℕ) → ltb (number slot) 6 ≡ true
    → above_of (on_ship (Slots slot used available))
    ≡ u32_at (entry_bytes (on_ship (Slots slot used available))) 8 - u32_at (entry_bytes (on_ship (Slots slot used available))) 12
unfolding above_of entry_bytes fields
above-words slot used available r = rw r

above-of : (slot : SlotKind) (used available : ℕ) → ltb (number slot) 6 ≡ true → used < 2 ^ 32 → available < 2 ^ 32
    → above_of (on_ship (Slots slot used available)) ≡ used - available
above-of slot used available r u a =
    let w = above-words slot used available r in
    let p = used-word slot used available u in
    let q = available-word slot used available a in
    omega (arith, w, p, q)

few-counted : (t : Pair → Bool) (ps : List Pair) → count_of t ps ≤ length ps
unfolding count_of
few-counted t ps = only-short t ps

module _ (c : Catalogue) (f : Fit) (few : length (pairs c f) < 2 ^ 32) where
  abbrev ps : List Pair
  ps = pairs c f

  abbrev k : Frame
  k = f.frame

  abbrev x : Context
  x = context c k

  rack-sum : (row : SlotKind × ℕ) → ltb (number row.0) 6 ≡ true → sum_of above_of (in_rack x ps row) ≡ above c f row
  unfolding slots when_above when ◌>>=◌ given above context sum_of
  rack-sum row r = go (name_id c.names row.1)
    where
      used : ℕ
      used = count_of (is_in (number row.0)) ps

      used-small : used < 2 ^ 32
      used-small = let h = few-counted (is_in (number row.0)) ps in omega (arith, h, few)

      has : Id → ℕ
      has id = to_u 32 (amount k.ship_result id)

      one : (id : Id) (b : Bool) → ltb (has id) used ≡ b → sum_of above_of (when b (on_ship (Slots row.0 used (has id)))) ≡ used - has id
      one id true e = let h = above-of row.0 used (has id) r used-small (cast-small (amount k.ship_result id)) in omega (arith, h)
      one id false e = let h = ltb-false (has id) used e in omega (arith, h)

      go : (o : Option Id) → sum_of above_of (◌>>=◌ o λ id. when (ltb (has id) used) (on_ship (Slots row.0 used (has id))))
          ≡ given o 0 (λ id. used - has id)
      go None = refl
      go (Some id) = one id (ltb (has id) used) refl

  racks-sum : sum_of above_of (racks x ps) ≡ sum_of (above c f) RACKS
  unfolding racks
  racks-sum =
      sum-each above_of (above c f) (in_rack x ps) {l = RACKS}
      (cons (rack-sum _ refl) (cons (rack-sum _ refl) (cons (rack-sum _ refl)
      (cons (rack-sum _ refl) (cons (rack-sum _ refl) (cons (rack-sum _ refl) nil))))))

  rules-sum : sum_of above_of (hull_rules x ps) ≡ sum_of (above c f) RACKS
  unfolding hull_rules
  rules-sum =
      nothing_behind (resources x ps ++ racks_and_hardpoints x ps ++ slot_rules x ps ++ item_rules x ps) (limit_rules x ps) (no-limits x ps)
      ∙ nothing_behind (resources x ps ++ racks_and_hardpoints x ps ++ slot_rules x ps) (item_rules x ps) (no-items x ps)
      ∙ nothing_behind (resources x ps ++ racks_and_hardpoints x ps) (slot_rules x ps) (checks ps)
      ∙ nothing_before (resources x ps) (racks_and_hardpoints x ps) (no-resources x ps)
      ∙ nothing_behind (racks x ps) (hardpoints x ps) (no-hardpoints x ps)
      ∙ racks-sum
    where
      checks : (l : List Pair) → Nothing (each l (slot_checks x ps))
      checks l = all-each l λ p. no-checks x ps p

  list-sum : sum_of above_of (list_with c k f.skills ps) ≡ surplus c f
  unfolding above_of entry_bytes fields not_a_mode not_a_skill list_with surplus
  list-sum = go (is_hull c k.ship)
    where
      front : Nothing (not_a_mode c (mode_of k) ++ not_a_skill c f.skills)
      front = all_join (all-bind _ λ _. all-when _ _ (λ _. refl)) (all-each f.skills λ _. all-when _ _ (λ _. refl))

      no-hull : Nothing (on_ship NotAHull ∷ [])
      no-hull = cons refl nil

      go : (b : Bool)
          → sum_of above_of (cond b (not_a_mode c (mode_of k) ++ not_a_skill c f.skills ++ hull_rules x ps) (on_ship NotAHull ∷ []))
          ≡ cond b (sum_of (above c f) RACKS) 0
      go true = nothing_before (not_a_mode c (mode_of k) ++ not_a_skill c f.skills) (hull_rules x ps) front ∙ rules-sum
      go false = nothing-sum no-hull

  no-league : Nothing (on_hull c k (league_of main ps))
  unfolding on_hull
  no-league = all-cond (is_hull c k.ship) (rw (no_league 0 ps) nil) nil

  no-unknown : Nothing (on_hull c k (unknown_types c ps))
  unfolding above_of entry_bytes fields on_hull unknown_types unknown_type_at
  no-unknown = all-cond (is_hull c k.ship) (all-each ps λ p. all-when _ _ (λ _. refl)) nil

  pub surplus-listed : surplus c f ≡ sum_of (λ e. above_in (entry_bytes e)) (whole_list main c f)
  unfolding above_of whole_list whole_with league_with
  surplus-listed =
      sym (nothing_behind (list_with c k f.skills ps ++ on_hull c k (league_of main ps)) (on_hull c k (unknown_types c ps)) no-unknown
      ∙ nothing_behind (list_with c k f.skills ps) (on_hull c k (league_of main ps)) no-league
      ∙ list-sum)
