-- Which rules a list has, by their numbers, and what a filter by number leaves. Rule by rule.
use Prim.Native.Nat.{ℕ, ◌≤◌}
use native.Mathlib.Omega.{arith}
use borrow.Author.Tests.{ltb-true, lt-ltb}
use mathlib.Core.Path.{◌≡◌, refl, sym, ap, ◌∙◌, subst}
use mathlib.Core.Bool.{Bool, true, false, not, ◌&&◌, cond, true≢false}
use mathlib.Core.List.{List, [], ◌∷◌, ◌++◌, append_assoc}
use lib.Dec.{T, leb, ltb, eqb, eqb→eq}
use lib.Ieee.{Float}
use Rattle.words.specs.Words.{when_any, when_above, only}
use Rattle.catalogue.specs.Catalogue.{Id, Catalogue}
use Rattle.fit.specs.Fit.{Frame}
use Rattle.profile.specs.Profile.{Price}
use Rattle.entry.specs.declared.Entry.{Entry}
use Rattle.entry.specs.Entries.{fields, number}
use Rattle.context.specs.Context.{Pair, Context, context}
use Rattle.numbers.specs.declared.Resource.{Resource}
use Rattle.numbers.specs.declared.Resource.TheVariants.{LaunchedDrones, CargoBay}
use Rattle.numbers.specs.declared.SlotKind.{SlotKind}
use Rattle.resource.specs.Resource.{LOADS, resource, loads, launched_drones, cargo, resources}
use Rattle.racks.specs.Racks.{RACKS, HARDPOINTS, slots, racks, hardpoints, racks_and_hardpoints}
use Rattle.slot.specs.Slot.{wrong_slot, not_a_module, not_a_drone, not_a_fighter, not_an_implant, wrong_slot_index, slot_taken, subsystem_taken, slot_checks, slot_rules}
use Rattle.item.specs.Item.{is_structure, rig_size_at, rig_size, ship_restricted_at, ship_restricted, capital_item_at, capital_item, standup_at, standup, item_rules}
use Rattle.limits.specs.Limits.{group_limit_rows, group_limit_at, group_limit, group_limits, type_limit_at, type_limit, limit_rules}
use Rattle.league.specs.League.{banned_at, banned, over_allowance, league}
use Rattle.validate.specs.Kind.{is_hull, not_a_mode, not_a_skill}
use Rattle.validate.specs.Validate.{hull_rules, list_with}
use Rattle.words.proofs.All.{All, nil, cons, all_join, all-when, all-unless, all-cond, all-bind, all-each}

-- ---- a filter of a list whose elements all pass, or all fail
module _ {A : Type 0} (t : A → Bool) where
  pub only-all : {l : List A} → All (λ x. t x ≡ true) l → only t l ≡ l
  unfolding only
  only-all nil = refl
  only-all (cons {x} {l} h hs) = ap (λ (b : Bool). cond b (x ∷ only t l) (only t l)) h ∙ ap (λ (r : List A). x ∷ r) (only-all hs)

  pub only_no : {l : List A} → All (λ x. t x ≡ false) l → only t l ≡ []
  unfolding only
  only_no nil = refl
  only_no (cons {x} {l} h hs) = ap (λ (b : Bool). cond b (x ∷ only t l) (only t l)) h ∙ only_no hs

-- ---- the rules of a hull have numbers below 19
abbrev pub Low : ℕ → Entry → Type 0
Low n e = ltb (number e) n ≡ true

and_right : (a b : Bool) → (a && b) ≡ true → b ≡ true
and_right true b h = h
and_right false b h = absurd (true≢false (sym h))

-- and those behind the resources above 1
abbrev pub Between : Entry → Type 0
Between e = (leb 2 (number e) && ltb (number e) 19) ≡ true

all-low : {l : List Entry} → All Between l → All (Low 19) l
all-low nil = nil
all-low (cons {x} p h) = cons (and_right (leb 2 (number x)) (ltb (number x) 19) p) (all-low h)

module _ (x : Context) (ps : List Pair) where
  abbrev Hulls : List Entry → Type 0
  Hulls = All Between

  low-resource : (k : Resource) (u a : Float) → All (Low 19) (resource k u a)
  unfolding resource fields
  low-resource k u a = all-when _ _ (λ _. refl)

  low-resources : All (Low 19) (resources x ps)
  unfolding resources loads launched_drones cargo
  low-resources =
      all_join (all_join
      (all-each LOADS λ l. all-bind _ λ load. all-bind _ λ output. low-resource l.0 _ _)
      (all-bind _ λ limit. low-resource LaunchedDrones _ _))
      (all-bind _ λ capacity. low-resource CargoBay _ _)

  low-slots : (slot : SlotKind) (name used : ℕ) → Hulls (slots x slot name used)
  unfolding slots when_above fields
  low-slots slot name used = all-bind _ λ id. all-when _ _ (λ _. refl)

  low-racks : Hulls (racks x ps ++ hardpoints x ps)
  unfolding racks hardpoints
  low-racks = all_join (all-each RACKS λ r. low-slots r.0 r.1 _) (all-each HARDPOINTS λ r. low-slots r.0 r.1 _)

  low-checks : (p : Pair) → Hulls (slot_checks x ps p)
  unfolding slot_checks wrong_slot not_a_module not_a_drone not_a_fighter not_an_implant slot_taken wrong_slot_index subsystem_taken when_any fields
  low-checks p =
      all_join (all_join (all_join (all_join (all_join (all_join (all_join
      (all-bind p.rack λ _. all-bind _ λ _. all-when _ _ (λ _. refl))
      (all-when _ _ (λ _. refl)))
      (all-when _ _ (λ _. refl)))
      (all-when _ _ (λ _. refl)))
      (all-when _ _ (λ _. refl)))
      (all-when _ _ (λ _. refl)))
      (all-bind _ λ name. all-bind _ λ id. all-bind _ λ v. all-when _ _ (λ _. refl)))
      (all-bind _ λ id. all-bind _ λ part. all-when _ _ (λ _. refl))

  low-items : Hulls (rig_size x ps ++ ship_restricted x ps ++ capital_item x ps ++ standup x ps)
  unfolding rig_size rig_size_at ship_restricted ship_restricted_at capital_item capital_item_at standup standup_at fields
  low-items =
      all_join (all_join (all_join
      (all-bind _ λ id. all-bind _ λ ship. all-each ps λ p. all-bind _ λ size. all-when _ _ (λ _. refl))
      (all-each ps λ p. all-when _ _ (λ _. refl)))
      (all-bind _ λ volume. all-bind _ λ capital. all-unless _ (all-each ps λ p. all-when _ _ (λ _. refl))))
      (all-each ps λ p. all-cond (is_structure x) (all-when _ _ (λ _. refl)) (all-when _ _ (λ _. refl)))

  low-limits : Hulls (group_limits x ps ++ type_limit x ps)
  unfolding group_limits group_limit group_limit_at type_limit type_limit_at when_above fields
  low-limits =
      all_join
      (all-each group_limit_rows λ g. all-bind _ λ id. all-each ps λ p. all-bind _ λ allowed. all-when _ _ (λ _. refl))
      (all-bind _ λ id. all-each ps λ p. all-bind _ λ allowed. all-when _ _ (λ _. refl))

  -- all that stands behind them
  abbrev pub behind : List Entry
  behind = racks_and_hardpoints x ps ++ slot_rules x ps ++ item_rules x ps ++ limit_rules x ps

  pub between_behind : Hulls behind
  between_behind = all_join (all_join (all_join low-racks (all-each ps low-checks)) low-items) low-limits

  -- the hold stands by itself
  pub parted : hull_rules x ps ≡ (loads x ++ launched_drones x ps) ++ (cargo x ps ++ behind)
  unfolding hull_rules resources
  parted = simp (append_assoc)

  pub low-rules : All (Low 19) (hull_rules x ps)
  unfolding hull_rules
  low-rules =
      all_join (all_join (all_join (all_join low-resources (all-low low-racks)) (all-low (all-each ps low-checks))) (all-low low-items))
      (all-low low-limits)

-- ---- those of the Rust's list have numbers below 22, a league's below 26
pub raise : (n m : ℕ) → n ≤ m → {l : List Entry} → All (Low n) l → All (Low m) l
raise n m h nil = nil
raise n m h (cons {x} p ps) = cons (let k = ltb-true (number x) n p in lt-ltb (number x) m (omega arith)) (raise n m h ps)

pub low-list : (c : Catalogue) (k : Frame) (ids : List Id) (ps : List Pair) → All (Low 22) (list_with c k ids ps)
unfolding list_with not_a_mode not_a_skill fields
low-list c k ids ps =
    all-cond (is_hull c k.ship)
    (all_join (all_join (all-bind _ λ _. all-when _ _ (λ _. refl)) (all-each ids λ _. all-when _ _ (λ _. refl)))
    (raise 19 22 (omega arith) (low-rules (context c k) ps)))
    (cons refl nil)

pub low-league : (prices : List Price) (allowance : ℕ) (ps : List Pair) → All (Low 26) (league prices allowance ps)
unfolding league banned banned_at over_allowance when_above fields
low-league prices allowance ps = all_join (all-each ps λ p. all-when _ _ (λ _. refl)) (all-when _ _ (λ _. refl))

-- an entry with a lower number is not of the rule
pub below_not : (n k : ℕ) → ltb n k ≡ true → not (eqb n k) ≡ true
below_not n k h = go (eqb n k) refl
  where
    go : (b : Bool) → eqb n k ≡ b → not b ≡ true
    go true e = absurd (let q = eqb→eq n k (subst T (sym e) tt) in let l = ltb-true n k h in omega arith)
    go false e = refl

pub all-below : (n : ℕ) {l : List Entry} → All (Low n) l → All (λ e. not (eqb (number e) n) ≡ true) l
all-below n nil = nil
all-below n (cons {x} p ps) = cons (below_not (number x) n p) (all-below n ps)

pub low-before : (c : Catalogue) (k : Frame) (ids : List Id) (ps : List Pair) → All (Low 26) (list_with c k ids ps)
low-before c k ids ps = raise 22 26 (omega arith) (low-list c k ids ps)
