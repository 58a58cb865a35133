-- How many entries a list has at most. Rule by rule, by what the words do to a list's length.
use Prim.Native.Nat.{ℕ, suc, ◌+◌, ◌*◌, ◌≤◌, zero-le, suc-le-suc}
use native.Mathlib.Nat.{le_trans}
use native.Mathlib.Omega.{arith}
use mathlib.Core.Path.{◌≡◌}
use mathlib.Core.Bool.{Bool, true, false, not, cond}
use mathlib.Core.List.{List, [], ◌∷◌, ◌++◌}
use Rattle.std.specs.Prelude.{Option, None, Some}
use lib.Dec.{T, eqb}
use lib.ListN.{length, length-append}
use Rattle.words.specs.Words.{◌>>=◌, each, when, when_any, when_above, unless, only, count_of, given}
use Rattle.words.proofs.Lengths
use Rattle.words.proofs.Tables.{length-table}
use Rattle.image.specs.Bytes.{i32_at}
use Rattle.catalogue.specs.Catalogue.{Id, Catalogue}
use Rattle.fit.specs.Fit.{Item, Result, Frame, Fit, mode_of, fit_of, skill_count, item_count, result_count, skills_at, item_at, result_of}
use Rattle.context.specs.Context.{Pair, Context, pairs_from, pairs, context}
use Rattle.context.specs.Gathered.{pair_count}
use Rattle.entry.specs.declared.Entry.{Entry}
use Rattle.validate.specs.Kind.{is_hull, not_a_mode, not_a_skill}
use Rattle.numbers.specs.declared.Resource.{Resource}
use Rattle.numbers.specs.declared.Resource.TheVariants.{LaunchedDrones, CargoBay}
use Rattle.numbers.specs.declared.SlotKind.{SlotKind}
use Rattle.resource.specs.Resource.{LOADS, resource, loads, launched_drones, cargo, resources}
use Rattle.racks.specs.Racks.{RACKS, HARDPOINTS, slots, racks, hardpoints}
use Rattle.slot.specs.Slot.{wrong_slot, not_a_module, not_a_drone, not_a_fighter, not_an_implant, wrong_slot_index, slot_taken, subsystem_taken, slot_checks}
use Rattle.item.specs.Item.{rig_size_at, rig_size, ship_restricted_at, ship_restricted, is_structure, capital_item_at, capital_item, standup_at, standup}
use Rattle.limits.specs.Limits.{group_limit_rows, group_limit_at, group_limit, group_limits, type_limit_at, type_limit}
use Rattle.validate.specs.Validate.{hull_rules, list_with}
use Rattle.league.specs.League.{banned_at, banned, over_allowance, league}
use Rattle.lists.specs.Terms.{Terms}
use Rattle.lists.specs.Unknown.{unknown_type_at, unknown_types}
use Rattle.lists.specs.Lists.{on_hull, league_of, league_with, whole_with, whole_list, for_guests, for_reader, list_for}

-- ---- a list of at most n elements
pub record Few {A : Type 0} (n : ℕ) (l : List A) : Type 0 where
  pub most : length l ≤ n

module _ {A : Type 0} where
  pub few-join : {a b : ℕ} {l m : List A} → Few a l → Few b m → Few (a + b) (l ++ m)
  few-join {l = l} {m = m} h k = record { most = (let e = length-append l m in omega arith) }

  pub few-more : {a b : ℕ} {l : List A} → a ≤ b → Few a l → Few b l
  few-more h k = record { most = le_trans k.most h }

  pub few-when : (b : Bool) (e : A) → Few 1 (when b e)
  few-when b e = record { most = Lengths.few-when b e }

  few-any : {B : Type 0} (b : Bool) (t : B → Bool) (l : List B) (e : A) → Few 1 (when_any b t l e)
  few-any b t l e = record { most = Lengths.few-any b t l e }

  few-above : (b : Bool) (n allowed : ℕ) (e : ℕ → A) → Few 1 (when_above b n allowed e)
  few-above b n allowed e = record { most = Lengths.few-above b n allowed e }

  few-unless : (b : Bool) {n : ℕ} {l : List A} → Few n l → Few n (unless b l)
  few-unless b {n} {l} h = record { most = le_trans (Lengths.few-unless b l) h.most }

  few-cond : (b : Bool) {n : ℕ} {l m : List A} → Few n l → Few n m → Few n (cond b l m)
  few-cond true h k = h
  few-cond false h k = k

  module _ {I : Type 0} where
    few-bind : (o : Option I) {n : ℕ} {f : I → List A} → ((x : I) → Few n (f x)) → Few n (◌>>=◌ o f)
    few-bind o {n} {f} h = record { most = Lengths.few-bind f n (λ x. (h x).most) o }

    pub few-given : (o : Option I) (t : I → Bool) → T (not (given o false t)) → {n : ℕ} {f : I → List A} → ((x : I) → T (not (t x)) → Few n (f x))
        → Few n (◌>>=◌ o f)
    unfolding ◌>>=◌ given
    few-given None t k h = record { most = zero-le }
    few-given (Some x) t k h = h x k

    pub few-each : (l : List I) {n : ℕ} {f : I → List A} → ((x : I) → Few n (f x)) → Few (n * length l) (each l f)
    few-each l {n} {f} h = record { most = Lengths.few-each f n (λ x. (h x).most) l }

-- ---- the list: 16 entries for each pair, one for each skill, 20 more and one for the mode
few-resource : (k : Resource) (u a : _) → Few 1 (resource k u a)
unfolding resource
few-resource k u a = few-when _ _

module _ (x : Context) (ps : List Pair) where
  few-slots : (slot : SlotKind) (name used : ℕ) → Few 1 (slots x slot name used)
  unfolding slots
  few-slots slot name used = few-bind _ λ id. few-above _ _ _ _

  few-checks : (p : Pair) → Few 8 (slot_checks x ps p)
  unfolding slot_checks wrong_slot not_a_module not_a_drone not_a_fighter not_an_implant slot_taken wrong_slot_index subsystem_taken
  few-checks p =
      few-join (few-join (few-join (few-join (few-join (few-join (few-join
      (few-bind p.rack λ _. few-bind _ λ _. few-when _ _)
      (few-when _ _))
      (few-when _ _))
      (few-when _ _))
      (few-when _ _))
      (few-any _ _ ps _))
      (few-bind _ λ name. few-bind _ λ id. few-bind _ λ v. few-when _ _))
      (few-bind _ λ id. few-bind _ λ part. few-any _ _ ps _)

  few-resources : Few 12 (resources x ps)
  unfolding resources loads launched_drones cargo
  few-resources =
      few-join (few-join
      (few-each LOADS λ l. few-bind _ λ load. few-bind _ λ output. few-resource l.0 _ _)
      (few-bind _ λ limit. few-resource LaunchedDrones _ _))
      (few-bind _ λ capacity. few-resource CargoBay _ _)

  few-racks : Few 8 (racks x ps ++ hardpoints x ps)
  unfolding racks hardpoints
  few-racks = few-join (few-each RACKS λ r. few-slots r.0 r.1 _) (few-each HARDPOINTS λ r. few-slots r.0 r.1 _)

  -- one entry a pair
  abbrev Pairwise : List Entry → Type 0
  Pairwise = Few (1 * length ps)

  few-rigs : Pairwise (rig_size x ps)
  unfolding rig_size rig_size_at
  few-rigs = few-bind _ λ id. few-bind _ λ ship. few-each ps λ p. few-bind _ λ size. few-when _ _

  few-restricted : Pairwise (ship_restricted x ps)
  unfolding ship_restricted ship_restricted_at
  few-restricted = few-each ps λ p. few-when _ _

  few-capital : Pairwise (capital_item x ps)
  unfolding capital_item capital_item_at
  few-capital = few-bind _ λ volume. few-bind _ λ capital. few-unless _ (few-each ps λ p. few-when _ _)

  few-standup : Pairwise (standup x ps)
  unfolding standup standup_at
  few-standup = few-each ps λ p. few-cond (is_structure x) (few-when _ _) (few-when _ _)

  few-groups : Few (1 * length ps * 3) (group_limits x ps)
  unfolding group_limits group_limit group_limit_at
  few-groups = few-each group_limit_rows λ g. few-bind _ λ id. few-each ps λ p. few-bind _ λ allowed. few-above _ _ _ _

  few-types : Pairwise (type_limit x ps)
  unfolding type_limit type_limit_at
  few-types = few-bind _ λ id. few-each ps λ p. few-bind _ λ allowed. few-above _ _ _ _

  few-rules : Few (20 + 16 * length ps) (hull_rules x ps)
  unfolding hull_rules
  few-rules =
      let n = length ps in
      let items = few-join (few-join (few-join few-rigs few-restricted) few-capital) few-standup in
      let h : Few (12 + 8 + 8 * n + (1 * n + 1 * n + 1 * n + 1 * n) + (1 * n * 3 + 1 * n)) (hull_rules x ps) =
      few-join (few-join (few-join (few-join few-resources few-racks) (few-each ps few-checks)) items) (few-join few-groups few-types) in
      let m : length (hull_rules x ps) ≤ 12 + 8 + 8 * n + (1 * n + 1 * n + 1 * n + 1 * n) + (1 * n * 3 + 1 * n) = h.most in
      record { most = omega arith }

pub pairs-few : (c : Catalogue) (n : ℕ) (is : List Item) (rs : List Result) → length (pairs_from c n is rs) ≤ length is
unfolding pairs_from
pairs-few c n [] rs = zero-le
pairs-few c n (i ∷ is) [] = zero-le
pairs-few c n (i ∷ is) (r ∷ rs) = suc-le-suc (pairs-few c (suc n) is rs)

list_with-few : (c : Catalogue) (k : Frame) (ids : List Id) (ps : List Pair) → Few (21 + length ids + 16 * length ps) (list_with c k ids ps)
unfolding list_with not_a_mode not_a_skill
list_with-few c k ids ps =
    let h : Few (1 + 1 * length ids + (20 + 16 * length ps)) (not_a_mode c (mode_of k) ++ not_a_skill c ids ++ hull_rules (context c k) ps) =
    few-join (few-join (few-bind _ λ _. few-when _ _) (few-each ids λ _. few-when _ _)) (few-rules (context c k) ps) in
    few-cond (is_hull c k.ship) (few-more (omega arith) h) (record { most = omega arith })

pub whole_with-few : (t : Terms) (c : Catalogue) (k : Frame) (ids : List Id) (ps : List Pair)
    → Few (22 + length ids + 18 * length ps) (whole_with t c k ids ps)
unfolding whole_with league_with on_hull league banned banned_at over_allowance unknown_types unknown_type_at
whole_with-few t c k ids ps =
    let behind : Few (1 * length ps + 1) (league_of t ps) = few-join (few-each ps λ p. few-when _ _) (few-above _ _ _ _) in
    let last : Few (1 * length ps) (unknown_types c ps) = few-each ps λ p. few-when _ _ in
    let h : Few (21 + length ids + 16 * length ps + (1 * length ps + 1) + 1 * length ps) (whole_with t c k ids ps) =
    few-join
    (few-join (list_with-few c k ids ps) (few-cond (is_hull c k.ship) behind (record { most = zero-le })))
    (few-cond (is_hull c k.ship) last (record { most = zero-le })) in
    few-more (omega arith) h

-- of what passes a test
pub count-le : {A : Type 0} (t : A → Bool) (l : List A) → count_of t l ≤ length l
unfolding count_of only
count-le t [] = zero-le
count-le t (x ∷ l) = go (t x) (count-le t l)
  where
    go : (b : Bool) → length (only t l) ≤ length l → length (cond b (x ∷ only t l) (only t l)) ≤ suc (length l)
    go true h = suc-le-suc h
    go false h = omega arith

-- a reader gets no more
pub list_few : (t : Terms) (c : Catalogue) (f : Fit) → length (list_for t c f) ≤ 22 + length f.skills + 18 * length (pairs c f)
unfolding list_for for_reader whole_list
list_few t c f = go (eqb t.reader 0)
  where
    whole : length (whole_list t c f) ≤ 22 + length f.skills + 18 * length (pairs c f)
    whole = unfold whole_list in (whole_with-few t c f.frame f.skills (pairs c f)).most

    go : (guest : Bool) → length (cond guest (only for_guests (whole_list t c f)) (whole_list t c f)) ≤ 22 + length f.skills + 18 * length (pairs c f)
    go true =
        let l : length (only for_guests (whole_list t c f)) ≤ length (whole_list t c f) = unfold count_of in count-le for_guests (whole_list t c f) in
        let h = whole in
        omega arith
    go false = whole

pairs-fewer : (c : Catalogue) (n : ℕ) (is : List Item) (rs : List Result) → length (pairs_from c n is rs) ≤ length rs
unfolding pairs_from
pairs-fewer c n [] rs = zero-le
pairs-fewer c n (i ∷ is) [] = zero-le
pairs-fewer c n (i ∷ is) (r ∷ rs) = suc-le-suc (pairs-fewer c (suc n) is rs)

-- the skills and the pairs of an image
module _ (b : List ℕ) (c : Catalogue) where
  pub pairs-most : length (pairs c (fit_of b)) ≤ pair_count b
  unfolding pairs fit_of
  pairs-most =
      let p = pairs-few c 0 (fit_of b).items (fit_of b).results in
      let q = pairs-fewer c 0 (fit_of b).items (fit_of b).results in
      let i = length-table 0 (item_count b) (item_at b) in
      let r = length-table 0 (result_count b) (λ j. result_of b (j + 2)) in
      omega arith

  skills-most : length (fit_of b).skills ≡ skill_count b
  unfolding fit_of
  skills-most = length-table 0 (skill_count b) (λ i. i32_at b (skills_at b + 4 * i))

  pub image_few : (t : Terms) → length (list_for t c (fit_of b)) ≤ 22 + skill_count b + 18 * pair_count b
  image_few t = let h = list_few t c (fit_of b) in let s = skills-most in let p = pairs-most in omega arith
