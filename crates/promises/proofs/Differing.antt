-- Entries of one list differ in target, rule, sub or id: by their numbers; of one rule by their subs, by their ids, or by the pairs that they
-- are about. Rule by rule, each list within bounds of a number that tells its entries from those of another list.
use Prim.Native.Nat.{ℕ, zero, suc, ◌≤◌, ◌<◌}
use native.Mathlib.Nat.{le_refl, le_of_suc-le-suc, not-suc-le-zero}
use native.Mathlib.Omega.{arith}
use mathlib.Core.Path.{◌≡◌, refl, sym, ap, ◌∙◌, subst}
use mathlib.Core.Bool.{Bool, true, false, not, ◌&&◌, ◌||◌, cond}
use mathlib.Core.List.{List, [], ◌∷◌, ◌++◌, map}
use mathlib.Core.Logic.{◌⊎◌, inl, inr}
use Rattle.std.specs.Prelude.{Option, None as Missing, Some, slice_get}
use lib.Dec.{T, eqb, lit≤, lit<}
use lib.Ieee.{Float}
use lib.Signed.{lt_z, mag}
use borrow.Author.Tests.{ne_eqb, ltb-true}
use Rattle.words.specs.Words.{◌>>=◌, each, when, when_any, when_above, unless, any_of, in_order, given}
use Rattle.words.proofs.All.{All, nil, cons, all_join, all-when, all-cond, all-bind, all-each, all-each_of}
use Rattle.image.specs.Bytes.{signed32}
use Rattle.image.proofs.Puts.{signed_bits}
use Rattle.keys.specs.Keys.{rank_of}
use Rattle.keys.proofs.Ranks.{rank_lt}
use Rattle.catalogue.specs.Catalogue.{Id, Catalogue, catalogue_of}
use Rattle.fit.specs.Fit.{Result, Frame, Fit, fit_of, mode_of, all_results}
use Rattle.fit.specs.Fit as Fit
use Rattle.fit.specs.Refusals.{bad_order}
use Rattle.profile.specs.Profile.{Price}
use Rattle.entry.specs.declared.Target.{Target}
use Rattle.entry.specs.declared.Target.TheVariants.{Item}
use Rattle.entry.specs.declared.Rule.TheVariants.{NotASkill}
use Rattle.entry.specs.declared.Entry.{Entry}
use Rattle.entry.specs.Entries.{fields, number, on_ship}
use Rattle.numbers.specs.Resources as Resources
use Rattle.numbers.specs.Slots as Slots
use Rattle.numbers.specs.Limits as Limits
use Rattle.numbers.specs.declared.Resource.{Resource}
use Rattle.numbers.specs.declared.Resource.TheVariants.{Cpu, Powergrid, Calibration, DroneBay, DroneBandwidth, LaunchedDrones}
use Rattle.numbers.specs.declared.Resource.TheVariants.{FighterBay, FighterTubes, LightFighterTubes, SupportFighterTubes, HeavyFighterTubes, CargoBay}
use Rattle.numbers.specs.declared.SlotKind.{SlotKind}
use Rattle.numbers.specs.declared.SlotKind.TheVariants.{High, Medium, Low, Rig, Subsystem, Service, Turret, Launcher}
use Rattle.numbers.specs.declared.GroupLimit.{GroupLimit}
use Rattle.numbers.specs.declared.GroupLimit.TheVariants.{Fitted, Online, Active}
use Rattle.context.specs.Context.{Pair, Context, context, pairs_from, pairs}
use Rattle.resource.specs.Resource.{LOADS, resource, loads, launched_drones, cargo, resources}
use Rattle.racks.specs.Racks.{RACKS, HARDPOINTS, slots, racks, hardpoints}
use Rattle.slot.specs.Slot.{wrong_slot, not_a_module, not_a_drone, not_a_fighter, not_an_implant, wrong_slot_index, slot_taken, subsystem_taken, slot_checks}
use Rattle.item.specs.Item.{is_structure, rig_size_at, rig_size, ship_restricted_at, ship_restricted, capital_item_at, capital_item, standup_at, standup}
use Rattle.limits.specs.Limits.{group_limit_rows, group_limit_at, group_limit, group_limits, type_limit_at, type_limit}
use Rattle.league.specs.League.{banned_at, banned, over_allowance, league}
use Rattle.validate.specs.Kind.{is_hull, is_skill, not_a_mode, not_a_skill}
use Rattle.validate.specs.Validate.{hull_rules, list_with}
use Rattle.lists.specs.Terms.{Terms, main}
use Rattle.lists.specs.Unknown.{unknown_type_at, unknown_types}
use Rattle.lists.specs.Lists.{on_hull, league_with, whole_with, whole_list}
use Rattle.training.proofs.Ranges.{skills-range}
use Rattle.cause.specs.Cause.{id_of, alike, same_target, is_about}
use Rattle.promises.specs.Answers.{None, fit_conditions}
use Rattle.promises.specs.Causes.{listed}

-- ---- two entries that differ
abbrev pub Differ : Entry → Entry → Type 0
Differ a b = is_about a.target a.rule b ≡ false

no_first : (a b c : Bool) → a ≡ false → (a && b && c) ≡ false
no_first true b c h = absurd (subst (λ (t : Bool). T (not t)) (sym h) tt)
no_first false b c h = refl

no_second : (a b c : Bool) → b ≡ false → (a && b && c) ≡ false
no_second true true c h = absurd (subst (λ (t : Bool). T (not t)) (sym h) tt)
no_second true false c h = refl
no_second false b c h = refl

no_third : (a b c : Bool) → c ≡ false → (a && b && c) ≡ false
no_third true true true h = absurd (subst (λ (t : Bool). T (not t)) (sym h) tt)
no_third true true false h = refl
no_third true false c h = refl
no_third false b c h = refl

no_left : (a b : Bool) → a ≡ false → (a && b) ≡ false
no_left true b h = absurd (subst (λ (t : Bool). T (not t)) (sym h) tt)
no_left false b h = refl

no_right : (a b : Bool) → b ≡ false → (a && b) ≡ false
no_right true b h = h
no_right false b h = refl

-- a number that tells entries apart
abbrev Telling : (Entry → ℕ) → Type 0
Telling key = (a b : Entry) → (key a ≡ key b → ⊥) → Differ a b

by_number : Telling number
unfolding is_about alike
by_number a b h =
    no_right (same_target b.target a.target) (alike a.rule b.rule)
    (no_first (eqb (number a) (number b)) (eqb (fields a.rule).1 (fields b.rule).1) (eqb (id_of a.rule) (id_of b.rule)) (ne_eqb (number a) (number b) h))

-- the sub, or anything that is made of it
by-sub : (rank : ℕ → ℕ) → Telling (λ e. rank (fields e.rule).1)
unfolding is_about alike
by-sub rank a b h =
    let m = (fields a.rule).1 in
    let n = (fields b.rule).1 in
    no_right (same_target b.target a.target) (alike a.rule b.rule)
    (no_second (eqb (number a) (number b)) (eqb m n) (eqb (id_of a.rule) (id_of b.rule)) (ne_eqb m n (λ e. h (ap rank e))))

by-id : Telling (λ e. id_of e.rule)
unfolding is_about alike
by-id a b h =
    no_right (same_target b.target a.target) (alike a.rule b.rule)
    (no_third (eqb (number a) (number b)) (eqb (fields a.rule).1 (fields b.rule).1) (eqb (id_of a.rule) (id_of b.rule))
    (ne_eqb (id_of a.rule) (id_of b.rule) h))

-- the pairs that they are about
by-pair : (a b : Entry) (i j : ℕ) → a.target ≡ Item i → b.target ≡ Item j → (i ≡ j → ⊥) → Differ a b
unfolding is_about same_target
by-pair a b i j p q h =
    no_left (same_target b.target a.target) (alike a.rule b.rule)
    (ap (λ (t : Target). same_target b.target t) p ∙ ap (λ (t : Target). same_target t (Item i)) q ∙ ne_eqb j i (λ e. h (sym e)))

-- ---- lists whose entries differ
pub data Distinct : List Entry → Type 0 where
  no_entry_lem : Distinct []
  entry : {e : Entry} {l : List Entry} → All (Differ e) l → Distinct l → Distinct (e ∷ l)

abbrev Across : List Entry → List Entry → Type 0
Across l m = All (λ (a : Entry). All (Differ a) m) l

distinct_join : {l m : List Entry} → Distinct l → Distinct m → Across l m → Distinct (l ++ m)
distinct_join no_entry_lem k x = k
distinct_join (entry h d) k (cons y x) = entry (all_join h y) (distinct_join d k x)

elem_all : {P : Entry → Type 0} {l : List Entry} → All P l → (i : ℕ) (e : Entry) → slice_get l i ≡ Some e → P e
unfolding given
elem_all nil i e h = absurd (subst (λ (o : Option Entry). T (given o true (λ _. false))) h tt)
elem_all {P} (cons {x} p a) zero e h = subst P (ap (λ (o : Option Entry). given o x (λ z. z)) h) p
elem_all (cons p a) (suc i) e h = elem_all a i e h

pub distinct_at : {l : List Entry} → Distinct l → (i j : ℕ) (a b : Entry) → i < j → slice_get l i ≡ Some a → slice_get l j ≡ Some b → Differ a b
unfolding given
distinct_at no_entry_lem i j a b h p q = absurd (subst (λ (o : Option Entry). T (given o true (λ _. false))) p tt)
distinct_at (entry x d) i zero a b h p q = absurd (not-suc-le-zero h)
distinct_at (entry {e} x d) zero (suc j) a b h p q =
    subst (λ (z : Entry). Differ z b) (ap (λ (o : Option Entry). given o e (λ z. z)) p) (elem_all x j b q)
distinct_at (entry x d) (suc i) (suc j) a b h p q = distinct_at d i j a b (le_of_suc-le-suc h) p q

-- ---- a list within bounds of a number
abbrev Bound : (Entry → ℕ) → ℕ → ℕ → Entry → Type 0
Bound key lo hi e = (lo ≤ key e) × (key e < hi)

pub record Seg (key : Entry → ℕ) (lo hi : ℕ) (l : List Entry) : Type 0 where
  pub distinct : Distinct l
  pub bound : All (Bound key lo hi) l

module _ (key : Entry → ℕ) (tells : Telling key) where
  across : (a b c d : ℕ) → (b ≤ c) ⊎ (d ≤ a) → {l m : List Entry} → All (Bound key a b) l → All (Bound key c d) m → Across l m
  across a b c d o nil k = nil
  across a b c d o (cons {x} p h) k = cons (one k) (across a b c d o h k)
    where
      apart : (b ≤ c) ⊎ (d ≤ a) → (y : Entry) → Bound key c d y → key x ≡ key y → ⊥
      apart (inl q) y r e = omega (arith, q, p.0, p.1, r.0, r.1, e)
      apart (inr q) y r e = omega (arith, q, p.0, p.1, r.0, r.1, e)

      one : {n : List Entry} → All (Bound key c d) n → All (Differ x) n
      one nil = nil
      one (cons {x = y} r g) = cons (tells x y (apart o y r)) (one g)

  widen : (a b lo hi : ℕ) → lo ≤ a → b ≤ hi → {l : List Entry} → All (Bound key a b) l → All (Bound key lo hi) l
  widen a b lo hi p q nil = nil
  widen a b lo hi p q (cons {x} r h) = cons {x = x} (omega (arith, p, r.0), omega (arith, q, r.1)) (widen a b lo hi p q h)

  -- one behind another, in either order of their bounds
  seg_join : (a b c d lo hi : ℕ) → (b ≤ c) ⊎ (d ≤ a) → (lo ≤ a) × (lo ≤ c) × (b ≤ hi) × (d ≤ hi) → {l m : List Entry}
      → Seg key a b l → Seg key c d m → Seg key lo hi (l ++ m)
  seg_join a b c d lo hi o w s r = record {
    distinct = distinct_join s.distinct r.distinct (across a b c d o s.bound r.bound);
    bound = all_join (widen a b lo hi w.0 w.2 s.bound) (widen c d lo hi w.1 w.3 r.bound);
  }

  next : (a b c : ℕ) → a ≤ b → b ≤ c → {l m : List Entry} → Seg key a b l → Seg key b c m → Seg key a c (l ++ m)
  next a b c p q s r = seg_join a b b c a c (inl (le_refl b)) (le_refl a, p, q, le_refl c) s r

module _ {key : Entry → ℕ} {lo hi : ℕ} where
  seg_nil : Seg key lo hi []
  seg_nil = record { distinct = no_entry_lem; bound = nil }

  seg_one : (e : Entry) → Bound key lo hi e → Seg key lo hi (e ∷ [])
  seg_one e h = record { distinct = entry nil no_entry_lem; bound = cons h nil }

  seg_when : (b : Bool) (e : Entry) → Bound key lo hi e → Seg key lo hi (when b e)
  unfolding when
  seg_when true e h = seg_one e h
  seg_when false e h = seg_nil

  seg_cond : (b : Bool) {l m : List Entry} → Seg key lo hi l → Seg key lo hi m → Seg key lo hi (cond b l m)
  seg_cond true s r = s
  seg_cond false s r = r

  seg_unless : (b : Bool) {l : List Entry} → Seg key lo hi l → Seg key lo hi (unless b l)
  unfolding unless
  seg_unless true s = seg_nil
  seg_unless false s = s

  seg_bind : {I : Type 0} (o : Option I) {f : I → List Entry} → ((x : I) → Seg key lo hi (f x)) → Seg key lo hi (◌>>=◌ o f)
  unfolding ◌>>=◌
  seg_bind Missing h = seg_nil
  seg_bind (Some x) h = h x

-- the same list by another number
seg_as : {k key : Entry → ℕ} {a b lo hi : ℕ} {l : List Entry} → Seg k a b l → All (Bound key lo hi) l → Seg key lo hi l
seg_as s h = record { distinct = s.distinct; bound = h }

-- ---- entries about one pair
abbrev About : Pair → Entry → Type 0
About p e = e.target ≡ Item p.position

pub record Of (key : Entry → ℕ) (p : Pair) (lo hi : ℕ) (l : List Entry) : Type 0 where
  pub seg : Seg key lo hi l
  pub about : All (About p) l

of_when : {key : Entry → ℕ} {lo hi : ℕ} (p : Pair) (b : Bool) (e : Entry) → Bound key lo hi e → e.target ≡ Item p.position → Of key p lo hi (when b e)
of_when p b e h q = record { seg = seg_when b e h; about = all-when b e (λ _. q) }

of_cond : {key : Entry → ℕ} {lo hi : ℕ} (p : Pair) (b : Bool) {l m : List Entry} → Of key p lo hi l → Of key p lo hi m → Of key p lo hi (cond b l m)
of_cond p b s r = record { seg = seg_cond b s.seg r.seg; about = all-cond b s.about r.about }

of_bind : {key : Entry → ℕ} {lo hi : ℕ} {I : Type 0} (p : Pair) (o : Option I) {f : I → List Entry} → ((x : I) → Of key p lo hi (f x)) → Of key p lo hi (◌>>=◌ o f)
of_bind p o h = record { seg = seg_bind o (λ x. (h x).seg); about = all-bind o (λ x. (h x).about) }

of_next : (p : Pair) (a b c : ℕ) → a ≤ b → b ≤ c → {l m : List Entry} → Of number p a b l → Of number p b c m → Of number p a c (l ++ m)
of_next p a b c h k s r = record { seg = next number by_number a b c h k s.seg r.seg; about = all_join s.about r.about }

-- ---- pairs with numbers of their own
pub data Apart : List Pair → Type 0 where
  no_pair : Apart []
  pair : {p : Pair} {l : List Pair} → All (λ (o : Pair). p.position < o.position) l → Apart l → Apart (p ∷ l)

positions_above : (c : Catalogue) (m n : ℕ) → m < n → (is : List Fit.Item) (rs : List Result) → All (λ (o : Pair). m < o.position) (pairs_from c n is rs)
unfolding pairs_from
positions_above c m n h [] rs = nil
positions_above c m n h (i ∷ is) [] = nil
positions_above c m n h (i ∷ is) (r ∷ rs) = cons h (positions_above c m (suc n) (omega (arith, h)) is rs)

apart_from : (c : Catalogue) (n : ℕ) (is : List Fit.Item) (rs : List Result) → Apart (pairs_from c n is rs)
unfolding pairs_from
apart_from c n [] rs = no_pair
apart_from c n (i ∷ is) [] = no_pair
apart_from c n (i ∷ is) (r ∷ rs) = pair (positions_above c n (suc n) (omega arith) is rs) (apart_from c (suc n) is rs)

pub pairs-apart : (c : Catalogue) (f : Fit) → Apart (pairs c f)
unfolding pairs
pairs-apart c f = apart_from c 0 f.items f.results

-- a list for each pair
module _ {key : Entry → ℕ} {lo hi : ℕ} (f : Pair → List Entry) (own : (p : Pair) → Of key p lo hi (f p)) where
  others : (p : Pair) {l : List Pair} → All (λ (o : Pair). p.position < o.position) l → {es : List Entry} → All (About p) es → Across es (each l f)
  others p k nil = nil
  others p k (cons {x = e} q h) = cons (all-each_of k (λ o r. from-other o r (own o).about)) (others p k h)
    where
      from-other : (o : Pair) → p.position < o.position → {m : List Entry} → All (About o) m → All (Differ e) m
      from-other o r nil = nil
      from-other o r (cons {x = y} s g) = cons (by-pair e y p.position o.position q s (λ z. omega (arith, z, r))) (from-other o r g)

  seg_pairs : {ps : List Pair} → Apart ps → Seg key lo hi (each ps f)
  unfolding each
  seg_pairs no_pair = seg_nil
  seg_pairs (pair {p} {l} k a) =
      let r = seg_pairs a in record {
        distinct = distinct_join (own p).seg.distinct r.distinct (others p k (own p).about);
        bound = all_join (own p).seg.bound r.bound;
      }

-- ---- rule by rule
module _ (x : Context) (ps : List Pair) (a : Apart ps) where
  checks_of : (p : Pair) → Of number p 3 11 (slot_checks x ps p)
  unfolding slot_checks wrong_slot not_a_module not_a_drone not_a_fighter not_an_implant slot_taken wrong_slot_index subsystem_taken when_any fields
  checks_of p =
      of_next p 3 10 11 (lit≤ tt) (lit≤ tt) (of_next p 3 9 10 (lit≤ tt) (lit≤ tt) (of_next p 3 8 9 (lit≤ tt) (lit≤ tt) (of_next p 3 7 8 (lit≤ tt) (lit≤ tt)
      (of_next p 3 6 7 (lit≤ tt) (lit≤ tt) (of_next p 3 5 6 (lit≤ tt) (lit≤ tt) (of_next p 3 4 5 (lit≤ tt) (lit≤ tt)
      (of_bind p p.rack λ rack. of_bind p (Slots.kind_of rack) λ _. of_when p _ _ (lit≤ tt, lit< tt) refl)
      (of_when p _ _ (lit≤ tt, lit< tt) refl))
      (of_when p _ _ (lit≤ tt, lit< tt) refl))
      (of_when p _ _ (lit≤ tt, lit< tt) refl))
      (of_when p _ _ (lit≤ tt, lit< tt) refl))
      (of_when p _ _ (lit≤ tt, lit< tt) refl))
      (of_bind p _ λ name. of_bind p _ λ id. of_bind p _ λ v. of_when p _ _ (lit≤ tt, lit< tt) refl))
      (of_bind p _ λ id. of_bind p _ λ part. of_when p _ _ (lit≤ tt, lit< tt) refl)

  rules-checks : Seg number 3 11 (each ps (slot_checks x ps))
  rules-checks = seg_pairs (slot_checks x ps) checks_of a

  rules-items : Seg number 12 17 (rig_size x ps ++ ship_restricted x ps ++ capital_item x ps ++ standup x ps)
  unfolding rig_size rig_size_at ship_restricted ship_restricted_at capital_item capital_item_at standup standup_at fields
  rules-items =
      next number by_number 12 15 17 (lit≤ tt) (lit≤ tt) (next number by_number 12 14 15 (lit≤ tt) (lit≤ tt) (next number by_number 12 13 14 (lit≤ tt) (lit≤ tt)
      (seg_bind _ λ id. seg_bind _ λ ship. seg_pairs _ (λ p. of_bind p _ λ size. of_when p _ _ (lit≤ tt, lit< tt) refl) a)
      (seg_pairs _ (λ p. of_when p _ _ (lit≤ tt, lit< tt) refl) a))
      (seg_bind _ λ volume. seg_bind _ λ capital. seg_unless _ (seg_pairs _ (λ p. of_when p _ _ (lit≤ tt, lit< tt) refl) a)))
      (seg_pairs _ (λ p. of_cond p (is_structure x) (of_when p _ _ (lit≤ tt, lit< tt) refl) (of_when p _ _ (lit≤ tt, lit< tt) refl)) a)

  abbrev sub : Entry → ℕ
  sub e = (fields e.rule).1

  -- one row of the limits
  group-row : (limit : GroupLimit) (lowest name : ℕ) → Seg sub (Limits.number limit) (suc (Limits.number limit)) (group_limit x ps (limit, lowest, name))
  unfolding group_limit group_limit_at when_above fields
  group-row limit lowest name = seg_bind _ λ id. seg_pairs _ (λ p. of_bind p _ λ allowed. of_when p _ _ (le_refl (Limits.number limit), le_refl (suc (Limits.number limit))) refl) a

  groups_17 : All (Bound number 17 18) (group_limits x ps)
  unfolding group_limits group_limit group_limit_at when_above fields
  groups_17 = all-each group_limit_rows λ g. all-bind _ λ id. all-each ps λ p. all-bind _ λ allowed. all-when _ _ (λ _. (lit≤ tt, lit< tt))

  groups_apart : Seg sub 0 3 (group_limits x ps)
  unfolding group_limits each
  groups_apart =
      next sub (by-sub (λ n. n)) 0 1 3 (lit≤ tt) (lit≤ tt) (group-row Fitted _ _)
      (next sub (by-sub (λ n. n)) 1 2 3 (lit≤ tt) (lit≤ tt) (group-row Online _ _)
      (next sub (by-sub (λ n. n)) 2 3 3 (lit≤ tt) (lit≤ tt) (group-row Active _ _) seg_nil))

  rules-limits : Seg number 17 19 (group_limits x ps ++ type_limit x ps)
  unfolding type_limit type_limit_at when_above fields
  rules-limits =
      next number by_number 17 18 19 (lit≤ tt) (lit≤ tt) (seg_as groups_apart groups_17)
      (seg_bind _ λ id. seg_pairs _ (λ p. of_bind p _ λ allowed. of_when p _ _ (lit≤ tt, lit< tt) refl) a)

  -- ---- resource.rs: by their kinds, launched drones and the hold behind the loads
  abbrev rank : ℕ → ℕ
  rank n = cond (eqb n 5) 11 (cond (eqb n 11) 12 n)

  abbrev kind : Entry → ℕ
  kind e = rank (fields e.rule).1

  kinds : Telling kind
  kinds = by-sub rank

  one-load : (k : Resource) (u v : Float) (lo hi : ℕ) → (lo ≤ rank (Resources.number k)) × (rank (Resources.number k) < hi) → Seg kind lo hi (resource k u v)
  unfolding resource fields
  one-load k u v lo hi h = seg_when _ _ h

  loads-apart : Seg kind 0 11 (loads x)
  unfolding loads each
  loads-apart =
      next kind kinds 0 1 11 (lit≤ tt) (lit≤ tt) (seg_bind _ λ load. seg_bind _ λ output. one-load Cpu _ _ 0 1 (lit≤ tt, lit< tt))
      (next kind kinds 1 2 11 (lit≤ tt) (lit≤ tt) (seg_bind _ λ load. seg_bind _ λ output. one-load Powergrid _ _ 1 2 (lit≤ tt, lit< tt))
      (next kind kinds 2 3 11 (lit≤ tt) (lit≤ tt) (seg_bind _ λ load. seg_bind _ λ output. one-load Calibration _ _ 2 3 (lit≤ tt, lit< tt))
      (next kind kinds 3 4 11 (lit≤ tt) (lit≤ tt) (seg_bind _ λ load. seg_bind _ λ output. one-load DroneBay _ _ 3 4 (lit≤ tt, lit< tt))
      (next kind kinds 4 5 11 (lit≤ tt) (lit≤ tt) (seg_bind _ λ load. seg_bind _ λ output. one-load DroneBandwidth _ _ 4 5 (lit≤ tt, lit< tt))
      (next kind kinds 5 7 11 (lit≤ tt) (lit≤ tt) (seg_bind _ λ load. seg_bind _ λ output. one-load FighterBay _ _ 5 7 (lit≤ tt, lit< tt))
      (next kind kinds 7 8 11 (lit≤ tt) (lit≤ tt) (seg_bind _ λ load. seg_bind _ λ output. one-load FighterTubes _ _ 7 8 (lit≤ tt, lit< tt))
      (next kind kinds 8 9 11 (lit≤ tt) (lit≤ tt) (seg_bind _ λ load. seg_bind _ λ output. one-load LightFighterTubes _ _ 8 9 (lit≤ tt, lit< tt))
      (next kind kinds 9 10 11 (lit≤ tt) (lit≤ tt) (seg_bind _ λ load. seg_bind _ λ output. one-load SupportFighterTubes _ _ 9 10 (lit≤ tt, lit< tt))
      (next kind kinds 10 11 11 (lit≤ tt) (lit≤ tt) (seg_bind _ λ load. seg_bind _ λ output. one-load HeavyFighterTubes _ _ 10 11 (lit≤ tt, lit< tt)) seg_nil)))))))))

  number-1 : (k : Resource) (u v : Float) → All (Bound number 1 2) (resource k u v)
  unfolding resource fields
  number-1 k u v = all-when _ _ (λ _. (lit≤ tt, lit< tt))

  resources-1 : All (Bound number 1 2) (resources x ps)
  unfolding resources loads launched_drones cargo
  resources-1 =
      all_join (all_join
      (all-each LOADS λ l. all-bind _ λ load. all-bind _ λ output. number-1 l.0 _ _)
      (all-bind _ λ limit. number-1 LaunchedDrones _ _))
      (all-bind _ λ capacity. number-1 CargoBay _ _)

  resources-apart : Seg kind 0 13 (resources x ps)
  unfolding resources launched_drones cargo
  resources-apart =
      next kind kinds 0 12 13 (lit≤ tt) (lit≤ tt)
      (next kind kinds 0 11 12 (lit≤ tt) (lit≤ tt) loads-apart (seg_bind _ λ limit. one-load LaunchedDrones _ _ 11 12 (lit≤ tt, lit< tt)))
      (seg_bind _ λ capacity. one-load CargoBay _ _ 12 13 (lit≤ tt, lit< tt))

  -- ---- racks and hardpoints: by their slots
  one-slot : (slot : SlotKind) (name used : ℕ) → Seg sub (Slots.number slot) (suc (Slots.number slot)) (slots x slot name used)
  unfolding slots when_above fields
  one-slot slot name used = seg_bind _ λ id. seg_when _ _ (le_refl (Slots.number slot), le_refl (suc (Slots.number slot)))

  abbrev subs : Telling sub
  subs = by-sub (λ n. n)

  racks-apart : Seg sub 0 6 (racks x ps)
  unfolding racks each
  racks-apart =
      next sub subs 0 1 6 (lit≤ tt) (lit≤ tt) (one-slot High _ _) (next sub subs 1 2 6 (lit≤ tt) (lit≤ tt) (one-slot Medium _ _)
      (next sub subs 2 3 6 (lit≤ tt) (lit≤ tt) (one-slot Low _ _) (next sub subs 3 4 6 (lit≤ tt) (lit≤ tt) (one-slot Rig _ _)
      (next sub subs 4 5 6 (lit≤ tt) (lit≤ tt) (one-slot Subsystem _ _) (next sub subs 5 6 6 (lit≤ tt) (lit≤ tt) (one-slot Service _ _) seg_nil)))))

  hardpoints-apart : Seg sub 6 8 (hardpoints x ps)
  unfolding hardpoints each
  hardpoints-apart = next sub subs 6 7 8 (lit≤ tt) (lit≤ tt) (one-slot Turret _ _) (next sub subs 7 8 8 (lit≤ tt) (lit≤ tt) (one-slot Launcher _ _) seg_nil)

  number-2 : (slot : SlotKind) (name used : ℕ) → All (Bound number 2 3) (slots x slot name used)
  unfolding slots when_above fields
  number-2 slot name used = all-bind _ λ id. all-when _ _ (λ _. (lit≤ tt, lit< tt))

  racks-2 : All (Bound number 2 3) (racks x ps ++ hardpoints x ps)
  unfolding racks hardpoints
  racks-2 = all_join (all-each RACKS λ r. number-2 r.0 r.1 _) (all-each HARDPOINTS λ r. number-2 r.0 r.1 _)

  rules-apart : Seg number 1 19 (hull_rules x ps)
  unfolding hull_rules
  rules-apart =
      next number by_number 1 17 19 (lit≤ tt) (lit≤ tt)
      (seg_join number by_number 1 11 12 17 1 17 (inl (lit≤ tt)) (lit≤ tt, lit≤ tt, lit≤ tt, lit≤ tt)
      (next number by_number 1 3 11 (lit≤ tt) (lit≤ tt)
      (next number by_number 1 2 3 (lit≤ tt) (lit≤ tt) (seg_as resources-apart resources-1)
      (seg_as (next sub subs 0 6 8 (lit≤ tt) (lit≤ tt) racks-apart hardpoints-apart) racks-2))
      rules-checks)
      rules-items)
      rules-limits

-- ---- listed skills that are none: by their ids, which ascend
abbrev Low32 : Id → Type 0
Low32 i = mag i < 2147483648

later_ids : (i : Id) (ids : List Id) → Low32 i → All Low32 ids → in_order lt_z (i ∷ ids) ≡ true → All (λ (j : Id). rank_of i < rank_of j) ids
unfolding in_order
later_ids i [] p q h = nil
later_ids i (j ∷ ids) p (cons r q) h =
    let both = halves (lt_z i j) (in_order lt_z (j ∷ ids)) h in
    let l : rank_of i < rank_of j = ltb-true (rank_of i) (rank_of j) (sym (rank_lt i j p r) ∙ both.0) in
    cons l (all-rise l (later_ids j ids r q both.1))
  where
    halves : (a b : Bool) → (a && b) ≡ true → (a ≡ true) × (b ≡ true)
    halves true b k = (refl, k)
    halves false b k = absurd (subst T (sym k) tt)

    all-rise : rank_of i < rank_of j → {l : List Id} → All (λ (k : Id). rank_of j < rank_of k) l → All (λ (k : Id). rank_of i < rank_of k) l
    all-rise s nil = nil
    all-rise s (cons {x = k} t a) = cons {x = k} (omega (arith, s, t)) (all-rise s a)

tail_order : (i : Id) (ids : List Id) → in_order lt_z (i ∷ ids) ≡ true → in_order lt_z ids ≡ true
unfolding in_order
tail_order i [] h = refl
tail_order i (j ∷ ids) h = second (lt_z i j) (in_order lt_z (j ∷ ids)) h
  where
    second : (a b : Bool) → (a && b) ≡ true → b ≡ true
    second true b k = k
    second false b k = absurd (subst T (sym k) tt)

module _ (c : Catalogue) where
  other_skill : (i j : Id) → Low32 i → Low32 j → rank_of i < rank_of j → Differ (on_ship (NotASkill i)) (on_ship (NotASkill j))
  unfolding id_of fields any_of
  other_skill i j p q l = by-id (on_ship (NotASkill i)) (on_ship (NotASkill j)) (λ e.
      let s : i ≡ j = sym (signed_bits i p) ∙ ap signed32 e ∙ signed_bits j q in
      let r : rank_of i ≡ rank_of j = ap rank_of s in
      omega (arith, l, r))

  pub skills-apart : (ids : List Id) → All Low32 ids → in_order lt_z ids ≡ true → Seg number 21 22 (not_a_skill c ids)
  unfolding not_a_skill each fields
  skills-apart [] q h = seg_nil
  skills-apart (i ∷ ids) (cons p q) h =
      let rest = skills-apart ids q (tail_order i ids h) in record {
        distinct = distinct_join (seg_when {key = number} {lo = 21} {hi = 22} (not (is_skill c i)) (on_ship (NotASkill i)) (lit≤ tt, lit< tt)).distinct rest.distinct
            (all-when _ _ (λ _. all-each_of (both_of q (later_ids i ids p q h)) (λ j r. all-when _ _ (λ _. other_skill i j p r.0 r.1))));
        bound = all_join (all-when _ _ (λ _. (lit≤ tt, lit< tt))) rest.bound;
      }
    where
      both_of : {l : List Id} → All Low32 l → All (λ (j : Id). rank_of i < rank_of j) l → All (λ (j : Id). Low32 j × (rank_of i < rank_of j)) l
      both_of nil nil = nil
      both_of (cons s a) (cons t b) = cons (s, t) (both_of a b)

-- ---- the whole list
module _ (t : Terms) (c : Catalogue) (k : Frame) (ids : List Id) (ps : List Pair) (low : All Low32 ids) (rising : in_order lt_z ids ≡ true) (a : Apart ps) where
  list_apart : Seg number 1 22 (list_with c k ids ps)
  unfolding list_with not_a_mode fields
  list_apart =
      seg_cond (is_hull c k.ship)
      (seg_join number by_number 20 22 1 19 1 22 (inr (lit≤ tt)) (lit≤ tt, lit≤ tt, lit≤ tt, lit≤ tt)
      (next number by_number 20 21 22 (lit≤ tt) (lit≤ tt) (seg_bind _ λ m. seg_when _ _ (lit≤ tt, lit< tt)) (skills-apart c ids low rising))
      (rules-apart (context c k) ps a))
      (seg_one _ (lit≤ tt, lit< tt))

  league-apart : (prices : List Price) (allowance : ℕ) → Seg number 24 26 (league prices allowance ps)
  unfolding league banned banned_at over_allowance when_above fields
  league-apart prices allowance =
      next number by_number 24 25 26 (lit≤ tt) (lit≤ tt)
      (seg_pairs _ (λ p. of_when p _ _ (lit≤ tt, lit< tt) refl) a)
      (seg_when _ _ (lit≤ tt, lit< tt))

  unknown-apart : Seg number 26 27 (unknown_types c ps)
  unfolding unknown_types unknown_type_at fields
  unknown-apart = seg_pairs _ (λ p. of_when p _ _ (lit≤ tt, lit< tt) refl) a

  pub whole_apart : Seg number 1 27 (whole_with t c k ids ps)
  unfolding whole_with league_with on_hull
  whole_apart =
      next number by_number 1 26 27 (lit≤ tt) (lit≤ tt)
      (seg_join number by_number 1 22 24 26 1 26 (inl (lit≤ tt)) (lit≤ tt, lit≤ tt, lit≤ tt, lit≤ tt)
      list_apart (seg_cond (is_hull c k.ship) (league-apart _ _) seg_nil))
      (seg_cond (is_hull c k.ship) unknown-apart seg_nil)

-- ---- of an image whose ids ascend
rises : (x y : Bool) → T (not (not x || y)) → x ≡ true
rises true y h = refl
rises false y h = absurd h

pub entries_differ : (catalogue fit : List ℕ) (i j : ℕ) (a b : Entry) → None (fit_conditions fit) → i < j
    → slice_get (listed catalogue fit) i ≡ Some a → slice_get (listed catalogue fit) j ≡ Some b → T (is_about a.target a.rule b) → ⊥
unfolding whole_list bad_order
entries_differ catalogue fit i j a b n h p q t =
    let c = catalogue_of catalogue in
    let f = fit_of fit in
    let rising = rises (in_order lt_z f.skills) (any_of (λ (r : Result). not (in_order lt_z (map (λ (x : Fit.Attribute). x.id) r.attributes))) (all_results f)) n.1.0 in
    let s = whole_apart main c f.frame f.skills (pairs c f) (skills-range fit) rising (pairs-apart c f) in
    subst T (distinct_at s.distinct i j a b h p q) t
