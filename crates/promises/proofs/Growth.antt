-- The list of a fit into which pairs are put: every old entry has its place. Rule by rule, by what the words do to `Placed`; drones and
-- cargo by the laws of floats.
use Prim.Native.Nat.{ℕ, suc, ◌+◌, ◌^◌, ◌≤◌, ◌<◌}
use native.Mathlib.Omega.{arith}
use mathlib.Core.Path.{◌≡◌, refl, sym, ap, ap₂, ◌∙◌, subst}
use mathlib.Core.Bool.{Bool, true, false, not, ◌||◌, cond}
use mathlib.Core.List.Memᴰ
use mathlib.Core.List.{List, [], ◌∷◌, ◌++◌, Memᴰ}
use Rattle.std.specs.Prelude.{Option, None, Some}
use lib.Dec.{T, eqb, eqb→eq}
use lib.ListN.{length, take, drop, take-append-drop}
use lib.Ieee.{Float, le, fits}
use Rattle.words.specs.Words.{each, when_any, when_above, only, given}
use Rattle.words.proofs.Steps.{only-append}
use Rattle.numbers.specs.Slots as Slots
use Rattle.floats.specs.Floats.{zero_f, over, is_volume}
use Rattle.floats.proofs.Loads.{over-mono, total-grows}
use Rattle.floats.proofs.Products.{of_nat-mono, term_plus, volume-zero}
use Rattle.catalogue.specs.Catalogue.{Id, TypeData, Catalogue}
use Rattle.catalogue.specs.Lookups.{type_of, volume_of}
use Rattle.fit.specs.Fit.{Result, Frame, Fit, mode_of}
use Rattle.fit.specs.Fit as Fit
use Rattle.entry.specs.declared.Entry.{Entry}
use Rattle.entry.specs.declared.Rule.TheVariants.{NotAHull}
use Rattle.entry.specs.Entries.{on_ship}
use Rattle.context.specs.Context.{Pair, Context, pair_of, pairs_from, pairs, context, is_fitted, is_in}
use Rattle.validate.specs.Kind.{is_hull, not_a_mode, not_a_skill}
use Rattle.numbers.specs.declared.Resource.{Resource}
use Rattle.numbers.specs.declared.Resource.TheVariants.{LaunchedDrones, CargoBay}
use Rattle.numbers.specs.declared.SlotKind.{SlotKind}
use Rattle.resource.specs.Resource.{resource, launched, cargo_volume, cargo_used, loads, launched_drones, cargo, resources}
use Rattle.racks.specs.Racks.{RACKS, HARDPOINTS, slots, racks, hardpoints}
use Rattle.slot.specs.Slot.{wrong_slot, not_a_module, not_a_drone, not_a_fighter, not_an_implant, wrong_slot_index, slot_taken, subsystem_taken, slot_checks}
use Rattle.item.specs.Item.{rig_size, ship_restricted, capital_item, standup}
use Rattle.limits.specs.Limits.{group_limit_rows, group_limit_at, group_limit, group_limits, type_limit_at, type_limit}
use Rattle.validate.specs.Validate.{hull_rules, list_with}
use Rattle.profile.specs.Profile.{Price, prices_of}
use Rattle.league.specs.League.{banned, cost, points, over_allowance, league}
use Rattle.lists.specs.Terms.{Terms}
use Rattle.lists.specs.Unknown.{unknown_types}
use Rattle.lists.specs.Lists.{on_hull, league_of, league_with, whole_with, whole_list, for_guests, for_reader, list_for}
use Rattle.promises.specs.Compare.{Grown, volume_allowed, AddedVolumes, added_items, Alike}
use Rattle.promises.proofs.Placed.{Into, into_append, only-into, count-into, sum_into, any-into, Placed, placed_join, placed_refl}
use Rattle.promises.proofs.Placed.{placed_when, placed_unless, placed_bind, placed_each, placed_into, placed_only, and_mono, ltb-mono}
use Rattle.promises.proofs.Rises.{Rises, Covers, covers-number}

abbrev pub Within : List Entry → List Entry → Type 0
Within = Placed Covers

-- ---- the words, at entries
covers-refl : (e : Entry) → Covers e e
covers-refl e = record { target = refl; rule = Rises.same }

same-list : (l : List Entry) → Within l l
same-list l = placed_refl covers-refl l

-- an entry that one more pair can only bring
any-more : (b : Bool) (t : Pair → Bool) {ps qs : List Pair} → Into ps qs → (e : Entry) → Within (when_any b t ps e) (when_any b t qs e)
unfolding when_any
any-more b t s e = placed_when _ _ e e (and_mono b _ _ (any-into t s)) (λ _. covers-refl e)

-- more used than allowed
above : (b : Bool) {n m : ℕ} (allowed : ℕ) (e : ℕ → Entry) → n ≤ m → Covers (e n) (e m) → Within (when_above b n allowed e) (when_above b m allowed e)
unfolding when_above
above b {n} {m} allowed e h k = placed_when _ _ (e n) (e m) (and_mono b _ _ (ltb-mono allowed n m h)) (λ _. k)

module _ {ps qs : List Pair} (s : Into ps qs) where
  -- for each pair a list that does not look at the other pairs
  each-alone : (f : Pair → List Entry) → Within (each ps f) (each qs f)
  each-alone f = placed_into s (λ p. same-list (f p))

  -- ---- slot.rs
  module _ (x : Context) where
    slots-grow : (slot : SlotKind) (name n m : ℕ) → n ≤ m → Within (slots x slot name n) (slots x slot name m)
    unfolding slots
    slots-grow slot name n m h = placed_bind _ λ id. above _ _ _ h (record { target = refl; rule = Rises.slots h })

    racks-grow : Within (racks x ps) (racks x qs)
    unfolding racks
    racks-grow = placed_each RACKS λ r. slots-grow r.0 r.1 _ _ (count-into _ s)

    hardpoints-grow : Within (hardpoints x ps) (hardpoints x qs)
    unfolding hardpoints
    hardpoints-grow = placed_each HARDPOINTS λ r. slots-grow r.0 r.1 _ _ (count-into _ s)

    slot_taken-grows : (p : Pair) → Within (slot_taken x ps p) (slot_taken x qs p)
    unfolding slot_taken
    slot_taken-grows p = any-more _ _ s _

    subsystem_taken-grows : (p : Pair) → Within (subsystem_taken x ps p) (subsystem_taken x qs p)
    unfolding subsystem_taken
    subsystem_taken-grows p = placed_bind _ λ id. placed_bind _ λ part. any-more _ _ s _

    slot_checks-grow : Within (each ps (slot_checks x ps)) (each qs (slot_checks x qs))
    unfolding slot_checks
    slot_checks-grow = placed_into s λ p.
        placed_join
        (placed_join
        (placed_join (same-list (wrong_slot x p ++ not_a_module x p ++ not_a_drone x p ++ not_a_fighter x p ++ not_an_implant x p)) (slot_taken-grows p))
        (same-list (wrong_slot_index x p)))
        (subsystem_taken-grows p)

    -- ---- item.rs
    rig_size-grows : Within (rig_size x ps) (rig_size x qs)
    unfolding rig_size
    rig_size-grows = placed_bind _ λ id. placed_bind _ λ ship. each-alone _

    ship_restricted-grows : Within (ship_restricted x ps) (ship_restricted x qs)
    unfolding ship_restricted
    ship_restricted-grows = each-alone _

    capital_item-grows : Within (capital_item x ps) (capital_item x qs)
    unfolding capital_item
    capital_item-grows = placed_bind _ λ volume. placed_bind _ λ capital. placed_unless _ (each-alone _)

    standup-grows : Within (standup x ps) (standup x qs)
    unfolding standup
    standup-grows = each-alone _

    group_limits-grow : Within (group_limits x ps) (group_limits x qs)
    unfolding group_limits group_limit group_limit_at
    group_limits-grow = placed_each group_limit_rows λ g. placed_bind _ λ id. placed_into s λ p. placed_bind _ λ allowed.
        let h = count-into _ s in above _ _ _ h (record { target = refl; rule = Rises.max_group h })

    type_limit-grows : Within (type_limit x ps) (type_limit x qs)
    unfolding type_limit type_limit_at
    type_limit-grows = placed_bind _ λ id. placed_into s λ p. placed_bind _ λ allowed.
        let h = count-into _ s in above _ _ _ h (record { target = refl; rule = Rises.max_type h })

  -- ---- a league's
  league-grows : (prices : List Price) (allowance : ℕ) → Within (league prices allowance ps) (league prices allowance qs)
  unfolding league banned over_allowance points
  league-grows prices allowance =
      let h = sum_into (cost prices) (only-into is_fitted s) in
      placed_join (each-alone _) (above _ _ _ h (record { target = refl; rule = Rises.points h }))

-- ---- resource.rs
pub resource-grows : (r : Resource) (u v a : Float) → (T (over u a) → T (le u v)) → Within (resource r u a) (resource r v a)
unfolding resource
resource-grows r u v a h = placed_when _ _ _ _ (λ t. over-mono u v a (h t) t) (λ t. record { target = refl; rule = Rises.resource (h t) })

drones-grow : (x : Context) {ps qs : List Pair} → Into ps qs → Within (launched_drones x ps) (launched_drones x qs)
unfolding launched_drones launched
drones-grow x s = placed_bind _ λ limit. resource-grows LaunchedDrones _ _ _ λ _. of_nat-mono _ _ (sum_into _ (only-into _ s))

pub only-mem : {A : Type 0} (t : A → Bool) (l : List A) (p : A) → Memᴰ p (only t l) → T (t p) × Memᴰ p l
unfolding only
only-mem t [] p m = absurd (Memᴰ.not-nil m)
only-mem t (x ∷ l) p m = go (t x) refl (only-mem t l p) m
  where
    go : (b : Bool) → t x ≡ b → (Memᴰ p (only t l) → T (t p) × Memᴰ p l) → Memᴰ p (cond b (x ∷ only t l) (only t l))
        → T (t p) × Memᴰ p (x ∷ l)
    go true e f (Memᴰ.head h) = (subst T (sym (ap t h ∙ e)) tt, Memᴰ.head h)
    go true e f (Memᴰ.tail n) = ((f n).0, Memᴰ.tail (f n).1)
    go false e f n = ((f n).0, Memᴰ.tail (f n).1)

-- ---- pairs put into others, where the hold does not shrink
module _ {ps qs : List Pair} (s : Into ps qs) (hold : (x : Context) → Within (cargo x ps) (cargo x qs)) where
  hull_rules-grow : (x : Context) → Within (hull_rules x ps) (hull_rules x qs)
  unfolding hull_rules resources
  hull_rules-grow x =
      placed_join (placed_join (placed_join (placed_join
      (placed_join (placed_join (same-list (loads x)) (drones-grow x s)) (hold x))
      (placed_join (racks-grow s x) (hardpoints-grow s x)))
      (slot_checks-grow s x))
      (placed_join (placed_join (placed_join (rig_size-grows s x) (ship_restricted-grows s x)) (capital_item-grows s x)) (standup-grows s x)))
      (placed_join (group_limits-grow s x) (type_limit-grows s x))

  list_with-grows : (c : Catalogue) (k : Frame) (ids : List Id) → Within (list_with c k ids ps) (list_with c k ids qs)
  unfolding list_with
  list_with-grows c k ids = go (is_hull c k.ship)
    where
      go : (b : Bool)
          → Within (cond b (not_a_mode c (mode_of k) ++ not_a_skill c ids ++ hull_rules (context c k) ps) (on_ship NotAHull ∷ []))
          (cond b (not_a_mode c (mode_of k) ++ not_a_skill c ids ++ hull_rules (context c k) qs) (on_ship NotAHull ∷ []))
      go true = placed_join (same-list (not_a_mode c (mode_of k) ++ not_a_skill c ids)) (hull_rules-grow (context c k))
      go false = same-list (on_ship NotAHull ∷ [])

  -- what is put behind the list of a hull
  pub whole_with-grows : {t t' : Terms} → Alike t t' → (c : Catalogue) (k : Frame) (ids : List Id)
      → Within (whole_with t c k ids ps) (whole_with t' c k ids qs)
  unfolding whole_with league_with on_hull unknown_types
  whole_with-grows {t} {t'} alike c k ids =
      placed_join (placed_join (list_with-grows c k ids) (go (is_hull c k.ship))) (last (is_hull c k.ship))
    where
      go : (b : Bool) → Within (cond b (league_of t ps) []) (cond b (league_of t' qs) [])
      go true =
          subst (Within (league_of t ps)) (ap₂ (λ (b : List ℕ) (a : ℕ). league (prices_of b) a qs) alike.profile alike.allowance)
          (league-grows s (prices_of t.profile) t.allowance)
      go false = same-list []

      last : (b : Bool) → Within (cond b (unknown_types c ps) []) (cond b (unknown_types c qs) [])
      last true = placed_into s λ p. same-list _
      last false = same-list []

-- ---- pairs behind the others, whose cargo has volumes that are not below zero
module _ (ps added : List Pair) (volumes : (p : Pair) → Memᴰ p added → T (is_in Slots.cargo p) → (p.quantity < 2 ^ 32) × T (is_volume p.volume)) where
  cargo-grows : (x : Context) → Within (cargo x ps) (cargo x (ps ++ added))
  unfolding cargo cargo_used cargo_volume
  cargo-grows x = placed_bind _ λ capacity.
      resource-grows CargoBay _ _ _ λ o.
      rw (only-append (is_in Slots.cargo) ps added)
      (total-grows cargo_volume zero_f _ (only (is_in Slots.cargo) ps) (only (is_in Slots.cargo) added) (unfold fits in tt)
      (λ p m.
      let h = only-mem (is_in Slots.cargo) added p m in
      let v = volumes p h.1 h.0 in
      term_plus p.volume p.quantity v.1 v.0)
      o)

  behind-grows : {t t' : Terms} → Alike t t' → (c : Catalogue) (k : Frame) (ids : List Id)
      → Within (whole_with t c k ids ps) (whole_with t' c k ids (ps ++ added))
  behind-grows alike c k ids = whole_with-grows (into_append ps added) cargo-grows alike c k ids

-- ---- the pairs of a grown fit
pairs-append : (c : Catalogue) (n : ℕ) (is js : List Fit.Item) (rs ss : List Result) → length is ≡ length rs
    → pairs_from c n (is ++ js) (rs ++ ss) ≡ pairs_from c n is rs ++ pairs_from c (n + length is) js ss
unfolding pairs_from
pairs-append c n [] js [] ss e = ap (λ (m : ℕ). pairs_from c m js ss) (omega arith)
pairs-append c n [] js (r ∷ rs) ss e = absurd (omega arith)
pairs-append c n (i ∷ is) js [] ss e = absurd (omega arith)
pairs-append c n (i ∷ is) js (r ∷ rs) ss e =
    let q : suc n + length is ≡ n + suc (length is) = omega arith in
    ap (λ l. pair_of c n i r ∷ l) (pairs-append c (suc n) is js rs ss (omega arith) ∙ ap (λ (m : ℕ). pairs_from c (suc n) is rs ++ pairs_from c m js ss) q)

-- a pair has its slot, volume and quantity from an item
pairs-items : (c : Catalogue) (n : ℕ) (is : List Fit.Item) (rs : List Result) (p : Pair) → Memᴰ p (pairs_from c n is rs)
    → (i : Fit.Item) × Memᴰ i is × (p.slot ≡ i.slot) × (p.volume ≡ volume_of c i.type) × (p.quantity ≡ i.quantity)
unfolding pairs_from
pairs-items c n [] rs p m = absurd (Memᴰ.not-nil m)
pairs-items c n (i ∷ is) [] p m = absurd (Memᴰ.not-nil m)
pairs-items c n (i ∷ is) (r ∷ rs) p (Memᴰ.head e) =
    (i, Memᴰ.head refl, ap (λ (q : Pair). q.slot) e, ap (λ (q : Pair). q.volume) e, ap (λ (q : Pair). q.quantity) e)
pairs-items c n (i ∷ is) (r ∷ rs) p (Memᴰ.tail m) = let h = pairs-items c (suc n) is rs p m in (h.0, Memᴰ.tail h.1, h.2, h.3, h.4)

-- what the catalogue allows is a volume; where it says nothing, that is 0
allowed_volume : (c : Catalogue) (t : Id) → T (volume_allowed c t) → T (is_volume (volume_of c t))
unfolding volume_allowed volume_of given
allowed_volume c t h = go (type_of c t) h
  where
    flag : (b : Bool) (v : Float) → T (b || is_volume v) → T (is_volume (cond b zero_f v))
    flag true v k = volume-zero
    flag false v k = k

    go : (o : Option TypeData) → T (given o true λ x. eqb x.volume_flag 0 || is_volume x.volume)
        → T (is_volume (given o zero_f λ x. cond (eqb x.volume_flag 0) zero_f x.volume))
    go None k = volume-zero
    go (Some x) k = flag (eqb x.volume_flag 0) x.volume k

-- a list that begins with another is that one and what is behind it
pub begins : {A : Type 0} (l m : List A) → take (length l) m ≡ l → m ≡ l ++ drop (length l) m
begins l m h = sym (take-append-drop (length l) m) ∙ ap (λ k. k ++ drop (length l) m) h

module _ (c : Catalogue) (old new : Fit) (g : Grown old new) where
  -- the pairs that are added
  unfoldable pub added : List Pair
  added = pairs_from c (0 + length old.items) (added_items old new) (drop (length old.results) new.results)

  pub new-pairs : pairs c new ≡ pairs c old ++ added
  unfolding pairs added
  new-pairs =
      ap₂ (pairs_from c 0) (begins old.items new.items g.items) (begins old.results new.results g.results)
      ∙ pairs-append c 0 old.items (added_items old new) old.results (drop (length old.results) new.results) g.even

module _ (c : Catalogue) (old new : Fit) (g : Grown old new) (v : AddedVolumes c old new)
    (small : (i : Fit.Item) → Memᴰ i (added_items old new) → i.quantity < 2 ^ 32) where
  volumes : (p : Pair) → Memᴰ p (added c old new g) → T (is_in Slots.cargo p) → (p.quantity < 2 ^ 32) × T (is_volume p.volume)
  unfolding added is_in
  volumes p m t =
      let h = pairs-items c (0 + length old.items) (added_items old new) (drop (length old.results) new.results) p m in (
        subst (λ (x : ℕ). x < 2 ^ 32) (sym h.4) (small h.0 h.1),
        subst (λ (x : Float). T (is_volume x)) (sym h.3) (allowed_volume c h.0.type (v h.0 h.1 (sym h.2 ∙ eqb→eq _ _ t))),
      )

  whole_grows : {t t' : Terms} → Alike t t' → Within (whole_list t c old) (whole_list t' c new)
  unfolding whole_list
  whole_grows {t} {t'} alike =
      let e : whole_list t' c new ≡ whole_with t' c old.frame old.skills (pairs c old ++ added c old new g) =
      ap (λ (k : Frame). whole_with t' c k new.skills (pairs c new)) g.frame
      ∙ ap₂ (whole_with t' c old.frame) g.skills (new-pairs c old new g) in
      subst (Within (whole_list t c old)) (sym e) (behind-grows (pairs c old) (added c old new g) volumes alike c old.frame old.skills)

  -- a guest is not told of the same ones, old and new
  reader-grows : (reader : ℕ) {es fs : List Entry} → Within es fs → Within (for_reader reader es) (for_reader reader fs)
  unfolding for_reader
  reader-grows reader {es} {fs} p = go (eqb reader 0)
    where
      go : (guest : Bool) → Within (cond guest (only for_guests es) es) (cond guest (only for_guests fs) fs)
      go true = placed_only for_guests (λ a b k. ap (λ (n : ℕ). not (eqb n 21)) (covers-number a b k)) p
      go false = p

  pub list_grows : {t t' : Terms} → Alike t t' → Within (list_for t c old) (list_for t' c new)
  unfolding list_for
  list_grows {t} {t'} alike =
      subst (λ (n : ℕ). Within (for_reader t.reader (whole_list t c old)) (for_reader n (whole_list t' c new))) alike.reader
      (reader-grows t.reader (whole_grows alike))
