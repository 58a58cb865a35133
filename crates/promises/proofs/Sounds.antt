-- Every entry of a list has numbers that fit its bytes, and no used number that is a NaN. Rule by rule, by what the words do to `All`.
--
use Prim.Native.Nat.{ℕ, zero, suc, ◌*◌, ◌^◌, ◌≤◌, ◌<◌, max, zero-le}
use native.Mathlib.Omega.{arith}
use mathlib.Core.Path.{◌≡◌, refl, sym, ◌∙◌}
use mathlib.Core.Bool.{Bool, true, false, cond, true≢false}
use mathlib.Core.Logic.{inl, inr}
use borrow.Author.Tests.{eq-eqb}
use mathlib.Core.List.{List, [], ◌∷◌, foldl}
use Rattle.std.specs.Prelude.{Option, None as Missing, Some}
use lib.Dec.{T, eqb, ltb→lt}
use lib.ListN.{length}
use lib.Ieee.{Float, binary64, fits}
use lib.Ieee.Fits.{of_int-fits}
use lib.Ieee.Casts.{to_unsigned-lt}
use Rattle.words.specs.Words.{when_any, when_above, only, count_of, sum_of, given, same}
use Rattle.numbers.specs.Sizes as Sizes
use Rattle.floats.specs.Floats.{zero_f}
use Rattle.floats.proofs.Bits.{f64_at-fits}
use Rattle.floats.proofs.Loads.{over-self}
use Rattle.floats.proofs.Sums.{total-fits}
use Rattle.catalogue.specs.Catalogue.{Id, Catalogue}
use Rattle.fit.specs.Fit.{Attribute, Result, Frame, Fit, mode_of, fit_of, result_of}
use Rattle.fit.specs.Lookups.{value, amount, trained}
use Rattle.entry.specs.declared.Entry.{Entry}
use Rattle.context.specs.Context.{Pair, Context, pairs, context, is_fitted, is_in}
use Rattle.validate.specs.Kind.{is_hull, not_a_mode, not_a_skill}
use Rattle.numbers.specs.declared.Resource.{Resource}
use Rattle.numbers.specs.declared.Resource.TheVariants.{LaunchedDrones, CargoBay}
use Rattle.numbers.specs.declared.SlotKind.{SlotKind}
use Rattle.resource.specs.Resource.{LOADS, resource, cargo_volume, cargo_used, loads, launched_drones, cargo, resources}
use Rattle.racks.specs.Racks.{RACKS, HARDPOINTS, slots, racks, hardpoints}
use Rattle.slot.specs.Slot.{wrong_slot, not_a_module, not_a_drone, not_a_fighter, not_an_implant, wrong_slot_index, slot_taken, subsystem_taken, slot_checks}
use Rattle.item.specs.Item.{rig_size_at, rig_size, ship_restricted_at, ship_restricted, is_structure, capital_item_at, capital_item, standup_at, standup}
use Rattle.limits.specs.Limits.{group_limit_rows, group_limit_at, group_limit, group_limits, type_limit_at, type_limit}
use Rattle.validate.specs.Validate.{hull_rules, list_with}
use Rattle.profile.specs.Profile.{prices_of, is_ban, profile_refusals, profile_refusal}
use Rattle.profile.specs.Sound as Profile
use Rattle.profile.specs.Sound.{Fair}
use Rattle.profile.proofs.Accepted.{sound}
use Rattle.profile.proofs.Prices.{points-fair}
use Rattle.league.specs.League.{price_of, banned_at, banned, cost, points, over_allowance, league}
use Rattle.lists.specs.Terms.{Terms}
use Rattle.lists.specs.Unknown.{unknown_type_at, unknown_types}
use Rattle.lists.specs.Lists.{on_hull, league_with, whole_with, whole_list, for_guests, for_reader, list_for}
use Rattle.skill.specs.Skill.{Demand, required, demand_of, demands, of_result, of_skill, note, noted, met_from, met, walk_within, entry_of, skill_list}
use Rattle.promises.specs.Answers.{profile_conditions, None}
use Rattle.promises.proofs.Conditions.{none_is}
use Rattle.words.proofs.All.{All, nil, cons, all_join, all-table, all-when, all-unless, all-cond, all-bind, all-each, all-each_of, all-find}
use Rattle.promises.proofs.Rises.{Sound}
use Rattle.lists.proofs.Few.{count-le}

-- ---- the entries of the list
abbrev pub AllSound : List Entry → Type 0
AllSound = All λ e. Sound e.rule

any-sound : {A : Type 0} (b : Bool) (t : A → Bool) (l : List A) (e : Entry) → Sound e.rule → AllSound (when_any b t l e)
unfolding when_any
any-sound b t l e h = all-when _ e (λ _. h)

above_sound : (b : Bool) (n allowed : ℕ) (e : ℕ → Entry) → Sound (e n).rule → AllSound (when_above b n allowed e)
unfolding when_above
above_sound b n allowed e h = all-when _ (e n) (λ _. h)

resource-sound : (k : Resource) (u a : Float) → T (fits binary64 u) → AllSound (resource k u a)
unfolding resource
resource-sound k u a h = all-when _ _ (λ o. (h, over-self u a o))

module _ (c : Catalogue) where
  not_a_mode-sound : (m : Option Id) → AllSound (not_a_mode c m)
  unfolding not_a_mode
  not_a_mode-sound m = all-bind m λ _. all-when _ _ (λ _. tt)

  not_a_skill-sound : (ids : List Id) → AllSound (not_a_skill c ids)
  unfolding not_a_skill
  not_a_skill-sound ids = all-each ids λ _. all-when _ _ (λ _. tt)

module _ (x : Context) where
  loads-sound : ((id : Id) → T (fits binary64 (amount x.ship_result id))) → AllSound (loads x)
  unfolding loads
  loads-sound h = all-each LOADS λ l. all-bind _ λ load. all-bind _ λ output. resource-sound l.0 _ _ (h load)

  drones-sound : (ps : List Pair) → AllSound (launched_drones x ps)
  unfolding launched_drones
  drones-sound ps = all-bind _ λ limit. resource-sound LaunchedDrones _ _ (of_int-fits binary64 _)

  cargo-sound : (ps : List Pair) → AllSound (cargo x ps)
  unfolding cargo cargo_used
  cargo-sound ps = all-bind _ λ capacity. resource-sound CargoBay _ _ (total-fits cargo_volume zero_f (only (is_in 11) ps) (unfold fits in tt))

  module _ (ps : List Pair) (few : length ps < 2 ^ 32) where
    few-of : (t : Pair → Bool) → count_of t ps < 2 ^ 32
    few-of t = let h = count-le t ps in omega arith

    slots-sound : (slot : SlotKind) (name used : ℕ) → used < 2 ^ 32 → AllSound (slots x slot name used)
    unfolding slots
    slots-sound slot name used h = all-bind _ λ id. above_sound _ _ _ _ h

    racks-sound : AllSound (racks x ps)
    unfolding racks
    racks-sound = all-each RACKS λ r. slots-sound r.0 r.1 _ (few-of _)

    hardpoints-sound : AllSound (hardpoints x ps)
    unfolding hardpoints
    hardpoints-sound = all-each HARDPOINTS λ r. slots-sound r.0 r.1 _ (few-of _)

    slot_checks-sound : (p : Pair) → AllSound (slot_checks x ps p)
    unfolding slot_checks wrong_slot not_a_module not_a_drone not_a_fighter not_an_implant slot_taken wrong_slot_index subsystem_taken
    slot_checks-sound p =
        all_join (all_join (all_join (all_join (all_join (all_join (all_join
        (all-bind p.rack λ _. all-bind _ λ _. all-when _ _ (λ _. tt))
        (all-when _ _ (λ _. tt)))
        (all-when _ _ (λ _. tt)))
        (all-when _ _ (λ _. tt)))
        (all-when _ _ (λ _. tt)))
        (any-sound _ _ ps _ tt))
        (all-bind _ λ name. all-bind _ λ id. all-bind _ λ v. all-when _ _ (λ _. tt)))
        (all-bind _ λ id. all-bind _ λ part. any-sound _ _ ps _ tt)

    rig_size-sound : AllSound (rig_size x ps)
    unfolding rig_size rig_size_at
    rig_size-sound = all-bind _ λ id. all-bind _ λ ship. all-each ps λ p. all-bind _ λ size. all-when _ _ (λ _. tt)

    ship_restricted-sound : AllSound (ship_restricted x ps)
    unfolding ship_restricted ship_restricted_at
    ship_restricted-sound = all-each ps λ p. all-when _ _ (λ _. tt)

    capital_item-sound : AllSound (capital_item x ps)
    unfolding capital_item capital_item_at
    capital_item-sound = all-bind _ λ volume. all-bind _ λ capital. all-unless _ (all-each ps λ p. all-when _ _ (λ _. tt))

    standup-sound : AllSound (standup x ps)
    unfolding standup standup_at
    standup-sound = all-each ps λ p. all-cond (is_structure x) (all-when _ _ (λ _. tt)) (all-when _ _ (λ _. tt))

    group_limits-sound : AllSound (group_limits x ps)
    unfolding group_limits group_limit group_limit_at
    group_limits-sound = all-each group_limit_rows λ g. all-bind _ λ id. all-each ps λ p. all-bind _ λ allowed. above_sound _ _ _ _ (few-of _)

    type_limit-sound : AllSound (type_limit x ps)
    unfolding type_limit type_limit_at
    type_limit-sound = all-bind _ λ id. all-each ps λ p. all-bind _ λ allowed. above_sound _ _ _ _ (few-of _)

    hull_rules-sound : ((id : Id) → T (fits binary64 (amount x.ship_result id))) → AllSound (hull_rules x ps)
    unfolding hull_rules resources
    hull_rules-sound h =
        all_join (all_join (all_join (all_join
        (all_join (all_join (loads-sound h) (drones-sound ps)) (cargo-sound ps))
        (all_join racks-sound hardpoints-sound))
        (all-each ps slot_checks-sound))
        (all_join (all_join (all_join rig_size-sound ship_restricted-sound) capital_item-sound) standup-sound))
        (all_join group_limits-sound type_limit-sound)

pub list_with-sound : (c : Catalogue) (k : Frame) (ids : List Id) (ps : List Pair) → length ps < 2 ^ 32
    → ((id : Id) → T (fits binary64 (amount k.ship_result id)))
    → AllSound (list_with c k ids ps)
unfolding list_with context
list_with-sound c k ids ps few h =
    all-cond (is_hull c k.ship)
    (all_join (all_join (not_a_mode-sound c (mode_of k)) (not_a_skill-sound c ids)) (hull_rules-sound (context c k) ps few h))
    (cons tt nil)

-- what a result of an image holds are values of f64
result_fits : (b : List ℕ) (j : ℕ) (id : Id) → T (fits binary64 (amount (result_of b j) id))
unfolding amount value given
result_fits b j id =
    all-find (λ (o : Option Float). T (fits binary64 (given o zero_f (λ v. v)))) (λ (x : Attribute). same x.id id)
    (all-table {P = λ (x : Attribute). T (fits binary64 x.value)} _ (λ i. f64_at-fits b _) 0 _)
    Missing (λ (x : Attribute). Some x.value) (unfold fits in tt) (λ x h. h)

-- ---- a league's entries
-- what a pair costs under a profile that is not refused
cost-most : (profile : List ℕ) → Profile.Sound profile → (p : Pair) → cost (prices_of profile) p ≤ 1000000
unfolding cost
cost-most profile s p = go (is_ban (price_of (prices_of profile) p)) refl (points-fair profile s p.group)
  where
    go : (b : Bool) → is_ban (price_of (prices_of profile) p) ≡ b → Fair (price_of (prices_of profile) p) → cond b 0 (price_of (prices_of profile) p) ≤ 1000000
    go true e f = zero-le
    go false e (inl h) = h
    go false e (inr h) = absurd (true≢false (sym (eq-eqb (price_of (prices_of profile) p) Sizes.banned h) ∙ e))

sum_most : {A : Type 0} (f : A → ℕ) → ((x : A) → f x ≤ 1000000) → (l : List A) → sum_of f l ≤ 1000000 * length l
unfolding sum_of
sum_most f h [] = zero-le
sum_most f h (x ∷ l) = omega (arith, h x, sum_most f h l)

league-sound : (profile : List ℕ) → Profile.Sound profile → (allowance : ℕ) (ps : List Pair) → length ps ≤ 256
    → AllSound (league (prices_of profile) allowance ps)
unfolding league banned banned_at over_allowance points
league-sound profile s allowance ps few =
    let most = sum_most (cost (prices_of profile)) (cost-most profile s) (only is_fitted ps) in
    let some : length (only is_fitted ps) ≤ length ps = unfold count_of in count-le is_fitted ps in
    all_join (all-each ps λ p. all-when _ _ (λ _. tt)) (above_sound _ _ _ _ (omega arith))

-- ---- the whole list of an image
whole_sound : (t : Terms) (c : Catalogue) (b : List ℕ) → None (profile_conditions t.profile) → length (pairs c (fit_of b)) ≤ 256
    → AllSound (whole_list t c (fit_of b))
unfolding whole_list whole_with league_with on_hull unknown_types unknown_type_at fit_of
whole_sound t c b fine few =
    let profile = sound t.profile (unfold profile_refusal profile_refusals in none_is (profile_conditions t.profile) fine) in
    let hull = is_hull c (fit_of b).frame.ship in
    all_join
    (all_join (list_with-sound c _ _ _ (omega arith) (result_fits b 0))
    (all-cond hull (league-sound t.profile profile t.allowance _ few) nil))
    (all-cond hull (all-each _ λ p. all-when _ _ (λ _. tt)) nil)

module _ {P : Entry → Type 0} (t : Entry → Bool) where
  all-only : {l : List Entry} → All P l → All P (only t l)
  unfolding only
  all-only nil = nil
  all-only (cons {x} {l} p h) = go (t x) (all-only h)
    where
      go : (b : Bool) → All P (only t l) → All P (cond b (x ∷ only t l) (only t l))
      go true k = cons p k
      go false k = k

-- and what a reader gets of it
pub list_sound : (t : Terms) (c : Catalogue) (b : List ℕ) → None (profile_conditions t.profile) → length (pairs c (fit_of b)) ≤ 256
    → AllSound (list_for t c (fit_of b))
unfolding list_for for_reader
list_sound t c b fine few = all-cond (eqb t.reader 0) (all-only for_guests (whole_sound t c b fine few)) (whole_sound t c b fine few)

-- ---- the entries of a result's skills
abbrev Small : Demand → Type 0
Small d = d.1 < 256

demands-small : (c : Catalogue) (look : Id → Option Float) → All Small (demands c look)
unfolding demands demand_of
demands-small c look = all-each (required c) λ r. all-bind _ λ skill. cons (to_unsigned-lt 8 _) nil

note-small : {ws : List Demand} (d : Demand) → All Small ws → Small d → All Small (note ws d)
unfolding note
note-small d nil h = cons h nil
note-small d (cons {x = w} {l = ws} p k) h = go (same w.0 d.0) (note-small d k h)
  where
    go : (b : Bool) → All Small (note ws d) → All Small (cond b ((w.0, max w.1 d.1) ∷ ws) (w ∷ note ws d))
    go true r = let q : max w.1 d.1 < 256 = omega arith in cons q k
    go false r = cons p r

noted_small : {ds : List Demand} {ws : List Demand} → All Small ds → All Small ws → All Small (foldl note ws ds)
noted_small nil k = k
noted_small (cons {x = d} h hs) k = noted_small hs (note-small d k h)

given-small : (c : Catalogue) (o : Option Id) → All Small (given o [] (of_skill c))
unfolding given of_skill
given-small c Missing = nil
given-small c (Some t) = demands-small c _

met-small : (c : Catalogue) (r : Result) (n : ℕ) → All Small (met c r n)
unfolding met_from of_result
met-small c r zero = demands-small c _
met-small c r (suc n) = all_join (met-small c r n) (given-small c _)

pub skills-sound : (c : Catalogue) (f : Fit) (n : ℕ) → AllSound (skill_list c f n)
unfolding skill_list entry_of walk_within noted
skills-sound c f n = all-bind _ λ r. all-each_of (noted_small (met-small c r 512) nil) λ w h.
    let level = trained f.skills f.levels w.0 in
    all-when _ _ (λ t. let k = ltb→lt level w.1 t in omega arith)
