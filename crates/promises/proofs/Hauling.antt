-- Cargo put behind a fit, of the bytes that two calls left. From `Haul`, `Growth` and what the rules behind the Rust's list do.
use Prim.Native.Nat.{ℕ, suc, ◌+◌, ◌≤◌, zero-le}
use native.Mathlib.Omega.{arith}
use mathlib.Core.Path.{◌≡◌, refl, sym, ap, ap₂, ◌∙◌, subst}
use mathlib.Core.Bool.{Bool, true, false, not, ◌&&◌, ◌||◌, cond, true≢false}
use Rattle.std.specs.Prelude.{Option}
use mathlib.Core.List.Memᴰ
use mathlib.Core.List.{List, [], ◌∷◌, ◌++◌, map, append-nil, Memᴰ}
use lib.Dec.{T, eqb, leb, ltb, eqb→eq}
use lib.Ieee.{Float}
use lib.ListN.{length, length-map, drop}
use Rattle.words.specs.Words.{◌>>=◌, when, when_above, only, count_of, sum_of}
use Rattle.words.proofs.Steps.{only-append}
use Rattle.words.proofs.Lengths.{few-bind, few-when}
use Rattle.numbers.specs.Slots as Slots
use Rattle.numbers.specs.declared.Resource.{Resource}
use Rattle.numbers.specs.declared.Resource.TheVariants.{LaunchedDrones, CargoBay}
use Rattle.numbers.specs.Resources as Resources
use Rattle.image.specs.Bytes.{u8_at}
use Rattle.catalogue.specs.Catalogue.{Id, Catalogue, catalogue_of}
use Rattle.fit.specs.Fit.{Item, Result, Frame, Fit, fit_of, result_at, mode_of}
use Rattle.profile.specs.Profile.{Price, prices_of}
use Rattle.entry.specs.declared.Entry.{Entry}
use Rattle.entry.specs.declared.Rule.{Rule}
use Rattle.entry.specs.declared.Rule.TheVariants.{NotAHull, Skill, Points}
use Rattle.entry.specs.Entries.{on_ship, fields, number, entry_bytes}
use Rattle.context.specs.Context.{Pair, Context, context, pairs_from, pairs, is_fitted}
use Rattle.resource.specs.Resource.{resource, loads, launched_drones, cargo}
use Rattle.league.specs.League.{banned_at, banned, cost, points, over_allowance, league}
use Rattle.fit.specs.Lookups.{trained}
use Rattle.skill.specs.Skill.{Demand, wanted_skills, target_of, entry_of, reported, skill_list}
use Rattle.validate.specs.Kind.{is_hull, not_a_mode, not_a_skill}
use Rattle.validate.specs.Validate.{hull_rules, list_with}
use Rattle.lists.specs.Terms.{Terms}
use Rattle.lists.specs.Unknown.{unknown_type_at, unknown_types}
use Rattle.lists.specs.Lists.{on_hull, league_of, league_with, whole_with, whole_list, for_guests, for_reader, list_for}
use Rattle.lists.proofs.Few.{count-le}
use Rattle.fitcheck.specs.Calls.{list_call, skill_call}
use Rattle.promises.specs.Answers.{Outcome, outcome, refusal, entries_of, Conditions, Answers}
use Rattle.promises.specs.Compare.{Bytes, added_items, AddedVolumes, Alike, Stays}
use Rattle.promises.specs.Hauls.{Hauled, is_cargo_bay, outside_hold, in_hold, StaysIn}
use Rattle.words.proofs.All.{All, nil, cons, all_join, all-mem, all_drop, all-when, all-bind, all-each, all-each_of}
use Rattle.lists.proofs.Numbers.{only_no, Between, behind, between_behind, parted}
use Rattle.promises.proofs.Left.{entries-are, only-map, only-swap, only-for}
use Rattle.promises.proofs.Placed.{Placed, done, skip, keep, placed_only}
use Rattle.promises.proofs.Rises.{Rises, Covers, covers-stays}
use Rattle.promises.proofs.Growth.{only-mem, added, new-pairs, list_grows}
use Rattle.promises.proofs.Haul.{Held, all_map, only_same, each-alike, each_same, bind_same, when-no, not-fitted, list_same}
use Rattle.promises.proofs.Sounds.{list_sound}
use Rattle.promises.proofs.Lengths.{pairs-short}
use Rattle.promises.proofs.Comparing.{same-result, quantities}
use Rattle.promises.proofs.Accepted.{sized, list_accepted_lem, asked}
use Rattle.promises.proofs.Calls.{list_answers, skill_answers}

-- ---- the tests, of entries
abbrev pub of_hold : Entry → Bool
of_hold e = eqb (number e) 1 && eqb (fields e.rule).1 (Resources.number CargoBay)

abbrev Outside : Entry → Bool
Outside e = not (of_hold e || eqb (number e) 26)

-- the same of bytes
abbrev OutsideBytes : List ℕ → Bool
OutsideBytes e = not (is_cargo_bay e || eqb (u8_at e 1) 26)

same-hold : (e : Entry) → is_cargo_bay (entry_bytes e) ≡ of_hold e
unfolding entry_bytes
same-hold e = refl

same_test : (e : Entry) → OutsideBytes (entry_bytes e) ≡ Outside e
unfolding entry_bytes
same_test e = refl

-- ---- the rules behind the Rust's list
module _ (ps more : List Pair) (held : All Held more) where
  ban-none : (prices : List Price) (p : Pair) → Held p → banned_at prices p ≡ []
  unfolding banned_at
  ban-none prices p h = when-no _ _ (rw (not-fitted p h))

  league-same : (prices : List Price) (allowance : ℕ) → league prices allowance (ps ++ more) ≡ league prices allowance ps
  unfolding league banned over_allowance points
  league-same prices allowance =
      ap₂ (λ (a b : List Entry). a ++ b)
      (each_same (banned_at prices) (banned_at prices) ps more (λ p. refl) (all_map (ban-none prices) held))
      (ap (λ (l : List Pair). when_above true (sum_of (cost prices) l) allowance λ used. on_ship (Points used allowance))
      (only_same is_fitted ps more (all_map not-fitted held)))

  -- rule 26 is taken out
  unknown-out : (c : Catalogue) (l : List Pair) → only Outside (unknown_types c l) ≡ []
  unfolding unknown_types unknown_type_at fields
  unknown-out c l = only_no Outside (all-each l λ p. all-when _ _ (λ _. refl))

  whole_same : (t : Terms) (c : Catalogue) (k : Frame) (ids : List Id)
      → only Outside (whole_with t c k ids (ps ++ more)) ≡ only Outside (whole_with t c k ids ps)
  unfolding whole_with league_with on_hull
  whole_same t c k ids = go (is_hull c k.ship)
    where
      front : only Outside (list_with c k ids (ps ++ more)) ≡ only Outside (list_with c k ids ps)
      front = list_same Outside (λ u a. unfold fields in refl) ps more held c k ids

      three : (a b d : List Entry) → only Outside (a ++ b ++ d) ≡ only Outside a ++ only Outside b ++ only Outside d
      three a b d = only-append Outside (a ++ b) d ∙ ap (λ (l : List Entry). l ++ only Outside d) (only-append Outside a b)

      go : (b : Bool) → only Outside (list_with c k ids (ps ++ more) ++ cond b (league_of t (ps ++ more)) [] ++ cond b (unknown_types c (ps ++ more)) [])
          ≡ only Outside (list_with c k ids ps ++ cond b (league_of t ps) [] ++ cond b (unknown_types c ps) [])
      go true =
          three (list_with c k ids (ps ++ more)) (league_of t (ps ++ more)) (unknown_types c (ps ++ more))
          ∙ ap₂ (λ (a b : List Entry). a ++ b)
          (ap₂ (λ (a b : List Entry). a ++ only Outside b) front (league-same (prices_of t.profile) t.allowance))
          (unknown-out c (ps ++ more) ∙ sym (unknown-out c ps))
          ∙ sym (three (list_with c k ids ps) (league_of t ps) (unknown_types c ps))
      go false =
          three (list_with c k ids (ps ++ more)) [] []
          ∙ ap (λ (a : List Entry). a ++ only Outside [] ++ only Outside []) front
          ∙ sym (three (list_with c k ids ps) [] [])

-- ---- two fits
all_held : (c : Catalogue) (n : ℕ) (is : List Item) (rs : List Result) → ((i : Item) → Memᴰ i is → i.slot ≡ Slots.cargo)
    → All Held (pairs_from c n is rs)
unfolding pairs_from
all_held c n [] rs h = nil
all_held c n (i ∷ is) [] h = nil
all_held c n (i ∷ is) (r ∷ rs) h = cons (h i (Memᴰ.head refl)) (all_held c (suc n) is rs (λ j m. h j (Memᴰ.tail m)))

module _ (c : Catalogue) (old new : Fit) (h : Hauled old new) where
  held : All Held (added c old new h.grown)
  unfolding added
  held = all_held c (0 + length old.items) (added_items old new) (drop (length old.results) new.results) h.cargo

  -- limits are not read
  by-profile : (t t' : Terms) → Alike t t' → (f : Fit) → whole_list t c f ≡ whole_list t' c f
  unfolding whole_list whole_with league_with
  by-profile t t' a f =
      ap₂ (λ (b : List ℕ) (n : ℕ). list_with c f.frame f.skills (pairs c f) ++ on_hull c f.frame (league (prices_of b) n (pairs c f))
      ++ on_hull c f.frame (unknown_types c (pairs c f))) a.profile a.allowance

  hauled-whole : (t t' : Terms) → Alike t t' → only Outside (whole_list t c old) ≡ only Outside (whole_list t' c new)
  hauled-whole t t' a =
      let g = h.grown in
      let e : whole_list t c new ≡ whole_with t c old.frame old.skills (pairs c old ++ added c old new g) =
      unfold whole_list in
      ap (λ (k : Frame). whole_with t c k new.skills (pairs c new)) g.frame ∙ ap₂ (whole_with t c old.frame) g.skills (new-pairs c old new g) in
      sym (ap (only Outside) (sym (by-profile t t' a new)) ∙ ap (only Outside) e
      ∙ whole_same (pairs c old) (added c old new g) held t c old.frame old.skills ∙ (unfold whole_list in refl))

  -- whoever reads both
  hauled-list : (t t' : Terms) → Alike t t' → only Outside (list_for t c old) ≡ only Outside (list_for t' c new)
  unfolding list_for
  hauled-list t t' a =
      only-for Outside t.reader (whole_list t c old)
      ∙ ap₂ for_reader a.reader (hauled-whole t t' a)
      ∙ sym (only-for Outside t'.reader (whole_list t' c new))

  -- an entry of a skill list reads the skills and the levels of its fit
  same-entry : (n : ℕ) (w : Demand) → entry_of old n w ≡ entry_of new n w
  unfolding entry_of
  same-entry n w =
      ap₂ (λ (ids : List Id) (levels : List ℕ). let level = trained ids levels w.0 in
      when (ltb level w.1) (record { target = target_of n; rule = Skill w.0 w.1 level })) (sym h.grown.skills) (sym h.levels)

  hauled-skills : (n : ℕ) → n ≤ length old.results + 1 → skill_list c old n ≡ skill_list c new n
  unfolding skill_list
  hauled-skills n q =
      ap (λ (o : Option Result). ◌>>=◌ o λ r. reported old n (wanted_skills c r)) (sym (same-result old new h.grown n q))
      ∙ bind_same (result_at new n) _ _ λ r. each-alike (entry_of old n) (entry_of new n) (wanted_skills c r) (same-entry n)

-- ---- what two calls left
module _ (t t' : Terms) (catalogue old new before before' : List ℕ) where
  pub haul_lists : Alike t t' → Hauled (fit_of old) (fit_of new)
      → refusal (outcome before (list_call t catalogue old before)) ≡ 0 → refusal (outcome before' (list_call t' catalogue new before')) ≡ 0
      → outside_hold (outcome before (list_call t catalogue old before)) ≡ outside_hold (outcome before' (list_call t' catalogue new before'))
  haul_lists alike h a a' =
      let c = catalogue_of catalogue in
      ap (only OutsideBytes) (entries-are (list_answers t catalogue old before) a)
      ∙ only-map entry_bytes OutsideBytes Outside same_test (list_for t c (fit_of old))
      ∙ ap (map entry_bytes) (hauled-list c (fit_of old) (fit_of new) h t t' alike)
      ∙ sym (ap (only OutsideBytes) (entries-are (list_answers t' catalogue new before') a') ∙ only-map entry_bytes OutsideBytes Outside same_test (list_for t' c (fit_of new)))

  pub haul_skills : (n : ℕ) → Hauled (fit_of old) (fit_of new)
      → refusal (outcome before (skill_call t catalogue old n before)) ≡ 0 → refusal (outcome before' (skill_call t' catalogue new n before')) ≡ 0
      → entries_of (outcome before (skill_call t catalogue old n before)) ≡ entries_of (outcome before' (skill_call t' catalogue new n before'))
  haul_skills n h a a' =
      let c = catalogue_of catalogue in
      let A = skill_answers t catalogue old n before in
      entries-are A a
      ∙ ap (map entry_bytes) (hauled-skills c (fit_of old) (fit_of new) h n (asked t catalogue old n before (A.answered.0 a)).inside)
      ∙ sym (entries-are (skill_answers t' catalogue new n before') a')

-- ---- the hold has one entry at most
abbrev Elsewhere : List Entry → Type 0
Elsewhere = All (λ e. of_hold e ≡ false)

resource-else : (k : Resource) (u a : Float) → eqb (Resources.number k) (Resources.number CargoBay) ≡ false → Elsewhere (resource k u a)
unfolding resource fields
resource-else k u a h = all-when _ _ (λ _. h)

loads-else : (x : Context) → Elsewhere (loads x)
unfolding loads
loads-else x = all-each_of {Q = λ (row : Resource × ℕ × ℕ). eqb (Resources.number row.0) (Resources.number CargoBay) ≡ false}
    (cons refl (cons refl (cons refl (cons refl (cons refl (cons refl (cons refl (cons refl (cons refl (cons refl nil))))))))))
    λ row h. all-bind _ λ load. all-bind _ λ output. resource-else row.0 _ _ h

drones-else : (x : Context) (ps : List Pair) → Elsewhere (launched_drones x ps)
unfolding launched_drones
drones-else x ps = all-bind _ λ limit. resource-else LaunchedDrones _ _ refl

not-one : (n : ℕ) → (leb 2 n && ltb n 19) ≡ true → eqb n 1 ≡ false
not-one n h = go (eqb n 1) refl
  where
    go : (b : Bool) → eqb n 1 ≡ b → eqb n 1 ≡ false
    go true e = absurd (true≢false (sym h ∙ ap (λ (m : ℕ). leb 2 m && ltb m 19) (eqb→eq n 1 (subst T (sym e) tt))))
    go false e = e

behind-else : {l : List Entry} → All Between l → Elsewhere l
behind-else nil = nil
behind-else (cons {x} p h) = cons (ap (λ (b : Bool). b && eqb (fields x.rule).1 (Resources.number CargoBay)) (not-one (number x) p)) (behind-else h)

module _ (x : Context) (ps : List Pair) where
  cargo-few : length (cargo x ps) ≤ 1
  unfolding cargo resource
  cargo-few = few-bind _ 1 (λ capacity. few-when _ _) _

  cargo-one : length (only of_hold (cargo x ps)) ≤ 1
  cargo-one =
      let k : length (only of_hold (cargo x ps)) ≤ length (cargo x ps) = unfold count_of in count-le of_hold (cargo x ps) in
      omega (arith, k, cargo-few)

  rules-one : length (only of_hold (hull_rules x ps)) ≤ 1
  rules-one =
      let front = only_no of_hold (all_join (loads-else x) (drones-else x ps)) in
      let last = only_no of_hold (behind-else (between_behind x ps)) in
      let e : only of_hold (hull_rules x ps) ≡ only of_hold (cargo x ps) =
      ap (only of_hold) (parted x ps)
      ∙ only-append of_hold (loads x ++ launched_drones x ps) (cargo x ps ++ behind x ps)
      ∙ ap₂ (λ (a b : List Entry). a ++ b) front (only-append of_hold (cargo x ps) (behind x ps) ∙ ap (λ (b : List Entry). only of_hold (cargo x ps) ++ b) last)
      ∙ append-nil (only of_hold (cargo x ps)) in
      subst (λ (l : List Entry). length l ≤ 1) (sym e) cargo-one

whole_one : (t : Terms) (c : Catalogue) (k : Frame) (ids : List Id) (ps : List Pair) → length (only of_hold (whole_with t c k ids ps)) ≤ 1
unfolding whole_with league_with on_hull list_with
whole_one t c k ids ps = go (is_hull c k.ship)
  where
    mode : Elsewhere (not_a_mode c (mode_of k))
    mode = unfold not_a_mode fields in all-bind _ λ m. all-when _ _ (λ _. refl)

    skills : Elsewhere (not_a_skill c ids)
    skills = unfold not_a_skill fields in all-each ids λ id. all-when _ _ (λ _. refl)

    of_league : Elsewhere (league_of t ps)
    of_league = unfold league banned banned_at over_allowance when_above fields in all_join (all-each ps λ p. all-when _ _ (λ _. refl)) (all-when _ _ (λ _. refl))

    of_unknown : Elsewhere (unknown_types c ps)
    of_unknown = unfold unknown_types unknown_type_at fields in all-each ps λ p. all-when _ _ (λ _. refl)

    go : (b : Bool) → length (only of_hold (cond b (not_a_mode c (mode_of k) ++ not_a_skill c ids ++ hull_rules (context c k) ps) (on_ship NotAHull ∷ [])
        ++ cond b (league_of t ps) [] ++ cond b (unknown_types c ps) [])) ≤ 1
    go true =
        let e : only of_hold (not_a_mode c (mode_of k) ++ not_a_skill c ids ++ hull_rules (context c k) ps ++ league_of t ps ++ unknown_types c ps)
        ≡ only of_hold (hull_rules (context c k) ps) =
        only-append of_hold (not_a_mode c (mode_of k) ++ not_a_skill c ids ++ hull_rules (context c k) ps ++ league_of t ps) (unknown_types c ps)
        ∙ ap₂ (λ (a b : List Entry). a ++ b)
        (only-append of_hold (not_a_mode c (mode_of k) ++ not_a_skill c ids ++ hull_rules (context c k) ps) (league_of t ps)
        ∙ ap₂ (λ (a b : List Entry). a ++ b)
        (only-append of_hold (not_a_mode c (mode_of k) ++ not_a_skill c ids) (hull_rules (context c k) ps)
        ∙ ap (λ (a : List Entry). a ++ only of_hold (hull_rules (context c k) ps)) (only_no of_hold (all_join mode skills)))
        (only_no of_hold of_league) ∙ append-nil (only of_hold (hull_rules (context c k) ps)))
        (only_no of_hold of_unknown) ∙ append-nil (only of_hold (hull_rules (context c k) ps)) in
        subst (λ (l : List Entry). length l ≤ 1) (sym e) (rules-one (context c k) ps)
    go false = unfold only fields in zero-le

-- a reader gets no more
list_one : (t : Terms) (c : Catalogue) (f : Fit) → length (only of_hold (list_for t c f)) ≤ 1
unfolding list_for for_reader whole_list
list_one t c f = go (eqb t.reader 0)
  where
    es : List Entry
    es = whole_with t c f.frame f.skills (pairs c f)

    whole : length (only of_hold es) ≤ 1
    whole = whole_one t c f.frame f.skills (pairs c f)

    go : (guest : Bool) → length (only of_hold (cond guest (only for_guests es) es)) ≤ 1
    go true =
        let k : length (only for_guests (only of_hold es)) ≤ length (only of_hold es) = unfold count_of in count-le for_guests (only of_hold es) in
        subst (λ (l : List Entry). length l ≤ 1) (only-swap for_guests of_hold es) (omega (arith, k, whole))
    go false = whole

-- ---- an entry that has its place has it in the hold
module _ {A : Type 0} {K : A → A → Type 0} where
  placed_mem : {l m : List A} → Placed K l m → (x : A) → Memᴰ x l → (y : A) × Memᴰ y m × K x y
  placed_mem done x h = absurd (Memᴰ.not-nil h)
  placed_mem (skip p) x h = let r = placed_mem p x h in (r.0, Memᴰ.tail r.1, r.2)
  placed_mem (keep {a} {b} k p) x (Memᴰ.head e) = (b, Memᴰ.head refl, subst (λ (z : A). K z b) (sym e) k)
  placed_mem (keep k p) x (Memᴰ.tail h) = let r = placed_mem p x h in (r.0, Memᴰ.tail r.1, r.2)

module _ {A B : Type 0} (f : A → B) where
  map-mem : (l : List A) (y : B) → Memᴰ y (map f l) → (x : A) × Memᴰ x l × (y ≡ f x)
  map-mem [] y h = absurd (Memᴰ.not-nil h)
  map-mem (x ∷ l) y (Memᴰ.head e) = (x, Memᴰ.head refl, e)
  map-mem (x ∷ l) y (Memᴰ.tail h) = let r = map-mem l y h in (r.0, Memᴰ.tail r.1, r.2)

  mem_map : (x : A) {l : List A} → Memᴰ x l → Memᴰ (f x) (map f l)
  mem_map x (Memᴰ.head e) = Memᴰ.head (ap f e)
  mem_map x (Memᴰ.tail h) = Memᴰ.tail (mem_map x h)

rises_hold : {a b : Rule} → Rises a b → (eqb (fields a).0 1 && eqb (fields a).1 (Resources.number CargoBay)) ≡ (eqb (fields b).0 1 && eqb (fields b).1 (Resources.number CargoBay))
unfolding fields
rises_hold Rises.same = refl
rises_hold (Rises.resource h) = refl
rises_hold (Rises.slots h) = refl
rises_hold (Rises.skill h) = refl
rises_hold (Rises.max_group h) = refl
rises_hold (Rises.max_type h) = refl
rises_hold (Rises.points h) = refl

covers-hold : (a b : Entry) → Covers a b → of_hold a ≡ of_hold b
covers-hold a b h = rises_hold h.rule

-- ---- the hold, of the bytes that two calls left
in_hold_lem : {cs : Conditions} {es : List Entry} {b : List ℕ} {o : Outcome} → Answers cs es b o → refusal o ≡ 0
    → in_hold o ≡ map entry_bytes (only of_hold es)
in_hold_lem {es = es} A a = ap (only is_cargo_bay) (entries-are A a) ∙ only-map entry_bytes is_cargo_bay of_hold same-hold es

pub hold-one : (t : Terms) (catalogue fit before : List ℕ) → refusal (outcome before (list_call t catalogue fit before)) ≡ 0
    → length (in_hold (outcome before (list_call t catalogue fit before))) ≤ 1
hold-one t catalogue fit before a =
    let c = catalogue_of catalogue in
    let f = fit_of fit in
    subst (λ (l : List (List ℕ)). length l ≤ 1) (sym (in_hold_lem (list_answers t catalogue fit before) a))
    (subst (λ (n : ℕ). n ≤ 1) (sym (length-map (only of_hold (list_for t c f)) entry_bytes)) (list_one t c f))

pub hold_kept : (t t' : Terms) (catalogue old new before before' : List ℕ) → Alike t t' → Bytes new
    → Hauled (fit_of old) (fit_of new) → AddedVolumes (catalogue_of catalogue) (fit_of old) (fit_of new)
    → refusal (outcome before (list_call t catalogue old before)) ≡ 0 → refusal (outcome before' (list_call t' catalogue new before')) ≡ 0
    → (e : List ℕ) → Memᴰ e (in_hold (outcome before (list_call t catalogue old before)))
    → StaysIn (in_hold (outcome before' (list_call t' catalogue new before'))) e
hold_kept t t' catalogue old new before before' alike bytes h v a a' e m =
    let c = catalogue_of catalogue in
    let A = list_answers t catalogue old before in
    let A' = list_answers t' catalogue new before' in
    let small = all-mem (all_drop (length (fit_of old).items) (quantities new bytes)) in
    let sound = list_accepted_lem t catalogue old before (A.answered.0 a) in
    let sound' = list_accepted_lem t' catalogue new before' (A'.answered.0 a') in
    let s = list_sound t c old sound.of_profile (pairs-short old (sized sound) c) in
    let s' = list_sound t' c new sound'.of_profile (pairs-short new (sized sound') c) in
    let p = placed_only of_hold covers-hold (list_grows c (fit_of old) (fit_of new) h.grown v small alike) in
    let x = map-mem entry_bytes (only of_hold (list_for t c (fit_of old))) e (subst (Memᴰ e) (in_hold_lem A a) m) in
    let y = placed_mem p x.0 x.1 in
    let old-sound = all-mem s x.0 (only-mem of_hold (list_for t c (fit_of old)) x.0 x.1).1 in
    let new-sound = all-mem s' y.0 (only-mem of_hold (list_for t' c (fit_of new)) y.0 y.1).1 in (
      entry_bytes y.0,
      subst (Memᴰ (entry_bytes y.0)) (sym (in_hold_lem A' a')) (mem_map entry_bytes y.0 y.1),
      subst (λ (z : List ℕ). Stays z (entry_bytes y.0)) (sym x.2) (covers-stays x.0 y.0 y.2 old-sound new-sound),
    )
