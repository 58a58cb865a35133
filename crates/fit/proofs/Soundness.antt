-- A fit is sound exactly where it is not refused, and what soundness says of each field.
use Prim.Native.Nat.{ℕ, ◌+◌, ◌≤◌, ◌<◌}
use native.Mathlib.Omega.{arith}
use mathlib.Core.Path.{◌≡◌, refl, sym, ap, ◌∙◌}
use mathlib.Core.Bool.{Bool, true, false, not, cond, ◌&&◌, ◌||◌}
use mathlib.Core.List.{List, map}
use lib.ListN.{length}
use lib.Dec.{ltb, eqb}
use lib.IntN.{pos}
use lib.Signed.{lt_z}
use borrow.Author.Tests.{ltb-false, le-ltb, eq-eqb, eqb-true, ne_eqb, not-false}
use Rattle.words.specs.Words.{any_of, in_order, sum_of, first_of, same}
use Rattle.words.proofs.Tables.{any_false}
use Rattle.words.proofs.Elements.{or_left, or_right}
use Rattle.numbers.specs.Slots as Slots
use Rattle.fit.specs.Fit.{Fit, Item, Result, fit_of, skill_count, item_count, result_count, attribute_count, size_of, item_at, result_of, all_results}
use Rattle.fit.specs.Refusals.{bad_size, bad_order, bad_item, bad_result, bad_field, fit_refusals, fit_refusal}
use Rattle.fit.specs.Sound.{in_bay, Sized, Sound}
use Rattle.fit.proofs.Decoded.{all_results_lem, counts-sum}

-- what is not false is true
not-both : (t : Bool) → (t ≡ false → ⊥) → t ≡ true
not-both true h = refl
not-both false h = absurd (h refl)

and_true : (a : Bool) → a && true ≡ a
and_true true = refl
and_true false = refl

-- ---- one record
module _ (i : Item) (e : bad_item i ≡ false) where
  -- the four tests of `bad_item`
  over : Bool
  over = ltb 11 i.slot

  filled : Bool
  filled = not (eqb i.reserved 0)

  long : Bool
  long = ltb 255 i.index && not (eqb i.slot Slots.booster)

  bay : Bool
  bay = not (eqb i.index 0) && in_bay i.slot

  three : over || filled || long ≡ false
  unfolding bad_item over filled long bay
  three = or_left (over || filled || long) bay e

  slot-good : i.slot ≤ 11
  unfolding over
  slot-good = ltb-false 11 i.slot (or_left over filled (or_left (over || filled) long three))

  index-good : (i.slot ≡ Slots.booster → ⊥) → i.index ≤ 255
  unfolding long
  index-good n =
      let q : ltb 255 i.index && true ≡ false = rw (ap not (sym (ne_eqb i.slot Slots.booster n))) (or_right (over || filled) long three) in
      ltb-false 255 i.index (sym (and_true (ltb 255 i.index)) ∙ q)

  bay_good : in_bay i.slot ≡ true → i.index ≡ 0
  unfolding bad_item over filled long bay
  bay_good n =
      let q : not (eqb i.index 0) && true ≡ false = rw (sym n) (or_right (over || filled || long) bay e) in
      eqb-true i.index 0 (not-false (eqb i.index 0) (sym (and_true (not (eqb i.index 0))) ∙ q))

state-good : (r : Result) → bad_result r ≡ false → r.state ≤ 3
unfolding bad_result
state-good r e = ltb-false 3 r.state (or_left (ltb 3 r.state) (not (eqb r.reserved 0)) e)

-- ---- sizes
module _ (b : List ℕ) where
  total : ℕ
  total = sum_of (λ r. length r.attributes) (all_results (fit_of b))

  pub sized : bad_size b ≡ false → Sized b
  unfolding bad_size total
  sized e =
      let s = ltb 1024 (skill_count b) in
      let f = ltb 256 (item_count b) in
      let r = ltb 256 (result_count b) in
      let a = ltb 30000 (attribute_count b) in
      let n = not (eqb (length b) (size_of b)) in
      let c = not (eqb total (attribute_count b)) in
      let e4 = or_left (s || f || r || a || n) c e in
      let e3 = or_left (s || f || r || a) n e4 in
      let e2 = or_left (s || f || r) a e3 in
      let e1 = or_left (s || f) r e2 in
      record {
        size = eqb-true (length b) (size_of b) (not-false (eqb (length b) (size_of b)) (or_right (s || f || r || a) n e4));
        skills = ltb-false 1024 (skill_count b) (or_left s f e1);
        items = ltb-false 256 (item_count b) (or_right s f e1);
        results = ltb-false 256 (result_count b) (or_right (s || f) r e2);
        attributes = ltb-false 30000 (attribute_count b) (or_right (s || f || r) a e3);
        counts = sym (counts-sum b) ∙ eqb-true total (attribute_count b) (not-false (eqb total (attribute_count b)) (or_right (s || f || r || a || n) c e));
      }

  pub size-good : Sized b → bad_size b ≡ false
  unfolding bad_size
  size-good z =
      rw (
        le-ltb 1024 (skill_count b) z.skills,
        le-ltb 256 (item_count b) z.items,
        le-ltb 256 (result_count b) z.results,
        le-ltb 30000 (attribute_count b) z.attributes,
        eq-eqb (length b) (size_of b) z.size,
        eq-eqb (sum_of (λ r. length r.attributes) (all_results (fit_of b))) (attribute_count b) (counts-sum b ∙ z.counts),
      )

  -- what contradicts the sizes is refused
  pub size-bad : (Sized b → ⊥) → bad_size b ≡ true
  size-bad h = not-both (bad_size b) (λ e. h (sized e))

-- ---- the refusal
-- the number that three tests in their order give
abbrev pub first_bad : Bool → Bool → Bool → ℕ
first_bad x y z = cond x 4 (cond y 5 (cond z 6 0))

first-none : (x y z : Bool) → first_bad x y z ≡ 0 → (x ≡ false) × (y ≡ false) × (z ≡ false)
first-none true y z e = absurd (omega (arith, e))
first-none false true z e = absurd (omega (arith, e))
first-none false false true e = absurd (omega (arith, e))
first-none false false false e = (refl, refl, refl)

module _ (b : List ℕ) where
  pub refusal : fit_refusal b ≡ first_bad (bad_size b) (bad_order (fit_of b)) (bad_field (fit_of b))
  unfolding fit_refusal fit_refusals first_of
  refusal = refl

  -- what is not refused is sound
  pub sound : fit_refusal b ≡ 0 → Sound b
  sound e =
      let h = first-none (bad_size b) (bad_order (fit_of b)) (bad_field (fit_of b)) (sym refusal ∙ e) in
      record { sized = sized b h.0; order = h.1; fields = h.2 }

-- ---- what a sound fit's fields are
module _ (f : Fit) where
  abbrev pub bad_mode : Bool
  bad_mode = ltb 1 f.frame.mode_flag || (eqb f.frame.mode_flag 0 && not (same f.frame.mode (pos 0)))

  mode-fine : bad_field f ≡ false → bad_mode ≡ false
  unfolding bad_field
  mode-fine e = or_left bad_mode (any_of bad_item f.items) (or_left (bad_mode || any_of bad_item f.items) (any_of bad_result (all_results f)) e)

  items-fine : bad_field f ≡ false → any_of bad_item f.items ≡ false
  unfolding bad_field
  items-fine e = or_right bad_mode (any_of bad_item f.items) (or_left (bad_mode || any_of bad_item f.items) (any_of bad_result (all_results f)) e)

  results_fine : bad_field f ≡ false → any_of bad_result (all_results f) ≡ false
  unfolding bad_field
  results_fine e = or_right (bad_mode || any_of bad_item f.items) (any_of bad_result (all_results f)) e

-- a result whose attribute ids do not ascend
abbrev pub disordered : Result → Bool
disordered r = not (in_order lt_z (map (λ x. x.id) r.attributes))

module _ (b : List ℕ) (s : Sound b) where
  pub item_good : (i : ℕ) → i < item_count b → bad_item (item_at b i) ≡ false
  unfolding fit_of
  item_good i h = any_false bad_item (item_count b) (item_at b) (items-fine (fit_of b) s.fields) i h

  pub result-good : (j : ℕ) → j < result_count b + 2 → bad_result (result_of b j) ≡ false
  result-good j h =
      any_false bad_result (result_count b + 2) (result_of b) (ap (any_of bad_result) (sym (all_results_lem b)) ∙ results_fine (fit_of b) s.fields) j h

  -- the slot kind is 0 to 11
  pub item_slot_lem : (i : ℕ) → i < item_count b → (item_at b i).slot ≤ 11
  item_slot_lem i h = slot-good (item_at b i) (item_good i h)

  -- the index is at most 255 unless Booster
  pub item_index_lem : (i : ℕ) → i < item_count b → ((item_at b i).slot ≡ Slots.booster → ⊥) → (item_at b i).index ≤ 255
  item_index_lem i h n = index-good (item_at b i) (item_good i h) n

  -- the state is 0 to 3
  pub result-state : (j : ℕ) → j < result_count b + 2 → (result_of b j).state ≤ 3
  result-state j h = state-good (result_of b j) (result-good j h)

  -- skill ids ascend
  pub skill-order : in_order lt_z (fit_of b).skills ≡ true
  unfolding bad_order
  skill-order =
      not-false (in_order lt_z (fit_of b).skills) (or_left (not (in_order lt_z (fit_of b).skills)) (any_of disordered (all_results (fit_of b))) s.order)

  -- the attribute ids of each result ascend
  pub result-order : (j : ℕ) → j < result_count b + 2 → in_order lt_z (map (λ x. x.id) (result_of b j).attributes) ≡ true
  unfolding bad_order
  result-order j h =
      not-false (in_order lt_z (map (λ x. x.id) (result_of b j).attributes))
      (any_false disordered (result_count b + 2) (result_of b) (ap (any_of disordered) (sym (all_results_lem b))
      ∙ or_right (not (in_order lt_z (fit_of b).skills)) (any_of disordered (all_results (fit_of b))) s.order) j h)
