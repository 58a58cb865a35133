-- What the image with other skills decodes to, and that it is not refused. Each place behind the skills is read where it stands then.
use Prim.Native.Nat.{ℕ, zero, suc, ◌+◌, ◌*◌, ◌-◌, ◌^◌, ◌≤◌, ◌<◌}
use native.Mathlib.Omega.{arith}
use mathlib.Core.Path.{◌≡◌, refl, sym, ap, ap₂, ◌∙◌}
use mathlib.Core.Bool.{Bool, true, false, not, ◌||◌, cond}
use mathlib.Core.List.{List, [], ◌∷◌, ◌++◌}
use lib.IntN.{ℤ, pos}
use lib.Signed.{lt_z}
use lib.Ieee.{Float, binary64, of_bits}
use lib.ListN.{length, get_or, take, drop, get_or-append}
use lib.Seq.{get_or-append-add, get_or-take, get_or-drop, ext_get_or}
use Rattle.words.specs.Words.{table, each, any_of, in_order}
use Rattle.words.proofs.All.{All, cons}
use Rattle.words.proofs.Tables.{length-table, get_or-table, table_same}
use Rattle.words.proofs.Elements.{or_right}
use Rattle.image.specs.Bytes.{u8_at, u32_at, u64_at, i32_at, bits32, le}
use Rattle.image.proofs.Stores.{length-le}
use Rattle.image.proofs.Parts.{part_length}
use Rattle.floats.specs.Floats.{f64_at}
use Rattle.catalogue.specs.Catalogue.{Id}
use Rattle.fit.specs.Fit.{Attribute, Item, Result, Frame, fit_of, all_results, skill_count, item_count, result_count, attribute_count, items_at}
use Rattle.fit.specs.Fit.{results_at, ids_at, values_at, item_at, count_at, start_at, attribute_at, result_of}
use Rattle.fit.specs.Refusals.{bad_order, bad_field, fit_refusal}
use Rattle.fit.specs.Sound as Fit
use Rattle.fit.proofs.Soundness.{disordered, size-good, refusal}
use Rattle.training.specs.Training.{Training, trained_as, trained_image}
use Rattle.image.proofs.Puts.{u16_alike, u32_alike, i32_alike, le-u32, le-i32}
use Rattle.training.proofs.Writing.{ids-size, image_length}
use Rattle.training.proofs.Ranges.{InRange}

-- ---- readers, where bytes are alike
f64_alike : (l m : List ℕ) (i j : ℕ) → ((c : ℕ) → c < 8 → get_or l (i + c) 0 ≡ get_or m (j + c) 0) → f64_at l i ≡ f64_at m j
unfolding f64_at u64_at
f64_alike l m i j h =
    let low = u32_alike l m i j (λ c q. h c (omega (arith, q))) in
    let high = u32_alike l m (i + 4) (j + 4) (λ c q.
    let z : i + 4 + c ≡ i + (4 + c) = omega arith in
    let y : j + (4 + c) ≡ j + 4 + c = omega arith in
    ap (λ (k : ℕ). get_or l k 0) z ∙ h (4 + c) (omega (arith, q)) ∙ ap (λ (k : ℕ). get_or m k 0) y) in
    ap (of_bits binary64) (ap₂ (λ (a b : ℕ). a + 2 ^ 32 * b) low high)

three : {A B C R : Type 0} (k : A → B → C → R) {a a' : A} {b b' : B} {c c' : C} → a ≡ a' → b ≡ b' → c ≡ c' → k a b c ≡ k a' b' c'
three {A} {B} {C} {R} k p q r = ap₂ (λ (f : C → R) (x : C). f x) (ap₂ (λ (f : B → C → R) (x : B). f x) (ap k p) q) r

five : {A B C D E R : Type 0} (k : A → B → C → D → E → R) {a a' : A} {b b' : B} {c c' : C} {d d' : D} {e e' : E}
    → a ≡ a' → b ≡ b' → c ≡ c' → d ≡ d' → e ≡ e' → k a b c d e ≡ k a' b' c' d' e'
five {A} {B} {C} {D} {E} {R} k p q r s u =
    ap₂ (λ (f : E → R) (x : E). f x) (ap₂ (λ (f : D → E → R) (x : D). f x) (three k p q r) s) u

-- behind a part of so many bytes
behind-at : (xs ys : List ℕ) (k n : ℕ) → length xs ≡ k → get_or (xs ++ ys) (k + n) 0 ≡ get_or ys n 0
behind-at xs ys k n e = ap (λ (m : ℕ). get_or (xs ++ ys) (m + n) 0) (sym e) ∙ get_or-append-add xs ys n 0

-- ---- ids
key_at_lem : (l : List ℤ) → All InRange l → (k : ℕ) → k < length l → i32_at (each l (λ i. le 4 (bits32 i))) (4 * k) ≡ get_or l k (pos 0)
unfolding each
key_at_lem [] fits k h = absurd (omega arith)
key_at_lem (x ∷ l) (cons p fits) zero h =
    i32_alike (le 4 (bits32 x) ++ each l (λ i. le 4 (bits32 i))) (le 4 (bits32 x)) (4 * 0) 0 (λ c q.
    let z : 4 * 0 + c ≡ 0 + c = omega arith in
    ap (λ (k : ℕ). get_or (le 4 (bits32 x) ++ each l (λ i. le 4 (bits32 i))) k 0) z
    ∙ get_or-append (le 4 (bits32 x)) (each l (λ i. le 4 (bits32 i))) 0 (0 + c) (omega (arith, q, length-le 4 (bits32 x))))
    ∙ le-i32 x p
key_at_lem (x ∷ l) (cons p fits) (suc k) h =
    i32_alike (le 4 (bits32 x) ++ each l (λ i. le 4 (bits32 i))) (each l (λ i. le 4 (bits32 i))) (4 * suc k) (4 * k) (λ c q.
    let z : 4 * suc k + c ≡ 4 + (4 * k + c) = omega arith in
    ap (λ (j : ℕ). get_or (le 4 (bits32 x) ++ each l (λ i. le 4 (bits32 i))) j 0) z
    ∙ behind-at (le 4 (bits32 x)) (each l (λ i. le 4 (bits32 i))) 4 (4 * k + c) (length-le 4 (bits32 x)))
    ∙ key_at_lem l fits k (omega (arith, h))

-- ---- the image
module _ (b : List ℕ) (t : Training) (z : Fit.Sized b) (paired : length t.ids ≡ length t.levels) (few : length t.ids ≤ 1024)
    (fits : All InRange t.ids) where
  abbrev n : ℕ
  n = length t.ids

  abbrev new : List ℕ
  new = trained_image b t

  abbrev bytes : List ℕ
  bytes = each t.ids (λ i. le 4 (bits32 i))

  abbrev r4 : List ℕ
  r4 = t.levels ++ drop (items_at b) b

  abbrev r3 : List ℕ
  r3 = bytes ++ r4

  abbrev r2 : List ℕ
  r2 = take 24 (drop 4 b) ++ r3

  at_head : (j : ℕ) → j < 4 → get_or new j 0 ≡ get_or (le 4 n) j 0
  unfolding trained_image
  at_head j h = get_or-append (le 4 n) r2 0 j (omega (arith, h, length-le 4 n))

  to_r2 : (j : ℕ) → get_or new (4 + j) 0 ≡ get_or r2 j 0
  unfolding trained_image
  to_r2 j = behind-at (le 4 n) r2 4 j (length-le 4 n)

  header : length (take 24 (drop 4 b)) ≡ 24
  header = part_length b 4 24 (omega (arith, z.size))

  to_r3 : (j : ℕ) → get_or new (28 + j) 0 ≡ get_or r3 j 0
  to_r3 j =
      let e : 28 + j ≡ 4 + (24 + j) = omega arith in
      ap (λ (k : ℕ). get_or new k 0) e ∙ to_r2 (24 + j) ∙ behind-at (take 24 (drop 4 b)) r3 24 j header

  to_r4 : (j : ℕ) → get_or new (28 + 4 * n + j) 0 ≡ get_or r4 j 0
  to_r4 j =
      let e : 28 + 4 * n + j ≡ 28 + (4 * n + j) = omega arith in
      ap (λ (k : ℕ). get_or new k 0) e ∙ to_r3 (4 * n + j) ∙ behind-at bytes r4 (4 * n) j (ids-size t.ids)

  to_rest : (j : ℕ) → get_or new (28 + 4 * n + n + j) 0 ≡ get_or b (items_at b + j) 0
  to_rest j =
      let e : 28 + 4 * n + n + j ≡ 28 + 4 * n + (n + j) = omega arith in
      ap (λ (k : ℕ). get_or new k 0) e ∙ to_r4 (n + j) ∙ behind-at t.levels (drop (items_at b) b) n j (sym paired) ∙ get_or-drop (items_at b) b j 0

  -- the sizes and the frame
  in_head : (j : ℕ) → 4 ≤ j → j < 28 → get_or new j 0 ≡ get_or b j 0
  in_head j l h =
      let k = j - 4 in
      let e : j ≡ 4 + k = omega (arith, l) in
      ap (λ (i : ℕ). get_or new i 0) e ∙ to_r2 k
      ∙ get_or-append (take 24 (drop 4 b)) r3 0 k (omega (arith, header, l, h))
      ∙ get_or-take 24 (drop 4 b) k 0 (omega (arith, l, h)) ∙ get_or-drop 4 b k 0 ∙ sym (ap (λ (i : ℕ). get_or b i 0) e)

  pub new-skills_count : skill_count new ≡ n
  new-skills_count =
      u32_alike new (le 4 n) 0 0 (λ c q. at_head (0 + c) (omega (arith, q))) ∙ le-u32 n (omega (arith, few))

  head_u32 : (j : ℕ) → 4 ≤ j → j + 4 ≤ 28 → u32_at new j ≡ u32_at b j
  head_u32 j l h = u32_alike new b j j (λ c q. in_head (j + c) (omega (arith, l)) (omega (arith, h, q)))

  head_i32 : (j : ℕ) → 4 ≤ j → j + 4 ≤ 28 → i32_at new j ≡ i32_at b j
  head_i32 j l h = i32_alike new b j j (λ c q. in_head (j + c) (omega (arith, l)) (omega (arith, h, q)))

  items-count : item_count new ≡ item_count b
  items-count = head_u32 4 (omega arith) (omega arith)

  results-count : result_count new ≡ result_count b
  results-count = head_u32 8 (omega arith) (omega arith)

  attributes-count : attribute_count new ≡ attribute_count b
  attributes-count = head_u32 12 (omega arith) (omega arith)

  -- what stands x bytes behind the skills
  moved_at : (i j x : ℕ) → i ≡ items_at new + x → j ≡ items_at b + x → get_or new i 0 ≡ get_or b j 0
  moved_at i j x p q =
      let e : i ≡ 28 + 4 * n + n + x = omega (arith, p, new-skills_count) in
      ap (λ (k : ℕ). get_or new k 0) e ∙ to_rest x ∙ sym (ap (λ (k : ℕ). get_or b k 0) q)

  -- ---- items
  item_same : (i : ℕ) → item_at new i ≡ item_at b i
  item_same i =
      let a' = items_at new + 12 * i in
      let a = items_at b + 12 * i in
      five (λ (type : Id) (quantity slot reserved index : ℕ). record { type = type; quantity = quantity; slot = slot; reserved = reserved; index = index })
      (i32_alike new b a' a (λ c q. moved_at (a' + c) (a + c) (12 * i + c) (omega arith) (omega arith)))
      (u32_alike new b (a' + 4) (a + 4) (λ c q. moved_at (a' + 4 + c) (a + 4 + c) (12 * i + 4 + c) (omega arith) (omega arith)))
      (moved_at (a' + 8) (a + 8) (12 * i + 8) (omega arith) (omega arith))
      (moved_at (a' + 9) (a + 9) (12 * i + 9) (omega arith) (omega arith))
      (u16_alike new b (a' + 10) (a + 10) (λ c q. moved_at (a' + 10 + c) (a + 10 + c) (12 * i + 10 + c) (omega arith) (omega arith)))

  -- ---- results
  count_same : (j : ℕ) → count_at new j ≡ count_at b j
  count_same j =
      let f = item_count b in
      u16_alike new b (results_at new + 4 * j + 2) (results_at b + 4 * j + 2) (λ c q.
      moved_at (results_at new + 4 * j + 2 + c) (results_at b + 4 * j + 2 + c) (12 * f + 4 * j + 2 + c) (omega (arith, items-count)) (omega arith))

  start-same : (j : ℕ) → start_at new j ≡ start_at b j
  unfolding start_at
  start-same zero = refl
  start-same (suc j) = ap₂ (λ (x y : ℕ). x + y) (start-same j) (count_same j)

  attribute-same : (i : ℕ) → attribute_at new i ≡ attribute_at b i
  attribute-same i =
      let f = item_count b in
      let r = result_count b in
      let x = 12 * f + 4 * (r + 2) in
      ap₂ (λ (id : Id) (value : Float). record { id = id; value = value })
      (i32_alike new b (ids_at new + 4 * i) (ids_at b + 4 * i) (λ c q.
      moved_at (ids_at new + 4 * i + c) (ids_at b + 4 * i + c) (x + 4 * i + c) (omega (arith, items-count, results-count)) (omega arith)))
      (f64_alike new b (values_at new + 8 * i) (values_at b + 8 * i) (λ c q.
      moved_at (values_at new + 8 * i + c) (values_at b + 8 * i + c) (x + 4 * attribute_count b + 8 * i + c)
      (omega (arith, items-count, results-count, attributes-count)) (omega arith)))

  result-same : (j : ℕ) → result_of new j ≡ result_of b j
  result-same j =
      let f = item_count b in
      let p1 = moved_at (results_at new + 4 * j) (results_at b + 4 * j) (12 * f + 4 * j) (omega (arith, items-count)) (omega arith) in
      let p2 = moved_at (results_at new + 4 * j + 1) (results_at b + 4 * j + 1) (12 * f + 4 * j + 1) (omega (arith, items-count)) (omega arith) in
      let at : (i : ℕ) → attribute_at new (start_at new j + i) ≡ attribute_at b (start_at b j + i) =
      λ i. ap (λ (k : ℕ). attribute_at new (k + i)) (start-same j) ∙ attribute-same (start_at b j + i) in
      let p3 = ap (λ (k : ℕ). table k (λ i. attribute_at new (start_at new j + i))) (count_same j)
      ∙ table_same (count_at b j) (λ i. attribute_at new (start_at new j + i)) (λ i. attribute_at b (start_at b j + i)) (λ i _. at i) in
      three (λ (s r : ℕ) (l : List Attribute). record { state = s; reserved = r; attributes = l }) p1 p2 p3

  -- ---- skills
  ids-same : table (skill_count new) (λ i. i32_at new (28 + 4 * i)) ≡ t.ids
  ids-same =
      ap (λ (k : ℕ). table k (λ i. i32_at new (28 + 4 * i))) new-skills_count
      ∙ ext_get_or (pos 0) (table n (λ i. i32_at new (28 + 4 * i))) t.ids (length-table 0 n _) (λ k h.
      let l : k < n = omega (arith, h, length-table 0 n (λ i. i32_at new (28 + 4 * i))) in
      get_or-table n (λ i. i32_at new (28 + 4 * i)) k (pos 0) l ∙ one k l)
    where
      one : (k : ℕ) → k < n → i32_at new (28 + 4 * k) ≡ get_or t.ids k (pos 0)
      one k l =
          i32_alike new bytes (28 + 4 * k) (4 * k) (λ c q.
          let e : 28 + 4 * k + c ≡ 28 + (4 * k + c) = omega arith in
          ap (λ (i : ℕ). get_or new i 0) e ∙ to_r3 (4 * k + c) ∙ get_or-append bytes r4 0 (4 * k + c) (omega (arith, q, l, ids-size t.ids)))
          ∙ key_at_lem t.ids fits k l

  levels-same : table (skill_count new) (λ i. u8_at new (28 + 4 * skill_count new + i)) ≡ t.levels
  levels-same =
      ap (λ (k : ℕ). table k (λ i. u8_at new (28 + 4 * k + i))) new-skills_count
      ∙ ext_get_or 0 (table n (λ i. u8_at new (28 + 4 * n + i))) t.levels (length-table 0 n _ ∙ paired) (λ k h.
      let l : k < n = omega (arith, h, length-table 0 n (λ i. u8_at new (28 + 4 * n + i))) in
      get_or-table n (λ i. u8_at new (28 + 4 * n + i)) k 0 l ∙ to_r4 k
      ∙ get_or-append t.levels (drop (items_at b) b) 0 k (omega (arith, l, paired)))

  -- ---- all of it
  frame_same : (fit_of new).frame ≡ (fit_of b).frame
  unfolding fit_of
  frame_same =
      five (λ (ship : Id) (flag : ℕ) (mode : Id) (s c : Result). record { ship = ship; mode_flag = flag; mode = mode; ship_result = s; character_result = c })
      (head_i32 16 (omega arith) (omega arith)) (head_u32 20 (omega arith) (omega arith)) (head_i32 24 (omega arith) (omega arith)) (result-same 0) (result-same 1)

  pub trained-decodes : fit_of new ≡ trained_as (fit_of b) t
  trained-decodes =
      five (λ (frame : Frame) (skills : List Id) (levels : List ℕ) (items : List Item) (results : List Result).
      record { frame = frame; skills = skills; levels = levels; items = items; results = results })
      frame_same skills-new levels-new items-new results-new
    where
      skills-new : (fit_of new).skills ≡ t.ids
      skills-new = unfold fit_of in ids-same

      levels-new : (fit_of new).levels ≡ t.levels
      levels-new = unfold fit_of in levels-same

      items-new : (fit_of new).items ≡ (fit_of b).items
      items-new = unfold fit_of in
          ap (λ (k : ℕ). table k (item_at new)) items-count ∙ table_same (item_count b) (item_at new) (item_at b) (λ i _. item_same i)

      results-new : (fit_of new).results ≡ (fit_of b).results
      results-new = unfold fit_of in
          ap (λ (k : ℕ). table k (λ j. result_of new (j + 2))) results-count
          ∙ table_same (result_count b) (λ j. result_of new (j + 2)) (λ j. result_of b (j + 2)) (λ j _. result-same (j + 2))

  -- ---- it is not refused
  new-sized : Fit.Sized new
  new-sized =
      let l = image_length b t (omega (arith, z.size)) paired in
      let starts : start_at new (result_count new + 2) ≡ attribute_count new =
      start-same (result_count new + 2) ∙ ap (λ (k : ℕ). start_at b (k + 2)) results-count ∙ z.counts ∙ sym attributes-count in
      record {
        size = omega (arith, l, z.size, new-skills_count, items-count, results-count, attributes-count);
        skills = omega (arith, few, new-skills_count);
        items = omega (arith, z.items, items-count);
        results = omega (arith, z.results, results-count);
        attributes = omega (arith, z.attributes, attributes-count);
        counts = starts;
      }

  pub trained-accepted : in_order lt_z t.ids ≡ true → bad_order (fit_of b) ≡ false → bad_field (fit_of b) ≡ false → fit_refusal new ≡ 0
  unfolding bad_order bad_field
  trained-accepted o s f =
      let later = or_right (not (in_order lt_z (fit_of b).skills)) (any_of disordered (all_results (fit_of b))) s in
      let order : bad_order (fit_of new) ≡ false =
      ap bad_order trained-decodes ∙ ap₂ (λ (x y : Bool). not x || y) o later in
      let field : bad_field (fit_of new) ≡ false = ap bad_field trained-decodes ∙ f in
      refusal new
      ∙ ap (λ (x : Bool). cond x 4 (cond (bad_order (fit_of new)) 5 (cond (bad_field (fit_of new)) 6 0))) (size-good new new-sized)
      ∙ ap₂ (λ (x y : Bool). cond x 5 (cond y 6 0)) order field
