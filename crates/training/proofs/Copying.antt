-- What the image with other skills has of the old one, byte for byte; and that with its own skills it is the old one.
use Prim.Native.Nat.{ℕ, ◌+◌, ◌*◌, ◌≤◌}
use native.Mathlib.Omega.{arith}
use mathlib.Core.Path.{◌≡◌, refl, sym, ap, ap₂, ◌∙◌}
use mathlib.Core.List.{List, ◌++◌}
use lib.IntN.{ℤ}
use lib.ListN.{length, get_or, take, drop, take-append-drop}
use lib.Seq.{drop-append-add, drop_at, drop-drop, take_at}
use mir.Syntax.{w8}
use mir.Val.{Fits}
use Rattle.words.specs.Words.{each}
use Rattle.words.proofs.Tables.{length-table, table_same}
use Rattle.image.specs.Bytes.{i32_at, bits32, le}
use Rattle.image.proofs.Stores.{length-le}
use Rattle.image.proofs.Parts.{part_length}
use Rattle.keys.specs.Keys.{key_at}
use Rattle.fit.specs.Fit.{fit_of, skill_count, items_at}
use Rattle.training.specs.Training.{Training, training_of, trained_image}
use Rattle.training.proofs.Writing.{size-bytes, ids-bytes, levels-bytes, ids-size}

-- ---- what is copied
module _ (b : List ℕ) (t : Training) (long : 28 ≤ length b) where
  abbrev sizes : List ℕ
  sizes = take 24 (drop 4 b)

  abbrev ids : List ℕ
  ids = each t.ids (λ i. le 4 (bits32 i))

  abbrev rest : List ℕ
  rest = drop (items_at b) b

  sizes_long : length sizes ≡ 24
  sizes_long = part_length b 4 24 (omega (arith, long))

  -- bytes 4 to 27
  pub sizes_copied : take 24 (drop 4 (trained_image b t)) ≡ sizes
  unfolding trained_image
  sizes_copied =
      ap (λ (l : List ℕ). take 24 l) (drop_at (le 4 (length t.ids)) (sizes ++ (ids ++ (t.levels ++ rest))) 4 (length-le 4 (length t.ids)))
      ∙ take_at sizes (ids ++ (t.levels ++ rest)) 24 sizes_long

  -- all behind the skills
  pub rest-copied : length t.ids ≡ length t.levels → drop (28 + 5 * length t.ids) (trained_image b t) ≡ rest
  unfolding trained_image
  rest-copied paired =
      let head = le 4 (length t.ids) in
      let e : 28 + 5 * length t.ids ≡ length head + (length sizes + (length ids + (length t.levels + 0))) =
      omega (arith, length-le 4 (length t.ids), sizes_long, ids-size t.ids, paired) in
      ap (λ (k : ℕ). drop k (head ++ (sizes ++ (ids ++ (t.levels ++ rest))))) e
      ∙ drop-append-add head (sizes ++ (ids ++ (t.levels ++ rest))) (length sizes + (length ids + (length t.levels + 0)))
      ∙ drop-append-add sizes (ids ++ (t.levels ++ rest)) (length ids + (length t.levels + 0))
      ∙ drop-append-add ids (t.levels ++ rest) (length t.levels + 0)
      ∙ drop-append-add t.levels rest 0

-- ---- its own skills
module _ (b : List ℕ) (small : (i : ℕ) → Fits w8 (get_or b i 0)) (sized : items_at b ≤ length b) where
  abbrev n : ℕ
  n = skill_count b

  own_ids : each (fit_of b).skills (λ i. le 4 (bits32 i)) ≡ take (4 * n) (drop 28 b)
  unfolding fit_of
  own_ids =
      ap (λ (l : List ℤ). each l (λ i. le 4 (bits32 i))) (table_same n (λ i. i32_at b (28 + 4 * i)) (λ i. key_at b (7 + i)) (λ i _.
      let e : 28 + 4 * i ≡ 4 * (7 + i) = omega arith in
      ap (i32_at b) e))
      ∙ ids-bytes b small 7 n (omega (arith, sized))

  own_levels : (fit_of b).levels ≡ take n (drop (28 + 4 * n) b)
  unfolding fit_of
  own_levels = levels-bytes b (28 + 4 * n) n (omega (arith, sized))

  own_count : le 4 (length (fit_of b).skills) ≡ take 4 b
  unfolding fit_of
  own_count = ap (le 4) (length-table 0 n (λ i. i32_at b (28 + 4 * i))) ∙ size-bytes b small 0 (omega (arith, sized))

  -- part by part
  after : (at k end : ℕ) → at + k ≡ end → take k (drop at b) ++ drop end b ≡ drop at b
  after at k end e = ap (λ (l : List ℕ). take k (drop at b) ++ l) (ap (λ (i : ℕ). drop i b) (sym e) ∙ sym (drop-drop k at b)) ∙ take-append-drop k (drop at b)

  pub own_image : trained_image b (training_of (fit_of b)) ≡ b
  unfolding trained_image
  own_image =
      let rest = drop (items_at b) b in
      let levels = take n (drop (28 + 4 * n) b) in
      let ids = take (4 * n) (drop 28 b) in
      let sizes = take 24 (drop 4 b) in
      let p : levels ++ rest ≡ drop (28 + 4 * n) b = after (28 + 4 * n) n (items_at b) refl in
      let q : ids ++ drop (28 + 4 * n) b ≡ drop 28 b = after 28 (4 * n) (28 + 4 * n) refl in
      let r : sizes ++ drop 28 b ≡ drop 4 b = after 4 24 28 refl in
      ap₂ (λ (h i : List ℕ). h ++ (sizes ++ (i ++ ((fit_of b).levels ++ rest)))) own_count own_ids
      ∙ ap (λ (l : List ℕ). take 4 b ++ (sizes ++ (ids ++ (l ++ rest)))) own_levels
      ∙ ap (λ (l : List ℕ). take 4 b ++ (sizes ++ (ids ++ l))) p
      ∙ ap (λ (l : List ℕ). take 4 b ++ (sizes ++ l)) q
      ∙ ap (λ (l : List ℕ). take 4 b ++ l) r
      ∙ take-append-drop 4 b
