-- The image with other skills: ids and levels in arrays are their bytes, and the stores one after the other make it.
use Prim.Native.Nat.{ℕ, zero, suc, ◌+◌, ◌*◌, ◌-◌, ◌^◌, ◌≤◌, ◌<◌}
use native.Mathlib.Omega.{arith}
use mathlib.Core.Path.{◌≡◌, refl, sym, ap, ap₂, ◌∙◌}
use mathlib.Core.Bool.{Bool, true, false, cond}
use mathlib.Core.List.{List, [], ◌∷◌, ◌++◌}
use lib.Dec.{ltb}
use lib.IntN.{ℤ, pos, negsuc}
use lib.ListN.{length, get_or, take, drop, length-append, length-drop}
use lib.Seq.{drop-cons, drop-drop, take-add, take-suc, get_or-take, get_or-drop}
use mir.Syntax.{w8}
use mir.Val.{Fits}
use Rattle.words.specs.Words.{table_from, table, each}
use Rattle.words.proofs.Tables.{length-table, table_same, table_more, each_more}
use Rattle.image.specs.Bytes.{u8_at, u32_at, i32_at, signed32, bits32, le, put}
use Rattle.image.proofs.Stores.{length-le, le-byte, put-append}
use Rattle.image.proofs.Parts.{part_length}
use Rattle.keys.specs.Keys.{key_at}
use Rattle.keys.proofs.Ranks.{u32_small}
use Rattle.fit.specs.Fit.{fit_of, skill_count, skills_at, levels_at, items_at}
use Rattle.training.specs.Training.{Training, training_of, trained_image}
use Rattle.training.specs.Turns.{held_in}
use Rattle.image.proofs.Puts.{put-among, i32_alike}

-- ---- four bytes of an id
bits_signed : (x : ℕ) → x < 4294967296 → bits32 (signed32 x) ≡ x
unfolding signed32 bits32
bits_signed x h = go (ltb x (2 ^ 31)) refl
  where
    go : (t : Bool) → ltb x (2 ^ 31) ≡ t → bits32 (cond t (pos x) (negsuc (2 ^ 32 - 1 - x))) ≡ x
    go true e = refl
    go false e = omega (arith, h)

module _ (b : List ℕ) (small : (i : ℕ) → Fits w8 (get_or b i 0)) where
  four_bytes : (i : ℕ) → i + 4 ≤ length b → take 4 (drop i b) ≡ get_or b i 0 ∷ get_or b (i + 1) 0 ∷ get_or b (i + 2) 0 ∷ get_or b (i + 3) 0 ∷ []
  four_bytes i h =
      let p1 : suc i ≡ i + 1 = omega arith in
      let p2 : suc (i + 1) ≡ i + 2 = omega arith in
      let p3 : suc (i + 2) ≡ i + 3 = omega arith in
      ap (λ (l : List ℕ). take 4 l)
      (drop-cons b i 0 (omega (arith, h))
      ∙ ap (λ (l : List ℕ). get_or b i 0 ∷ l)
      (ap (λ (k : ℕ). drop k b) p1
      ∙ drop-cons b (i + 1) 0 (omega (arith, h))
      ∙ ap (λ (l : List ℕ). get_or b (i + 1) 0 ∷ l)
      (ap (λ (k : ℕ). drop k b) p2
      ∙ drop-cons b (i + 2) 0 (omega (arith, h))
      ∙ ap (λ (l : List ℕ). get_or b (i + 2) 0 ∷ l) (ap (λ (k : ℕ). drop k b) p3 ∙ drop-cons b (i + 3) 0 (omega (arith, h))))))

  le_four : (i : ℕ) → le 4 (u32_at b i) ≡ get_or b i 0 ∷ get_or b (i + 1) 0 ∷ get_or b (i + 2) 0 ∷ get_or b (i + 3) 0 ∷ []
  unfolding u32_at
  le_four i =
      let x0 = get_or b i 0 in
      let x1 = get_or b (i + 1) 0 in
      let x2 = get_or b (i + 2) 0 in
      let x3 = get_or b (i + 3) 0 in
      let h0 : x0 < 256 = omega (arith, (small i).fits) in
      let h1 : x1 < 256 = omega (arith, (small (i + 1)).fits) in
      let h2 : x2 < 256 = omega (arith, (small (i + 2)).fits) in
      let h3 : x3 < 256 = omega (arith, (small (i + 3)).fits) in
      let e : x0 + 256 * x1 + 65536 * x2 + 16777216 * x3 ≡ x0 + 256 * (x1 + 256 * (x2 + 256 * (x3 + 256 * 0))) = omega arith in
      ap (le 4) e
      ∙ le-byte 3 x0 (x1 + 256 * (x2 + 256 * (x3 + 256 * 0))) h0
      ∙ ap (λ (l : List ℕ). x0 ∷ l)
      (le-byte 2 x1 (x2 + 256 * (x3 + 256 * 0)) h1
      ∙ ap (λ (l : List ℕ). x1 ∷ l) (le-byte 1 x2 (x3 + 256 * 0) h2 ∙ ap (λ (l : List ℕ). x2 ∷ l) (le-byte 0 x3 0 h3)))

  pub size-bytes : (i : ℕ) → i + 4 ≤ length b → le 4 (u32_at b i) ≡ take 4 (drop i b)
  size-bytes i h = le_four i ∙ sym (four_bytes i h)

  key_bytes : (i : ℕ) → i + 4 ≤ length b → le 4 (bits32 (i32_at b i)) ≡ take 4 (drop i b)
  unfolding i32_at
  key_bytes i h = ap (le 4) (bits_signed (u32_at b i) (u32_small b small i)) ∙ size-bytes i h

  -- n ids from a place on, one behind the other
  pub ids-bytes : (from n : ℕ) → 4 * (from + n) ≤ length b → each (table n (λ i. key_at b (from + i))) (λ i. le 4 (bits32 i)) ≡ take (4 * n) (drop (4 * from) b)
  ids-bytes from zero h = unfold each table_from in refl
  ids-bytes from (suc n) h =
      let m : suc n ≡ n + 1 = omega arith in
      let q : 4 * n + 4 ≡ 4 * suc n = omega arith in
      let d : 4 * (from + n) ≡ 4 * from + 4 * n = omega arith in
      let last = key_bytes (4 * (from + n)) (omega (arith, h)) ∙ ap (λ (k : ℕ). take 4 (drop k b)) d ∙ ap (λ (l : List ℕ). take 4 l) (sym (drop-drop (4 * n) (4 * from) b)) in
      ap (λ (k : ℕ). each (table k (λ i. key_at b (from + i))) (λ i. le 4 (bits32 i))) m
      ∙ each_more (λ i. key_at b (from + i)) (λ i. le 4 (bits32 i)) n
      ∙ ap₂ (λ (l r : List ℕ). l ++ r) (ids-bytes from n (omega (arith, h))) last
      ∙ sym (take-add (4 * n) 4 (drop (4 * from) b))
      ∙ ap (λ (k : ℕ). take k (drop (4 * from) b)) q

-- n bytes from a place on
pub levels-bytes : (b : List ℕ) (from n : ℕ) → from + n ≤ length b → table n (λ i. u8_at b (from + i)) ≡ take n (drop from b)
levels-bytes b from zero h = unfold table_from in refl
levels-bytes b from (suc n) h =
    let m : suc n ≡ n + 1 = omega arith in
    ap (λ (k : ℕ). table k (λ i. u8_at b (from + i))) m
    ∙ table_more n (λ i. u8_at b (from + i))
    ∙ ap₂ (λ (l : List ℕ) (x : ℕ). l ++ (x ∷ [])) (levels-bytes b from n (omega (arith, h))) (sym (get_or-drop from b n 0))
    ∙ sym (take-suc (drop from b) n 0 (omega (arith, h, length-drop from b)))

-- ---- five stores are one
pub put_five : (l v w x y z : List ℕ) (p q r s : ℕ) → length v ≡ p → p + length w ≡ q → q + length x ≡ r → r + length y ≡ s
    → put (put (put (put (put l 0 v) p w) q x) r y) s z ≡ put l 0 (v ++ (w ++ (x ++ (y ++ z))))
put_five l v w x y z p q r s a b c d =
    let a' : 0 + length v ≡ p = omega (arith, a) in
    let l1 = put l 0 v in
    let l2 = put l1 p w in
    let l3 = put l2 q x in
    sym (put-append l 0 v (w ++ (x ++ (y ++ z)))
    ∙ ap (λ (k : ℕ). put l1 k (w ++ (x ++ (y ++ z)))) a'
    ∙ put-append l1 p w (x ++ (y ++ z))
    ∙ ap (λ (k : ℕ). put l2 k (x ++ (y ++ z))) b
    ∙ put-append l2 q x (y ++ z)
    ∙ ap (λ (k : ℕ). put l3 k (y ++ z)) c
    ∙ put-append l3 r y z
    ∙ ap (λ (k : ℕ). put (put l3 r y) k z) d)

-- ---- the arrays as a fit fills them, from a place on
module _ (b ids levels : List ℕ) (from : ℕ) (sized : items_at b ≤ length b)
    (room : 4 * (from + skill_count b) ≤ length ids) (space : from + skill_count b ≤ length levels) where
  abbrev n : ℕ
  n = skill_count b

  pub filled-held : held_in (put ids (4 * from) (take (4 * n) (drop 28 b))) (put levels from (take n (drop (28 + 4 * n) b))) from n ≡ training_of (fit_of b)
  unfolding fit_of
  filled-held =
      let p = take (4 * n) (drop 28 b) in
      let q = take n (drop (28 + 4 * n) b) in
      let pl : length p ≡ 4 * n = part_length b 28 (4 * n) (omega (arith, sized)) in
      let ql : length q ≡ n = part_length b (28 + 4 * n) n (omega (arith, sized)) in
      ap₂ (λ (is : List ℤ) (ls : List ℕ). record { ids = is; levels = ls })
      (table_same n (λ i. key_at (put ids (4 * from) p) (from + i)) (λ i. i32_at b (skills_at b + 4 * i)) (λ k h.
      i32_alike (put ids (4 * from) p) b (4 * (from + k)) (28 + 4 * k) (λ c g.
      let d : 4 * (from + k) + c ≡ 4 * from + (4 * k + c) = omega arith in
      let e : 28 + (4 * k + c) ≡ 28 + 4 * k + c = omega arith in
      ap (λ (i : ℕ). get_or (put ids (4 * from) p) i 0) d
      ∙ put-among ids (4 * from) p (4 * k + c) (omega (arith, pl, h, g)) (omega (arith, pl, room))
      ∙ get_or-take (4 * n) (drop 28 b) (4 * k + c) 0 (omega (arith, h, g))
      ∙ get_or-drop 28 b (4 * k + c) 0
      ∙ ap (λ (i : ℕ). get_or b i 0) e)))
      (table_same n (λ i. u8_at (put levels from q) (from + i)) (λ i. u8_at b (levels_at b + i)) (λ k h.
      put-among levels from q k (omega (arith, ql, h)) (omega (arith, ql, space))
      ∙ get_or-take n (drop (28 + 4 * n) b) k 0 h
      ∙ get_or-drop (28 + 4 * n) b k 0))

-- ---- the parts that are stored
pub image_parts : (b ids levels : List ℕ) → ((i : ℕ) → Fits w8 (get_or ids i 0)) → (from n : ℕ)
    → 4 * (from + n) ≤ length ids → from + n ≤ length levels
    → le 4 n ++ (take 24 (drop 4 b) ++ (take (4 * n) (drop (4 * from) ids) ++ (take n (drop from levels) ++ drop (items_at b) b)))
    ≡ trained_image b (held_in ids levels from n)
unfolding trained_image
image_parts b ids levels small from n h k =
    let rest = drop (items_at b) b in
    let is = table n (λ i. key_at ids (from + i)) in
    let ls = table n (λ i. u8_at levels (from + i)) in
    sym (ap (λ (m : ℕ). le 4 m ++ (take 24 (drop 4 b) ++ (each is (λ i. le 4 (bits32 i)) ++ (ls ++ rest)))) (length-table 0 n (λ i. key_at ids (from + i)))
    ∙ ap₂ (λ (x y : List ℕ). le 4 n ++ (take 24 (drop 4 b) ++ (x ++ (y ++ rest)))) (ids-bytes ids small from n h) (levels-bytes levels from n k))

-- ---- how long the image is
pub ids-size : (l : List ℤ) → length (each l (λ i. le 4 (bits32 i))) ≡ 4 * length l
unfolding each
ids-size [] = refl
ids-size (i ∷ l) = length-append (le 4 (bits32 i)) (each l (λ i. le 4 (bits32 i))) ∙ omega (arith, length-le 4 (bits32 i), ids-size l)

pub image_length : (b : List ℕ) (t : Training) → 28 ≤ length b → length t.ids ≡ length t.levels
    → length (trained_image b t) ≡ 28 + 5 * length t.ids + (length b - items_at b)
unfolding trained_image
image_length b t h p =
    let ids = each t.ids (λ i. le 4 (bits32 i)) in
    let rest = drop (items_at b) b in
    let a = length-append (le 4 (length t.ids)) (take 24 (drop 4 b) ++ (ids ++ (t.levels ++ rest))) in
    let c = length-append (take 24 (drop 4 b)) (ids ++ (t.levels ++ rest)) in
    let d = length-append ids (t.levels ++ rest) in
    let e = length-append t.levels rest in
    let f : length (take 24 (drop 4 b)) ≡ 24 = part_length b 4 24 (omega (arith, h)) in
    let g = length-le 4 (length t.ids) in
    omega (arith, a, c, d, e, f, g, ids-size t.ids, length-drop (items_at b) b, p)
