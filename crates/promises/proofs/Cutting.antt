-- A trimmed catalogue decodes to the records that are kept, each byte of them being the one of its old place, has the length that its sizes
-- say, and stays as it is when it is trimmed once more. By reading bytes. Assumes that the old catalogue is as long as its sizes say.
use Prim.Native.Nat.{ℕ, ◌+◌, ◌*◌, ◌-◌, ◌^◌, ◌≤◌, ◌<◌}
use native.Mathlib.Omega.{arith}
use mathlib.Core.Path.{◌≡◌, refl, sym, ap, ap₂, ◌∙◌, subst}
use mathlib.Core.List.{List, [], ◌∷◌, append_assoc, append-nil}
use lib.Dec.{T}
use lib.Ieee.{Float, binary32, binary64, of_bits}
use lib.ListN.{length, get_or, take, drop}
use lib.Seq.{get_or-take, get_or-drop, length-take-le}
use Rattle.words.specs.Words.{only, table, from, contains}
use Rattle.words.proofs.All.{All, all-at}
use Rattle.words.proofs.Tables.{table_same, length-table}
use Rattle.image.specs.Bytes.{u32_at, u64_at, i32_at, le}
use Rattle.image.proofs.Stores.{length-le}
use Rattle.image.proofs.Parts.{part_length}
use Rattle.image.proofs.Puts.{u32_alike, i32_alike, le-u32}
use Rattle.floats.specs.Floats.{f32_at, f64_at}
use Rattle.catalogue.specs.Catalogue.{Id, Name, Effect, TypeData, Link, Base, Catalogue, catalogue_of, size_of}
use Rattle.catalogue.specs.Catalogue.{name_count, effect_count, type_count, link_count, base_count}
use Rattle.catalogue.specs.Catalogue.{names_at, types_at, links_at, bases_at, base_values_at}
use Rattle.catalogue.specs.Catalogue.{name_at, effect_at, type_at, link_at, base_at}
use Rattle.trim.specs.Trim.{trimmed, kept_at, copied, kept_block, trimmed_image}
use Rattle.promises.specs.Trims.{CopiedUnder}
use Rattle.promises.proofs.Haul.{all_map}
use Rattle.promises.proofs.Only.{all-below, all-only, only-all, few-only, only-places, table-places}
use Rattle.promises.proofs.Sides.{joined, start_of, part_at, joined_length, part-whole, Inside, copied-length, copied_at, copied_all}

-- ---- numbers, where bytes are alike
f32_alike : (l m : List ℕ) (i j : ℕ) → ((c : ℕ) → c < 4 → get_or l (i + c) 0 ≡ get_or m (j + c) 0) → f32_at l i ≡ f32_at m j
unfolding f32_at
f32_alike l m i j h = ap (of_bits binary32) (u32_alike l m i j h)

f64_alike : (l m : List ℕ) (i j : ℕ) → ((c : ℕ) → c < 8 → get_or l (i + c) 0 ≡ get_or m (j + c) 0) → f64_at l i ≡ f64_at m j
unfolding f64_at u64_at
f64_alike l m i j h =
    let low = u32_alike l m i j (λ c q. h c (omega (arith, q))) in
    let high = u32_alike l m (i + 4) (j + 4) (λ c q.
    let z : i + 4 + c ≡ i + (4 + c) = omega arith in
    let y : j + (4 + c) ≡ j + 4 + c = omega arith in
    ap (λ (k : ℕ). get_or l k 0) z ∙ h (4 + c) (omega (arith, q)) ∙ ap (λ (k : ℕ). get_or m k 0) y) in
    ap (of_bits binary64) (ap₂ (λ (a b : ℕ). a + 2 ^ 32 * b) low high)

-- ---- records and lists, part by part
typed : {i g c i' g' c' : Id} {n n' : ℕ} {x x' : Float} → i ≡ i' → g ≡ g' → c ≡ c' → n ≡ n' → x ≡ x'
    → ◌≡◌ {A = TypeData} (record { id = i; group = g; category = c; volume_flag = n; volume = x })
    (record { id = i'; group = g'; category = c'; volume_flag = n'; volume = x' })
typed p q r s t = cc

based : {i a i' a' : Id} {x x' : Float} → i ≡ i' → a ≡ a' → x ≡ x'
    → ◌≡◌ {A = Base} (record { type = i; attribute = a; value = x }) (record { type = i'; attribute = a'; value = x' })
based p q r = cc

catalogued : {n n' : List Name} {e e' : List Effect} {t t' : List TypeData} {l l' : List Link} {s s' : List Base}
    → n ≡ n' → e ≡ e' → t ≡ t' → l ≡ l' → s ≡ s'
    → ◌≡◌ {A = Catalogue} (record { names = n; effects = e; types = t; links = l; bases = s })
    (record { names = n'; effects = e'; types = t'; links = l'; bases = s' })
catalogued p q r s t = cc

eleven : {A : Type 0} {a b c d e f g h i j k a' b' c' d' e' f' g' h' i' j' k' : A}
    → a ≡ a' → b ≡ b' → c ≡ c' → d ≡ d' → e ≡ e' → f ≡ f' → g ≡ g' → h ≡ h' → i ≡ i' → j ≡ j' → k ≡ k'
    → ◌≡◌ {A = List A} (a ∷ b ∷ c ∷ d ∷ e ∷ f ∷ g ∷ h ∷ i ∷ j ∷ k ∷ []) (a' ∷ b' ∷ c' ∷ d' ∷ e' ∷ f' ∷ g' ∷ h' ∷ i' ∷ j' ∷ k' ∷ [])
eleven p q r s t u v w x y z = cc

-- ---- the image, part by part
module _ (b : List ℕ) (ids : List Id) where
  abbrev parts_of : List (List ℕ)
  parts_of =
      let ts = kept_at b ids (types_at b) (type_count b) in
      let ls = kept_at b ids (links_at b) (link_count b) in
      let bs = kept_at b ids (bases_at b) (base_count b) in
      take 8 b ∷ le 4 (length ts) ∷ le 4 (length ls) ∷ le 4 (length bs)
      ∷ take (8 * name_count b + 8 * effect_count b) (drop (names_at b) b)
      ∷ copied b (types_at b) 4 ts ∷ copied b (types_at b + 4 * type_count b) 16 ts
      ∷ copied b (links_at b) 4 ls ∷ copied b (links_at b + 4 * link_count b) 4 ls
      ∷ copied b (bases_at b) 4 bs ∷ copied b (base_values_at b) 12 bs
      ∷ []

  parts_joined : trimmed_image b ids ≡ joined parts_of
  unfolding trimmed_image kept_block joined
  parts_joined = simp (append_assoc, append-nil)

module _ (b : List ℕ) (ids : List Id) (size : length b ≡ size_of b) (short : length b ≤ 16777216) where
  abbrev N : ℕ
  N = name_count b

  abbrev E : ℕ
  E = effect_count b

  abbrev ts : List ℕ
  ts = kept_at b ids (types_at b) (type_count b)

  abbrev ls : List ℕ
  ls = kept_at b ids (links_at b) (link_count b)

  abbrev bs : List ℕ
  bs = kept_at b ids (bases_at b) (base_count b)

  abbrev new : List ℕ
  new = trimmed_image b ids

  abbrev parts : List (List ℕ)
  parts = parts_of b ids

  is_joined : new ≡ joined parts
  is_joined = parts_joined b ids

  -- ---- the kept places
  abbrev Kept : ℕ → ℕ → ℕ → Type 0
  Kept at n i = (i < n) × T (contains (i32_at b (at + 4 * i)) ids)

  kept : (at n : ℕ) → All (Kept at n) (kept_at b ids at n)
  unfolding kept_at
  kept at n = all-only (λ (i : ℕ). contains (i32_at b (at + 4 * i)) ids) (all-below n)

  few : (at n : ℕ) → length (kept_at b ids at n) ≤ n
  unfolding kept_at
  few at n = omega (arith, few-only (λ (i : ℕ). contains (i32_at b (at + 4 * i)) ids) (from 0 n), length-table 0 n (λ (i : ℕ). i))

  -- records of four bytes or more, of a block that lies in the image
  inside : (at n to w : ℕ) → ((i : ℕ) → i < n → to + w * i + w ≤ length b) → All (Inside b to w) (kept_at b ids at n)
  inside at n to w h = all_map (λ i p. h i p.0) (kept at n)

  type-keys : All (Inside b (types_at b) 4) ts
  type-keys = inside (types_at b) (type_count b) (types_at b) 4 (λ i h. omega (arith, h, size))

  type-values : All (Inside b (types_at b + 4 * type_count b) 16) ts
  type-values = inside (types_at b) (type_count b) (types_at b + 4 * type_count b) 16 (λ i h. omega (arith, h, size))

  link_keys : All (Inside b (links_at b) 4) ls
  link_keys = inside (links_at b) (link_count b) (links_at b) 4 (λ i h. omega (arith, h, size))

  link_values : All (Inside b (links_at b + 4 * link_count b) 4) ls
  link_values = inside (links_at b) (link_count b) (links_at b + 4 * link_count b) 4 (λ i h. omega (arith, h, size))

  base-keys : All (Inside b (bases_at b) 4) bs
  base-keys = inside (bases_at b) (base_count b) (bases_at b) 4 (λ i h. omega (arith, h, size))

  base-values : All (Inside b (base_values_at b) 12) bs
  base-values = inside (bases_at b) (base_count b) (base_values_at b) 12 (λ i h. omega (arith, h, size))

  -- ---- how long each part is
  head_length : length (take 8 b) ≡ 8
  head_length = length-take-le 8 b (omega (arith, size))

  front_length : length (take (8 * N + 8 * E) (drop (names_at b) b)) ≡ 8 * N + 8 * E
  front_length = part_length b 20 (8 * N + 8 * E) (omega (arith, size))

  abbrev T' : ℕ
  T' = length ts

  abbrev L' : ℕ
  L' = length ls

  abbrev B' : ℕ
  B' = length bs

  type-keys_length : length (copied b (types_at b) 4 ts) ≡ 4 * T'
  type-keys_length = copied-length b (types_at b) 4 type-keys

  type-values_length : length (copied b (types_at b + 4 * type_count b) 16 ts) ≡ 16 * T'
  type-values_length = copied-length b (types_at b + 4 * type_count b) 16 type-values

  link_keys_length : length (copied b (links_at b) 4 ls) ≡ 4 * L'
  link_keys_length = copied-length b (links_at b) 4 link_keys

  link_values_length : length (copied b (links_at b + 4 * link_count b) 4 ls) ≡ 4 * L'
  link_values_length = copied-length b (links_at b + 4 * link_count b) 4 link_values

  base-keys_length : length (copied b (bases_at b) 4 bs) ≡ 4 * B'
  base-keys_length = copied-length b (bases_at b) 4 base-keys

  base-values_length : length (copied b (base_values_at b) 12 bs) ≡ 12 * B'
  base-values_length = copied-length b (base_values_at b) 12 base-values

  -- a byte of part i, which begins at a place
  reads : (i at : ℕ) → start_of parts i ≡ at → (j : ℕ) → j < length (get_or parts i [])
      → get_or new (at + j) 0 ≡ get_or (get_or parts i []) j 0
  reads i at e j h =
      ap (λ (l : List ℕ). get_or l (at + j) 0) is_joined
      ∙ ap (λ (k : ℕ). get_or (joined parts) (k + j) 0) (sym e)
      ∙ part_at parts i j h

  -- ---- the sizes
  head_byte : (j : ℕ) → j < 8 → get_or new j 0 ≡ get_or b j 0
  unfolding start_of
  head_byte j h =
      let z : j ≡ 0 + j = omega arith in
      ap (λ (k : ℕ). get_or new k 0) z ∙ reads 0 0 refl j (omega (arith, h, head_length)) ∙ get_or-take 8 b j 0 h

  size-at : (i at x : ℕ) → start_of parts i ≡ at → get_or parts i [] ≡ le 4 x → x < 4294967296 → u32_at new at ≡ x
  size-at i at x e p h =
      u32_alike new (le 4 x) at 0 (λ c q.
      let z : c ≡ 0 + c = omega arith in
      reads i at e c (omega (arith, q, ap length p, length-le 4 x))
      ∙ ap (λ (l : List ℕ). get_or l c 0) p ∙ ap (λ (k : ℕ). get_or (le 4 x) k 0) z)
      ∙ le-u32 x h

  n_names : name_count new ≡ N
  unfolding start_of
  n_names = u32_alike new b 0 0 (λ c q. head_byte (0 + c) (omega (arith, q)))

  n_effects : effect_count new ≡ E
  unfolding start_of
  n_effects = u32_alike new b 4 4 (λ c q. head_byte (4 + c) (omega (arith, q)))

  n_types : type_count new ≡ T'
  unfolding start_of
  n_types = size-at 1 8 T' (omega (arith, head_length)) refl (omega (arith, size, short, few (types_at b) (type_count b)))

  n_links : link_count new ≡ L'
  unfolding start_of
  n_links = size-at 2 12 L' (omega (arith, head_length)) refl (omega (arith, size, short, few (links_at b) (link_count b)))

  n_bases : base_count new ≡ B'
  unfolding start_of
  n_bases = size-at 3 16 B' (omega (arith, head_length)) refl (omega (arith, size, short, few (bases_at b) (base_count b)))

  -- ---- names and effects, where they stood
  front-byte : (i : ℕ) → 20 ≤ i → i < types_at b → get_or new i 0 ≡ get_or b i 0
  unfolding start_of
  front-byte i low high =
      let j = i - 20 in
      let e : i ≡ 20 + j = omega (arith, low) in
      ap (λ (k : ℕ). get_or new k 0) e
      ∙ reads 4 20 (omega (arith, head_length)) j (omega (arith, low, high, front_length))
      ∙ get_or-take (8 * N + 8 * E) (drop 20 b) j 0 (omega (arith, low, high)) ∙ get_or-drop 20 b j 0
      ∙ ap (λ (k : ℕ). get_or b k 0) (sym e)

  front-u32 : (i j : ℕ) → i ≡ j → 20 ≤ j → j + 4 ≤ types_at b → u32_at new i ≡ u32_at b j
  front-u32 i j e low high =
      ap (u32_at new) e ∙ u32_alike new b j j (λ c q. front-byte (j + c) (omega (arith, low)) (omega (arith, q, high)))

  front-i32 : (i j : ℕ) → i ≡ j → 20 ≤ j → j + 4 ≤ types_at b → i32_at new i ≡ i32_at b j
  front-i32 i j e low high =
      ap (i32_at new) e ∙ i32_alike new b j j (λ c q. front-byte (j + c) (omega (arith, low)) (omega (arith, q, high)))

  names_same : table (name_count new) (name_at new) ≡ table (name_count b) (name_at b)
  names_same =
      ap (λ (n : ℕ). table n (name_at new)) n_names
      ∙ table_same N (name_at new) (name_at b) λ j h.
      let e = n_names in
      ap₂ (λ (n : ℕ) (i : Id). record { number = n; id = i })
      (front-u32 (20 + 4 * j) (20 + 4 * j) refl (omega arith) (omega (arith, h)))
      (front-i32 _ (20 + 4 * N + 4 * j) (omega arith) (omega arith) (omega (arith, h)))

  effects-same : table (effect_count new) (effect_at new) ≡ table (effect_count b) (effect_at b)
  effects-same =
      ap (λ (n : ℕ). table n (effect_at new)) n_effects
      ∙ table_same E (effect_at new) (effect_at b) λ j h.
      let e = n_names in let f = n_effects in
      let at = 20 + 8 * N in
      ap₂ (λ (i : Id) (m : ℕ). record { id = i; mark = m })
      (front-i32 _ (at + 4 * j) (omega arith) (omega arith) (omega (arith, h)))
      (front-u32 _ (at + 4 * E + 4 * j) (omega arith) (omega arith) (omega (arith, h)))

  -- ---- kept records: byte c of the k-th of a part is that of its old place
  module _ (i at to w : ℕ) (is : List ℕ) (e : start_of parts i ≡ at) (p : get_or parts i [] ≡ copied b to w is)
      (h : All (Inside b to w) is) where
    byte_at : (x y k c : ℕ) → k < length is → c < w → w * k + c < w * length is → x ≡ at + (w * k + c) → y ≡ to + w * get_or is k 0 + c
        → get_or new x 0 ≡ get_or b y 0
    byte_at x y k c l m n q r =
        ap (λ (j : ℕ). get_or new j 0) q
        ∙ reads i at e (w * k + c) (omega (arith, n, ap length p, copied-length b to w h))
        ∙ ap (λ (l : List ℕ). get_or l (w * k + c) 0) p
        ∙ copied_at b to w h k c l m ∙ ap (λ (j : ℕ). get_or b j 0) (sym r)

  types-at : start_of parts 5 ≡ types_at b
  unfolding start_of
  types-at = omega (arith, head_length, front_length)

  type-values_at : start_of parts 6 ≡ types_at b + 4 * T'
  unfolding start_of
  type-values_at = omega (arith, head_length, front_length, type-keys_length)

  links-at : start_of parts 7 ≡ types_at b + 20 * T'
  unfolding start_of
  links-at = omega (arith, head_length, front_length, type-keys_length, type-values_length)

  link_values_at : start_of parts 8 ≡ types_at b + 20 * T' + 4 * L'
  unfolding start_of
  link_values_at =
      omega (arith, head_length, front_length, type-keys_length, type-values_length, link_keys_length)

  bases-at : start_of parts 9 ≡ types_at b + 20 * T' + 8 * L'
  unfolding start_of
  bases-at =
      omega (arith, head_length, front_length, type-keys_length, type-values_length, link_keys_length, link_values_length)

  base-values_at : start_of parts 10 ≡ types_at b + 20 * T' + 8 * L' + 4 * B'
  unfolding start_of
  base-values_at =
      omega (arith, head_length, front_length, type-keys_length, type-values_length, link_keys_length, link_values_length, base-keys_length)

  -- ---- kept types, links and bases
  type-same : (k : ℕ) → k < T' → type_at new k ≡ type_at b (get_or ts k 0)
  type-same k h =
      let e = n_names in let f = n_effects in let g = n_types in
      let i = get_or ts k 0 in
      let v = types_at b + 4 * type_count b + 16 * i in
      let v' = types_at new + 4 * type_count new + 16 * k in
      let key = byte_at 5 (types_at b) (types_at b) 4 ts types-at refl type-keys in
      let val = byte_at 6 (types_at b + 4 * T') (types_at b + 4 * type_count b) 16 ts type-values_at refl type-values in
      typed
      (i32_alike new b (types_at new + 4 * k) (types_at b + 4 * i) (λ c q. key _ _ k c h q (omega (arith, h, q)) (omega arith) refl))
      (i32_alike new b v' v (λ c q. val _ _ k c h (omega (arith, q)) (omega (arith, h, q)) (omega arith) refl))
      (i32_alike new b (v' + 4) (v + 4) (λ c q. val _ _ k (4 + c) h (omega (arith, q)) (omega (arith, h, q)) (omega arith) (omega arith)))
      (u32_alike new b (v' + 8) (v + 8) (λ c q. val _ _ k (8 + c) h (omega (arith, q)) (omega (arith, h, q)) (omega arith) (omega arith)))
      (f32_alike new b (v' + 12) (v + 12)
      (λ c q. val _ _ k (12 + c) h (omega (arith, q)) (omega (arith, h, q)) (omega arith) (omega arith)))

  link_same : (k : ℕ) → k < L' → link_at new k ≡ link_at b (get_or ls k 0)
  link_same k h =
      let e = n_names in let f = n_effects in let g = n_types in let l = n_links in
      let i = get_or ls k 0 in
      let key = byte_at 7 (types_at b + 20 * T') (links_at b) 4 ls links-at refl link_keys in
      let val = byte_at 8 (types_at b + 20 * T' + 4 * L') (links_at b + 4 * link_count b) 4 ls link_values_at refl link_values in
      ap₂ (λ (i e : Id). record { type = i; effect = e })
      (i32_alike new b (links_at new + 4 * k) (links_at b + 4 * i) (λ c q. key _ _ k c h q (omega (arith, h, q)) (omega arith) refl))
      (i32_alike new b (links_at new + 4 * link_count new + 4 * k) (links_at b + 4 * link_count b + 4 * i)
      (λ c q. val _ _ k c h q (omega (arith, h, q)) (omega arith) refl))

  base_same : (k : ℕ) → k < B' → base_at new k ≡ base_at b (get_or bs k 0)
  base_same k h =
      let e = n_names in let f = n_effects in let g = n_types in let l = n_links in let m = n_bases in
      let i = get_or bs k 0 in
      let v = base_values_at b + 12 * i in
      let v' = base_values_at new + 12 * k in
      let key = byte_at 9 (types_at b + 20 * T' + 8 * L') (bases_at b) 4 bs bases-at refl base-keys in
      let val = byte_at 10 (types_at b + 20 * T' + 8 * L' + 4 * B') (base_values_at b) 12 bs base-values_at refl base-values in
      based
      (i32_alike new b (bases_at new + 4 * k) (bases_at b + 4 * i) (λ c q. key _ _ k c h q (omega (arith, h, q)) (omega arith) refl))
      (i32_alike new b v' v (λ c q. val _ _ k c h (omega (arith, q)) (omega (arith, h, q)) (omega arith) refl))
      (f64_alike new b (v' + 4) (v + 4) (λ c q. val _ _ k (4 + c) h (omega (arith, q)) (omega (arith, h, q)) (omega arith) (omega arith)))

  types-kept : table (type_count new) (type_at new) ≡ only (λ x. contains x.id ids) (table (type_count b) (type_at b))
  unfolding kept_at
  types-kept =
      ap (λ (n : ℕ). table n (type_at new)) n_types ∙ table-places (type_at b) (type_at new) ts type-same
      ∙ sym (only-places (λ x. contains x.id ids) (type_at b) (type_count b))

  links-kept : table (link_count new) (link_at new) ≡ only (λ x. contains x.type ids) (table (link_count b) (link_at b))
  unfolding kept_at
  links-kept =
      ap (λ (n : ℕ). table n (link_at new)) n_links ∙ table-places (link_at b) (link_at new) ls link_same
      ∙ sym (only-places (λ x. contains x.type ids) (link_at b) (link_count b))

  bases-kept : table (base_count new) (base_at new) ≡ only (λ x. contains x.type ids) (table (base_count b) (base_at b))
  unfolding kept_at
  bases-kept =
      ap (λ (n : ℕ). table n (base_at new)) n_bases ∙ table-places (base_at b) (base_at new) bs base_same
      ∙ sym (only-places (λ x. contains x.type ids) (base_at b) (base_count b))

  pub trimmed-decodes : catalogue_of new ≡ trimmed (catalogue_of b) ids
  unfolding catalogue_of trimmed
  trimmed-decodes = catalogued names_same effects-same types-kept links-kept bases-kept

  -- ---- as long as its sizes say, and no longer than the old one
  new-length : length new ≡ types_at b + 20 * T' + 8 * L' + 16 * B'
  unfolding start_of
  new-length =
      ap length is_joined ∙ joined_length parts
      ∙ omega (
        arith,
        head_length,
        front_length,
        type-keys_length,
        type-values_length,
        link_keys_length,
        link_values_length,
        base-keys_length,
        base-values_length,
      )

  pub new-size : length new ≡ size_of new
  new-size = omega (arith, new-length, n_names, n_effects, n_types, n_links, n_bases)

  pub no_longer : length new ≤ length b
  no_longer =
      omega (arith, new-length, size, few (types_at b) (type_count b), few (links_at b) (link_count b), few (bases_at b) (base_count b))

  -- ---- kept as they stood, byte by byte
  pub bytes-copied : CopiedUnder b ids new
  unfolding kept_at
  bytes-copied =
      let e = n_names in let f = n_effects in let g = n_types in let l = n_links in let m = n_bases in
      let type-key = byte_at 5 (types_at b) (types_at b) 4 ts types-at refl type-keys in
      let type-val = byte_at 6 (types_at b + 4 * T') (types_at b + 4 * type_count b) 16 ts type-values_at refl type-values in
      let link-key = byte_at 7 (types_at b + 20 * T') (links_at b) 4 ls links-at refl link_keys in
      let link-val = byte_at 8 (types_at b + 20 * T' + 4 * L') (links_at b + 4 * link_count b) 4 ls link_values_at refl link_values in
      let base_key = byte_at 9 (types_at b + 20 * T' + 8 * L') (bases_at b) 4 bs bases-at refl base-keys in
      let base-val = byte_at 10 (types_at b + 20 * T' + 8 * L' + 4 * B') (base_values_at b) 12 bs base-values_at refl base-values in
      record {
        sizes = λ c q. head_byte (0 + c) (omega (arith, q));
        front = λ c q. front-byte (20 + c) (omega arith) (omega (arith, q));
        types = (
          n_types,
          λ k h. (
            λ c q. type-key _ _ k c h (omega (arith, q)) (omega (arith, h, q)) (omega (arith, f, e)) refl,
            λ c q. type-val _ _ k c h (omega (arith, q)) (omega (arith, h, q)) (omega (arith, e, f, g)) refl,
          ),
        );
        links = (
          n_links,
          λ k h. (
            λ c q. link-key _ _ k c h (omega (arith, q)) (omega (arith, h, q)) (omega (arith, e, f, g)) refl,
            λ c q. link-val _ _ k c h (omega (arith, q)) (omega (arith, h, q)) (omega (arith, e, f, g, l)) refl,
          ),
        );
        bases = (
          n_bases,
          λ k h. (
            λ c q. base_key _ _ k c h (omega (arith, q)) (omega (arith, h, q)) (omega (arith, e, f, g, l)) refl,
            λ c q. base-val _ _ k c h (omega (arith, q)) (omega (arith, h, q)) (omega (arith, e, f, g, l, m)) refl,
          ),
        );
        size = new-size;
      }

  -- ---- all that it has is kept
  key_kept : (at n to : ℕ) (is : List ℕ) → All (Kept at n) is
      → ((k : ℕ) → k < length is → i32_at new (to + 4 * k) ≡ i32_at b (at + 4 * get_or is k 0))
      → kept_at new ids to (length is) ≡ from 0 (length is)
  unfolding kept_at
  key_kept at n to is h e =
      only-all (λ (k : ℕ). contains (i32_at new (to + 4 * k)) ids)
      (all_map (λ k l. subst (λ (x : Id). T (contains x ids)) (sym (e k l)) (all-at 0 h k l).1) (all-below (length is)))

  kept-types : kept_at new ids (types_at new) (type_count new) ≡ from 0 T'
  kept-types =
      ap (kept_at new ids (types_at new)) n_types
      ∙ key_kept (types_at b) (type_count b) (types_at new) ts (kept (types_at b) (type_count b))
      (λ k l. ap (λ (x : TypeData). x.id) (type-same k l))

  kept-links : kept_at new ids (links_at new) (link_count new) ≡ from 0 L'
  kept-links =
      ap (kept_at new ids (links_at new)) n_links
      ∙ key_kept (links_at b) (link_count b) (links_at new) ls (kept (links_at b) (link_count b))
      (λ k l. ap (λ (x : Link). x.type) (link_same k l))

  kept-bases : kept_at new ids (bases_at new) (base_count new) ≡ from 0 B'
  kept-bases =
      ap (kept_at new ids (bases_at new)) n_bases
      ∙ key_kept (bases_at b) (base_count b) (bases_at new) bs (kept (bases_at b) (base_count b))
      (λ k l. ap (λ (x : Base). x.type) (base_same k l))

  -- part i of it, where so many bytes stand
  part-is : (i at n : ℕ) → start_of parts i ≡ at → length (get_or parts i []) ≡ n → take n (drop at new) ≡ get_or parts i []
  part-is i at n e l =
      ap (λ (s : List ℕ). take n (drop at s)) is_joined
      ∙ ap₂ (λ (m k : ℕ). take m (drop k (joined parts))) (sym l) (sym e)
      ∙ part-whole parts i

  size-of : (l : List ℕ) (n : ℕ) → l ≡ from 0 n → le 4 (length l) ≡ le 4 n
  size-of l n e = ap (λ (k : ℕ). le 4 k) (ap length e ∙ length-table 0 n (λ i. i))

  -- a part copied once more
  again : (i at n w : ℕ) (is : List ℕ) → is ≡ from 0 n → start_of parts i ≡ at → length (get_or parts i []) ≡ w * n
      → copied new at w is ≡ get_or parts i []
  again i at n w is k e l = ap (copied new at w) k ∙ copied_all new at w n ∙ part-is i at (w * n) e l

  pub trimmed-twice : trimmed_image new ids ≡ new
  unfolding start_of
  trimmed-twice =
      let e = n_names in let f = n_effects in let g = n_types in let h = n_links in let i = n_bases in
      parts_joined new ids
      ∙ ap joined (eleven
      (part-is 0 0 8 refl head_length)
      (size-of _ T' kept-types)
      (size-of _ L' kept-links)
      (size-of _ B' kept-bases)
      (part-is 4 20 (8 * name_count new + 8 * effect_count new) (omega (arith, head_length)) (omega (arith, front_length)))
      (again 5 (types_at new) T' 4 _ kept-types (omega (arith, types-at)) type-keys_length)
      (again 6 (types_at new + 4 * type_count new) T' 16 _ kept-types (omega (arith, type-values_at)) type-values_length)
      (again 7 (links_at new) L' 4 _ kept-links (omega (arith, links-at)) link_keys_length)
      (again 8 (links_at new + 4 * link_count new) L' 4 _ kept-links (omega (arith, link_values_at)) link_values_length)
      (again 9 (bases_at new) B' 4 _ kept-bases (omega (arith, bases-at)) base-keys_length)
      (again 10 (base_values_at new) B' 12 _ kept-bases (omega (arith, base-values_at)) base-values_length))
      ∙ sym is_joined
