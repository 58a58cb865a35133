-- A widened catalogue decodes to the records of the old one. By reading bytes: those in front stand where they stood, and each value reads
-- back as the one that it was made of. Assumes that the old catalogue is as long as its sizes say.
use Prim.Native.Nat.{ℕ, zero, suc, ◌+◌, ◌*◌, ◌/◌, ◌%◌, ◌^◌, ◌≤◌, ◌<◌}
use native.Mathlib.Omega.{arith}
use mathlib.Core.Path.{◌≡◌, refl, sym, ap, ap₂, ◌∙◌}
use mathlib.Core.List.{List, [], ◌∷◌, ◌++◌}
use lib.Ieee.{Float, binary32, binary64, of_bits}
use lib.Ieee.Fits.{fits_widens}
use lib.ListN.{length, get_or, take, drop}
use lib.Seq.{get_or-take, take_at, drop-append-add}
use Rattle.words.specs.Words.{table, from, each, table_from}
use Rattle.words.proofs.Tables.{table_same}
use Rattle.image.specs.Bytes.{u32_at, u64_at, i32_at, signed32, le}
use Rattle.image.proofs.Stores.{le-append}
use Rattle.image.proofs.Parts.{part_length, part-u32}
use Rattle.floats.specs.Floats.{f32_at, f64_at, f64_bits}
use Rattle.floats.proofs.Bits.{f32_at-fits, f64_bits-back, f64_bits-lt}
use Rattle.catalogue.specs.Catalogue.{Id, Name, Effect, TypeData, Link, Base, Catalogue, catalogue_of, base_values_at, bases_at}
use Rattle.catalogue.specs.Catalogue.{name_count, effect_count, type_count, link_count, base_count, name_at, effect_at, type_at, link_at, base_at}
use Rattle.widening.specs.Old.{old_size_of, old_value_at, old_base_at, old_catalogue_of}
use Rattle.widening.specs.Widen.{wide_bits, wide_value, wide_values, widened}
use Rattle.widening.proofs.Bytes.{value-length, front_length}

get_left : (l m : List ℕ) (i : ℕ) → i < length l → get_or (l ++ m) i 0 ≡ get_or l i 0
get_left [] m i h = absurd (omega arith)
get_left (x ∷ l) m zero h = refl
get_left (x ∷ l) m (suc i) h = get_left l m i (omega arith)

-- one of some lists of 12 bytes, joined
twelve_at : (f : ℕ → List ℕ) (k n : ℕ) → ((i : ℕ) → i < k + n → length (f i) ≡ 12) → (i : ℕ) → i < n
    → take 12 (drop (12 * i) (each (table_from k n (λ j. j)) f)) ≡ f (k + i)
unfolding each table_from
twelve_at f k zero h i l = absurd (omega arith)
twelve_at f k (suc n) h zero l =
    take_at (f k) (each (table_from (suc k) n (λ j. j)) f) 12 (h k (omega arith)) ∙ (let q : k ≡ k + 0 = omega arith in ap f q)
twelve_at f k (suc n) h (suc i) l =
    let q : 12 * suc i ≡ length (f k) + 12 * i = let a = h k (omega arith) in omega arith in
    let p : suc k + i ≡ k + suc i = omega arith in
    ap (λ (m : ℕ). take 12 (drop m (f k ++ each (table_from (suc k) n (λ j. j)) f))) q
    ∙ ap (take 12) (drop-append-add (f k) (each (table_from (suc k) n (λ j. j)) f) (12 * i))
    ∙ twelve_at f (suc k) n (λ j l'. h j (omega arith)) i (omega arith) ∙ ap f p

-- ---- a number of eight bytes behind four
four : (n : ℕ) → n < 2 ^ 32 → n % 256 + 256 * (n / 256 % 256) + 65536 * (n / 256 / 256 % 256) + 16777216 * (n / 256 / 256 / 256 % 256) ≡ n
four n h = omega arith

halves : (n : ℕ) → le 8 n ≡ le 4 (n % 2 ^ 32) ++ le 4 (n / 2 ^ 32)
halves n =
    let q : n ≡ n % 2 ^ 32 + 256 ^ 4 * (n / 2 ^ 32) = omega arith in
    let r : n % 2 ^ 32 < 256 ^ 4 = omega arith in
    ap (le 8) q ∙ le-append 4 4 (n % 2 ^ 32) (n / 2 ^ 32) r

words_back : (a b c d : ℕ) (l h : ℕ) → l < 2 ^ 32 → h < 2 ^ 32 → u64_at ((a ∷ b ∷ c ∷ d ∷ []) ++ (le 4 l ++ le 4 h)) 4 ≡ l + 2 ^ 32 * h
unfolding u64_at u32_at
words_back a b c d l h p q = ap₂ (λ (x y : ℕ). x + 2 ^ 32 * y) (four l p) (four h q)

eight_back : (p : List ℕ) (n : ℕ) → length p ≡ 4 → n < 2 ^ 64 → u64_at (p ++ le 8 n) 4 ≡ n
eight_back (a ∷ b ∷ c ∷ d ∷ []) n e h =
    let q : n % 2 ^ 32 + 2 ^ 32 * (n / 2 ^ 32) ≡ n = omega arith in
    let l : n % 2 ^ 32 < 2 ^ 32 = omega arith in
    let u : n / 2 ^ 32 < 2 ^ 32 = omega arith in
    ap (λ (l : List ℕ). u64_at ((a ∷ b ∷ c ∷ d ∷ []) ++ l) 4) (halves n) ∙ words_back a b c d (n % 2 ^ 32) (n / 2 ^ 32) l u ∙ q
eight_back [] n e h = absurd (omega arith)
eight_back (a ∷ []) n e h = absurd (omega arith)
eight_back (a ∷ b ∷ []) n e h = absurd (omega arith)
eight_back (a ∷ b ∷ c ∷ []) n e h = absurd (omega arith)
eight_back (a ∷ b ∷ c ∷ d ∷ f ∷ p) n e h = absurd (omega arith)

left : (l m : List ℕ) → length l ≡ 4 → u32_at (l ++ m) 0 ≡ u32_at l 0
unfolding u32_at
left l m e =
    rw (get_left l m 0 (omega arith), get_left l m (0 + 1) (omega arith), get_left l m (0 + 2) (omega arith), get_left l m (0 + 3) (omega arith))

part-u64 : (w : List ℕ) (at : ℕ) → u64_at w (at + 4) ≡ u64_at (take 12 (drop at w)) 4
unfolding u64_at
part-u64 w at =
    let q : at + 4 + 4 ≡ at + 8 = omega arith in
    ap₂ (λ (x y : ℕ). x + 2 ^ 32 * y) (sym (part-u32 w at 12 4 (omega arith))) (ap (u32_at w) q ∙ sym (part-u32 w at 12 8 (omega arith)))

-- ---- records from their fields
table-both : {A : Type 0} (f g : ℕ → A) {n m : ℕ} → n ≡ m → ((j : ℕ) → j < m → f j ≡ g j) → table n f ≡ table m g
table-both f g {n} {m} e h = ap (λ (k : ℕ). table k f) e ∙ table_same m f g h

typed : {i g c i' g' c' : Id} {n n' : ℕ} {x x' : Float} → i ≡ i' → g ≡ g' → c ≡ c' → n ≡ n' → x ≡ x'
    → ◌≡◌ {A = TypeData} (record { id = i; group = g; category = c; volume_flag = n; volume = x })
    (record { id = i'; group = g'; category = c'; volume_flag = n'; volume = x' })
typed p q r s t = cc

based : {i a i' a' : Id} {x x' : Float} → i ≡ i' → a ≡ a' → x ≡ x'
    → ◌≡◌ {A = Base} (record { type = i; attribute = a; value = x }) (record { type = i'; attribute = a'; value = x' })
based p q r = cc

catalogued : {n n' : List Name} {e e' : List Effect} {t t' : List TypeData} {l l' : List Link} {s s' : List Base}
    → n ≡ n' → e ≡ e' → t ≡ t' → l ≡ l' → s ≡ s'
    → ◌≡◌ {A = Catalogue} (record { names = n; effects = e; types = t; links = l; bases = s })
    (record { names = n'; effects = e'; types = t'; links = l'; bases = s' })
catalogued p q r s t = cc

module _ (b : List ℕ) (size : length b ≡ old_size_of b) where
  abbrev P : ℕ
  P = base_values_at b

  abbrev w : List ℕ
  w = widened b

  -- ---- all up to the values reads the same
  byte : (i : ℕ) → i < P → get_or w i 0 ≡ get_or b i 0
  unfolding widened
  byte i h = get_left (take P b) _ i (let e = front_length b size in omega arith) ∙ get_or-take P b i 0 h

  word : (i : ℕ) → i + 4 ≤ P → u32_at w i ≡ u32_at b i
  unfolding u32_at
  word i h = rw (byte i (omega arith), byte (i + 1) (omega arith), byte (i + 2) (omega arith), byte (i + 3) (omega arith))

  -- a number at a place that the sizes of either say
  word_at : (i j : ℕ) → i ≡ j → j + 4 ≤ P → u32_at w i ≡ u32_at b j
  word_at i j e h = ap (u32_at w) e ∙ word j h

  id-at : (i j : ℕ) → i ≡ j → j + 4 ≤ P → i32_at w i ≡ i32_at b j
  unfolding i32_at
  id-at i j e h = ap signed32 (word_at i j e h)

  float_at : (i j : ℕ) → i ≡ j → j + 4 ≤ P → f32_at w i ≡ f32_at b j
  unfolding f32_at
  float_at i j e h = ap (of_bits binary32) (word_at i j e h)

  -- ---- the values
  record_at : (i : ℕ) → i < base_count b → take 12 (drop (P + 12 * i) w) ≡ wide_value b (old_value_at b i)
  unfolding widened wide_values
  record_at i h =
      let f : ℕ → List ℕ = λ j. wide_value b (old_value_at b j) in
      let q : P + 12 * i ≡ length (take P b) + 12 * i = let e = front_length b size in omega arith in
      let z : 0 + i ≡ i = omega arith in
      ap (λ (m : ℕ). take 12 (drop m (take P b ++ each (from 0 (base_count b)) f))) q
      ∙ ap (take 12) (drop-append-add (take P b) (each (from 0 (base_count b)) f) (12 * i))
      ∙ twelve_at f 0 (base_count b) (λ j l. value-length b (old_value_at b j) (omega arith)) i h
      ∙ ap f z

  attribute : (i : ℕ) → i < base_count b → u32_at w (P + 12 * i) ≡ u32_at b (old_value_at b i)
  unfolding wide_value
  attribute i h =
      let q : P + 12 * i + 0 ≡ P + 12 * i = omega arith in
      let r : old_value_at b i + 0 ≡ old_value_at b i = omega arith in
      let part = take 4 (drop (old_value_at b i) b) in
      ap (u32_at w) (sym q) ∙ sym (part-u32 w (P + 12 * i) 12 0 (omega arith)) ∙ ap (λ (l : List ℕ). u32_at l 0) (record_at i h)
      ∙ left part (le 8 (wide_bits b (old_value_at b i + 4))) (part_length b (old_value_at b i) 4 (omega arith))
      ∙ part-u32 b (old_value_at b i) 4 0 (omega arith) ∙ ap (u32_at b) r

  value : (i : ℕ) → i < base_count b → f64_at w (P + 12 * i + 4) ≡ f32_at b (old_value_at b i + 4)
  unfolding f64_at wide_value wide_bits
  value i h =
      let x = f32_at b (old_value_at b i + 4) in
      let fit = fits_widens x (f32_at-fits b (old_value_at b i + 4)) in
      ap (of_bits binary64)
      (part-u64 w (P + 12 * i)
      ∙ ap (λ (l : List ℕ). u64_at l 4) (record_at i h)
      ∙ eight_back (take 4 (drop (old_value_at b i) b)) (f64_bits x) (part_length b (old_value_at b i) 4 (omega arith)) (f64_bits-lt x fit))
      ∙ f64_bits-back x fit

  -- ---- the sizes
  n_names : name_count w ≡ name_count b
  n_names = word 0 (omega arith)

  n_effects : effect_count w ≡ effect_count b
  n_effects = word 4 (omega arith)

  n_types : type_count w ≡ type_count b
  n_types = word 8 (omega arith)

  n_links : link_count w ≡ link_count b
  n_links = word 12 (omega arith)

  pub n_bases : base_count w ≡ base_count b
  n_bases = word 16 (omega arith)

  pub bases-at : bases_at w ≡ bases_at b
  bases-at = omega (arith, n_names, n_effects, n_types, n_links)

  -- ---- the blocks
  names_same : table (name_count w) (name_at w) ≡ table (name_count b) (name_at b)
  names_same = table-both (name_at w) (name_at b) n_names λ j h.
      let e = n_names in
      ap₂ (λ (n : ℕ) (i : Id). record { number = n; id = i }) (word_at _ _ refl (omega arith))
      (id-at _ (20 + 4 * name_count b + 4 * j) (omega arith) (omega arith))

  effects-same : table (effect_count w) (effect_at w) ≡ table (effect_count b) (effect_at b)
  effects-same = table-both (effect_at w) (effect_at b) n_effects λ j h.
      let e = n_names in let f = n_effects in
      let at = 20 + 8 * name_count b in
      ap₂ (λ (i : Id) (m : ℕ). record { id = i; mark = m }) (id-at _ (at + 4 * j) (omega arith) (omega arith))
      (word_at _ (at + 4 * effect_count b + 4 * j) (omega arith) (omega arith))

  types_same : table (type_count w) (type_at w) ≡ table (type_count b) (type_at b)
  types_same = table-both (type_at w) (type_at b) n_types λ j h.
      let e = n_names in let f = n_effects in let g = n_types in
      let at = 20 + 8 * name_count b + 8 * effect_count b in
      let v = at + 4 * type_count b + 16 * j in
      typed
      (id-at _ (at + 4 * j) (omega arith) (omega arith))
      (id-at _ v (omega arith) (omega arith))
      (id-at _ (v + 4) (omega arith) (omega arith))
      (word_at _ (v + 8) (omega arith) (omega arith))
      (float_at _ (v + 12) (omega arith) (omega arith))

  links-same : table (link_count w) (link_at w) ≡ table (link_count b) (link_at b)
  links-same = table-both (link_at w) (link_at b) n_links λ j h.
      let e = n_names in let f = n_effects in let g = n_types in let k = n_links in
      let at = 20 + 8 * name_count b + 8 * effect_count b + 20 * type_count b in
      ap₂ (λ (i e : Id). record { type = i; effect = e }) (id-at _ (at + 4 * j) (omega arith) (omega arith))
      (id-at _ (at + 4 * link_count b + 4 * j) (omega arith) (omega arith))

  bases-same : table (base_count w) (base_at w) ≡ table (base_count b) (old_base_at b)
  unfolding i32_at
  bases-same = table-both (base_at w) (old_base_at b) n_bases λ j h.
      let e = bases-at in let l = n_bases in
      let q : base_values_at w ≡ P = omega arith in
      based
      (ap signed32 (word_at _ (bases_at b + 4 * j) (omega arith) (omega arith)))
      (ap (λ (p : ℕ). signed32 (u32_at w (p + 12 * j))) q ∙ ap signed32 (attribute j h))
      (ap (λ (p : ℕ). f64_at w (p + 12 * j + 4)) q ∙ value j h)

  pub decoded : catalogue_of w ≡ old_catalogue_of b
  unfolding catalogue_of old_catalogue_of
  decoded = catalogued names_same effects-same types_same links-same bases-same
