-- A trimmer that goes from run to run of a block: what is counted and copied of the first i records.
use Prim.Native.Nat.{ℕ, ◌+◌, ◌-◌, ◌*◌, ◌≤◌}
use native.Mathlib.Nat.{mul-add, mul-le-mul_left, mul-zero}
use native.Mathlib.Omega.{arith}
use mathlib.Core.Path.{◌≡◌, refl, sym, ap, ap₂, ◌∙◌, subst}
use mathlib.Core.List.{List, ◌++◌}
use lib.ListN.{length, length-append}
use Rattle.words.specs.Words.{from}
use Rattle.image.specs.Bytes.{put}
use Rattle.image.proofs.Stores.{length-put}
use Rattle.catalogue.specs.Catalogue.{Id, catalogue_of}
use Rattle.fit.specs.Fit.{fit_of}
use Rattle.trim.specs.Trim.{copied, touched, kept_at, kept_block}
use Rattle.trim.specs.Marked.{is_kept, Fresh, Stretch}
use Rattle.trim.specs.Parts.{at_of, size_of, width_of, kept_in, kept_bytes}
use Rattle.trim.specs.Trimmers.{ids_in, SameImages}
use Rattle.trim.specs.declared.part.Part.{Part}
use Rattle.trim.specs.declared.trimmer.Trimmer.{Trimmer}
use Rattle.trim.proofs.Stretches.{kept_to, stretch_kept, stretch_count, kept-none, kept-few, kept-grows}
use Rattle.trim.proofs.Copying.{copied_none, copied-append, copied-length, copy_step, copy_done}

pub same_refl : (t : Trimmer) → SameImages t t
same_refl t = record { catalogue = refl; fit = refl }

pub same_trans : (r s t : Trimmer) → SameImages r s → SameImages s t → SameImages r t
same_trans r s t h k = record { catalogue = k.catalogue ∙ h.catalogue; fit = k.fit ∙ h.fit }

-- what holds of the images of one trimmer holds of those of another
pub same-moved : (P : List ℕ → List Id → Type 0) (s t : Trimmer) → SameImages s t → P t.window.catalogue.now (ids_in t)
    → P s.window.catalogue.now (ids_in s)
same-moved P s t h p =
    let f = t.fit.now in
    let q : P s.window.catalogue.now (touched (catalogue_of s.window.catalogue.now) (fit_of f)) =
    subst (λ (b : List ℕ). P b (touched (catalogue_of b) (fit_of f))) h.catalogue p in
    subst (λ (g : List ℕ). P s.window.catalogue.now (touched (catalogue_of s.window.catalogue.now) (fit_of g))) h.fit q

pub same_sym : (s t : Trimmer) → SameImages s t → SameImages t s
same_sym s t h = record { catalogue = sym h.catalogue; fit = sym h.fit }

-- the next run of a block
abbrev pub NextIn : Trimmer → Part → (i first last : ℕ) → Type 0
NextIn t p i first last =
    let b = t.window.catalogue.now in
    Fresh b (at_of b p) (size_of b p) (ids_in t) i → Stretch b (at_of b p) (size_of b p) (ids_in t) i first last

module _ (s : Trimmer) (p : Part) where
  abbrev b : List ℕ
  b = s.window.catalogue.now

  abbrev at : ℕ
  at = at_of b p

  abbrev n : ℕ
  n = size_of b p

  abbrev width : ℕ
  width = width_of p

  abbrev ids : List Id
  ids = ids_in s

  -- those of the first i records that are kept
  abbrev pub kept_before : ℕ → List ℕ
  kept_before i = kept_to b at ids i

  abbrev pub many : ℕ → ℕ
  many i = length (kept_before i)

  pub next_same : (t : Trimmer) → SameImages s t → (i first last : ℕ) → NextIn t p i first last → Fresh b at n ids i
      → Stretch b at n ids i first last
  next_same t h i first last run =
      same-moved (λ (l : List ℕ) (is : List Id). Fresh l (at_of l p) (size_of l p) is i → Stretch l (at_of l p) (size_of l p) is i first last) s t h run

  pub all-kept : length (kept_in b ids p) ≡ many n
  unfolding kept_at
  all-kept = refl

  -- ---- counting
  pub record Counted (t : Trimmer) (count i : ℕ) : Type 0 where
    pub same : SameImages s t
    pub within : i ≤ n
    pub counted : count ≡ many i
    pub fresh : Fresh b at n ids i

  -- no run goes on at the first record
  pub fresh-first : Fresh b at n ids 0
  fresh-first h e j l = absurd (omega (arith, l))

  pub none-kept : many 0 ≡ 0
  none-kept = ap length (kept-none b at ids)

  pub counted_none : Counted s 0 0
  counted_none = record { same = same_refl s; within = omega arith; counted = sym none-kept; fresh = fresh-first }

  pub counted_next : (t : Trimmer) (count i : ℕ) → Counted t count i → (t₁ : Trimmer) → SameImages t t₁ → (first last : ℕ)
      → NextIn t₁ p i first last
      → Stretch b at n ids i first last × Counted t₁ (count + (last - first)) last
  counted_next t count i h t₁ q first last run =
      let z = same_trans s t t₁ h.same q in
      let r = next_same t₁ z i first last run h.fresh in (
        r,
        record {
          same = z;
          within = r.within;
          counted = ap (λ (k : ℕ). k + (last - first)) h.counted ∙ sym (stretch_count b at ids n i first last r);
          fresh = r.fresh;
        },
      )

  pub counted-few : (t : Trimmer) (count i : ℕ) → Counted t count i → count ≤ n
  counted-few t count i h = omega (arith, h.counted, h.within, kept-few b at ids i)

  pub counted_all : (t : Trimmer) (count i : ℕ) → Counted t count i → n ≤ i → count ≡ length (kept_in b ids p)
  counted_all t count i h l = let e : i ≡ n = omega (arith, h.within, l) in h.counted ∙ ap many e ∙ sym all-kept

  -- ---- copying: keys from `to` on, values behind all keys
  abbrev pub keys_before : ℕ → List ℕ
  keys_before i = copied b at 4 (kept_before i)

  abbrev pub values_before : ℕ → List ℕ
  values_before i = copied b (at + 4 * n) width (kept_before i)

  -- so many are kept in all, and there is room for them
  pub record Holds (out : List ℕ) (kept to : ℕ) : Type 0 where
    pub total : kept ≡ many n
    pub room : to + 4 * kept + width * kept ≤ length out
    pub block : at + 4 * n + width * n ≤ length b

  pub record Copied (out : List ℕ) (kept to : ℕ) (t : Trimmer) (now : List ℕ) (keys values i : ℕ) : Type 0 where
    pub same : SameImages s t
    pub within : i ≤ n
    pub fresh : Fresh b at n ids i
    pub size : length now ≡ length out
    pub keys_at : keys ≡ to + 4 * many i
    pub values_at : values ≡ to + 4 * kept + width * many i
    pub bytes : now ≡ put (put out to (keys_before i)) (to + 4 * kept) (values_before i)

  pub copied-start : (out : List ℕ) (kept to : ℕ) → Copied out kept to s out to (to + 4 * kept) 0
  copied-start out kept to =
      let z = kept-none b at ids in
      let keys = ap (copied b at 4) z ∙ copied_none b at 4 in
      let values = ap (copied b (at + 4 * n) width) z ∙ copied_none b (at + 4 * n) width in
      record {
        same = same_refl s;
        within = omega arith;
        fresh = fresh-first;
        size = refl;
        keys_at = omega (arith, none-kept);
        values_at = omega (arith, ap (λ (k : ℕ). width * k) none-kept, mul-zero width);
        bytes = sym (ap₂ (λ (x y : List ℕ). put (put out to x) (to + 4 * kept) y) keys values);
      }

  -- as long as their records
  keys-length : at + 4 * n + width * n ≤ length b → (j : ℕ) → j ≤ n → length (keys_before j) ≡ 4 * many j
  keys-length room j h = copied-length (is_kept b at ids) b at 4 0 j (omega (arith, h, room))

  values-length : at + 4 * n + width * n ≤ length b → (j : ℕ) → j ≤ n → length (values_before j) ≡ width * many j
  values-length room j h =
      let l : width * (0 + j) ≤ width * n = mul-le-mul_left width (omega (arith, h)) in
      copied-length (is_kept b at ids) b (at + 4 * n) width 0 j (omega (arith, l, room))

  module _ (out : List ℕ) (kept to : ℕ) (o : Holds out kept to) (t : Trimmer) (now : List ℕ) (keys values i : ℕ)
      (h : Copied out kept to t now keys values i) where
    -- what the next run is, and that there is room for it
    module _ (t₁ : Trimmer) (q : SameImages t t₁) (first last : ℕ) (next : NextIn t₁ p i first last) where
      pub run : Stretch b at n ids i first last
      run = next_same t₁ (same_trans s t t₁ h.same q) i first last next h.fresh

      more : many last ≡ many i + (last - first)
      more = stretch_count b at ids n i first last run

      most : many last ≤ kept
      most = omega (arith, o.total, kept-grows b at ids last n run.within)

      -- the same, of the values
      wide : width * many last ≡ width * many i + width * (last - first)
      wide = ap (λ (k : ℕ). width * k) more ∙ mul-add width (many i) (last - first)

      pub keys_room : keys + 4 * (last - first) ≤ to + 4 * kept
      keys_room = omega (arith, h.keys_at, more, most)

      pub values_room : values + width * (last - first) ≤ length out
      values_room = omega (arith, h.values_at, wide, mul-le-mul_left width most, o.room)

      abbrev is : List ℕ
      is = from first (last - first)

      keys-more : keys_before last ≡ keys_before i ++ copied b at 4 is
      keys-more = ap (copied b at 4) (stretch_kept b at ids n i first last run) ∙ copied-append b at 4 (kept_before i) is

      values-more : values_before last ≡ values_before i ++ copied b (at + 4 * n) width is
      values-more =
          ap (copied b (at + 4 * n) width) (stretch_kept b at ids n i first last run)
          ∙ copied-append b (at + 4 * n) width (kept_before i) is

      -- the run's bytes behind those that were there
      pub copied_next : (new : List ℕ) → new ≡ put (put now keys (copied b at 4 is)) values (copied b (at + 4 * n) width is)
          → Copied out kept to t₁ new (keys + 4 * (last - first)) (values + width * (last - first)) last
      copied_next new e =
          let xs = keys_before i in
          let xs' = copied b at 4 is in
          let ys = values_before i in
          let ys' = copied b (at + 4 * n) width is in
          let k = keys-length o.block i h.within in
          let v = values-length o.block i h.within in
          let joined = sym (length-append xs xs') ∙ ap length (sym keys-more) ∙ keys-length o.block last run.within in
          record {
            same = same_trans s t t₁ h.same q;
            within = run.within;
            fresh = run.fresh;
            size = ap length e ∙ length-put (put now keys xs') values ys' ∙ length-put now keys xs' ∙ h.size;
            keys_at = omega (arith, h.keys_at, more);
            values_at = omega (arith, h.values_at, wide);
            bytes =
                copy_step out now new to (to + 4 * kept) keys values xs xs' ys ys' h.bytes e
                (omega (arith, h.keys_at, k)) (omega (arith, h.values_at, v)) (omega (arith, joined, most))
                ∙ ap₂ (λ (x y : List ℕ). put (put out to x) (to + 4 * kept) y) (sym keys-more) (sym values-more);
          }

    -- all are copied
    pub copied_all : n ≤ i → now ≡ put out to (kept_bytes b ids p)
    unfolding kept_at kept_block
    copied_all l =
        let e : i ≡ n = omega (arith, h.within, l) in
        let bytes = h.bytes ∙ ap (λ (j : ℕ). put (put out to (keys_before j)) (to + 4 * kept) (values_before j)) e in
        let k = keys-length o.block n (omega arith) in
        copy_done out now to (to + 4 * kept) (keys_before n) (values_before n) bytes (omega (arith, k, o.total))
