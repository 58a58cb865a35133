-- The trimmed image: its parts, how long it is, and that stores one behind the other make it.
use Prim.Native.Nat.{ℕ, ◌+◌, ◌*◌, ◌≤◌}
use native.Mathlib.Omega.{arith}
use mathlib.Core.Path.{◌≡◌, sym, ap, ap₂, ◌∙◌}
use mathlib.Core.List.{List, ◌++◌, append_assoc}
use lib.ListN.{length, length-append}
use Rattle.image.specs.Bytes.{put}
use Rattle.image.proofs.Stores.{length-le, put-append}
use Rattle.image.proofs.Parts.{part_length}
use Rattle.catalogue.specs.Catalogue.{Id, name_count, effect_count, type_count, link_count, base_count, types_at, links_at, bases_at}
use Rattle.catalogue.specs.Sound.{Sound}
use Rattle.trim.specs.Trim.{copied, kept_at, kept_block, trimmed_image}
use Rattle.trim.specs.Marked.{is_kept}
use Rattle.trim.specs.Parts.{at_of, size_of, width_of, kept_in, kept_bytes}
use Rattle.trim.specs.Kept.{Counts, trimmed_head, trimmed_blocks}
use Rattle.trim.specs.declared.Kept.{Kept}
use Rattle.trim.specs.declared.part.Part.{Part}
use Rattle.trim.proofs.Naming.{part-room}
use Rattle.trim.proofs.Copying.{copied-length}

-- ---- stores one behind the other
pub put-join : (l l₁ l₂ : List ℕ) (i : ℕ) (xs : List ℕ) (j : ℕ) (ys : List ℕ) → l₁ ≡ put l i xs → l₂ ≡ put l₁ j ys → j ≡ i + length xs
    → l₂ ≡ put l i (xs ++ ys)
put-join l l₁ l₂ i xs j ys e q h = q ∙ ap₂ (λ (m : List ℕ) (k : ℕ). put m k ys) e h ∙ sym (put-append l i xs ys)

-- ---- a block
pub block_length : (b : List ℕ) (ids : List Id) (at n w : ℕ) → at + 4 * n + w * n ≤ length b
    → length (kept_block b ids at n w) ≡ 4 * length (kept_at b ids at n) + w * length (kept_at b ids at n)
unfolding kept_block kept_at
block_length b ids at n w h =
    let z : 0 + n ≡ n = omega arith in
    let keys = copied-length (is_kept b at ids) b at 4 0 n (omega (arith, h)) in
    let values = copied-length (is_kept b at ids) b (at + 4 * n) w 0 n (omega (arith, h, ap (λ (k : ℕ). w * k) z)) in
    length-append (copied b at 4 (kept_at b ids at n)) (copied b (at + 4 * n) w (kept_at b ids at n)) ∙ omega (arith, keys, values)

-- as many records as are kept of it
pub part_bytes : (b : List ℕ) → Sound b → (ids : List Id) (p : Part) (k : ℕ) → k ≡ length (kept_in b ids p)
    → length (kept_bytes b ids p) ≡ 4 * k + width_of p * k
part_bytes b s ids p k e = rw e (block_length b ids (at_of b p) (size_of b p) (width_of p) (part-room b s p))

-- ---- the whole
module _ (b : List ℕ) (ids : List Id) (k : Kept) (c : Counts b ids k) where
  pub image_parts : trimmed_image b ids ≡ trimmed_head b k.types k.links k.bases ++ trimmed_blocks b ids
  unfolding trimmed_image kept_at kept_block at_of size_of width_of
  image_parts = rw (← c.types, ← c.links, ← c.bases) (simp append_assoc)

  module _ (s : Sound b) where
    pub head_length : length (trimmed_head b k.types k.links k.bases) ≡ types_at b
    head_length =
        let names = part_length b 20 (8 * name_count b + 8 * effect_count b) (omega (arith, s.size)) in
        let sizes = part_length b 0 8 (omega (arith, s.size)) in
        simp (length-append, length-le) (omega (arith, names, sizes))

    pub blocks-length : length (trimmed_blocks b ids) ≡ 20 * k.types + 8 * k.links + 16 * k.bases
    unfolding at_of size_of width_of
    blocks-length =
        let t = block_length b ids (types_at b) (type_count b) 16 (omega (arith, s.size)) in
        let l = block_length b ids (links_at b) (link_count b) 4 (omega (arith, s.size)) in
        let e = block_length b ids (bases_at b) (base_count b) 12 (omega (arith, s.size)) in
        simp length-append (omega (arith, t, l, e, c.types, c.links, c.bases))

    pub image_length : length (trimmed_image b ids) ≡ types_at b + 20 * k.types + 8 * k.links + 16 * k.bases
    image_length =
        ap length image_parts ∙ length-append (trimmed_head b k.types k.links k.bases) (trimmed_blocks b ids)
        ∙ omega (arith, head_length, blocks-length)
