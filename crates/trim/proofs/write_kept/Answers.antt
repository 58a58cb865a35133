-- `trim::write_kept` meets its contract: how long the image is decides, and then it is written.
use Prim.Native.Nat.{ℕ, ◌+◌, ◌*◌, ◌≤◌}
use native.Mathlib.Omega.{arith}
use mathlib.Core.Path.{◌≡◌, refl, sym, ap, ◌∙◌}
use mathlib.Core.List.{List}
use lib.ListN.{length}
use Rattle.numbers.specs.Refusals as Refusals
use Rattle.image.specs.Bytes.{put}
use Rattle.image.proofs.Stores.{length-put}
use Rattle.catalogue.specs.Catalogue.{Id, types_at}
use Rattle.catalogue.specs.Sound.{Sound}
use Rattle.calls.specs.Output.{output, room_refusals}
use Rattle.calls.specs.Gave.{GaveBytes}
use Rattle.calls.proofs.Outputs.{output-short, output-written, bytes_same, bytes-refused, bytes-written}
use Rattle.trim.specs.Trim.{trimmed_image}
use Rattle.trim.specs.Kept.{Counts, trimmed_head, trimmed_blocks}
use Rattle.trim.specs.Trimmers.{ids_in, SameImages}
use Rattle.trim.specs.declared.Kept.{Kept}
use Rattle.trim.specs.declared.trimmer.Trimmer.{Trimmer}
use Rattle.trim.proofs.Runs.{same_sym, same-moved}
use Rattle.trim.proofs.Image.{put-join, image_parts, head_length, image_length}
use Rattle.trim.proofs.write_kept.Goals as goal

-- what is given of one trimmer is given of another of the same images
given_also : (s t : Trimmer) → SameImages s t → (old new : List ℕ) (w : ℕ)
    → (let bs = trimmed_image t.window.catalogue.now (ids_in t) in GaveBytes old new w (output (room_refusals old bs) bs))
    → (let bs = trimmed_image s.window.catalogue.now (ids_in s) in GaveBytes old new w (output (room_refusals old bs) bs))
given_also s t h old new w g =
    same-moved
    (λ (b : List ℕ) (ids : List Id). let bs = trimmed_image b ids in GaveBytes old new w (output (room_refusals old bs) bs))
    s t h g

counts_also : (s t : Trimmer) → SameImages s t → (k : Kept) → Counts s.window.catalogue.now (ids_in s) k
    → Counts t.window.catalogue.now (ids_in t) k
counts_also s t h k n = same-moved (λ (b : List ℕ) (ids : List Id). Counts b ids k) t s (same_sym s t h) n

module _ (b : List ℕ) (ids : List Id) (k : Kept) (n : Counts b ids k) (s : Sound b) (at : ℕ) (e : at ≡ types_at b) where
  size : at + 20 * k.types + 8 * k.links + 16 * k.bases ≡ length (trimmed_image b ids)
  size = ap (λ (i : ℕ). i + 20 * k.types + 8 * k.links + 16 * k.bases) e ∙ sym (image_length b ids k n s)

  -- no more is kept than there is
  room : at + 20 * k.types + 8 * k.links + 16 * k.bases ≤ 16777216
  room = omega (arith, e, n.few_types, n.few_links, n.few_bases, s.size, s.small)

pub overflow_mul-size : goal.overflow_mul-size
overflow_mul-size c =
    let n = c.count_kept-kept.ensures.1 in
    let t = c.count_kept-kept.new.trimmer in
    let m = counts_also c.args.trimmer.now t c.count_kept-kept.ensures.0 c.count_kept-kept.result n in
    let at = c.types-at.ensures.0 ∙ ap types_at c.blocks-2.ensures in
    omega (arith, room t.window.catalogue.now (ids_in t) c.count_kept-kept.result m c.is_sound.ensures c.types-at.result.at at)

pub overflow_add-size : goal.overflow_add-size
overflow_add-size c =
    let n = c.count_kept-kept.ensures.1 in
    let t = c.count_kept-kept.new.trimmer in
    let m = counts_also c.args.trimmer.now t c.count_kept-kept.ensures.0 c.count_kept-kept.result n in
    let at = c.types-at.ensures.0 ∙ ap types_at c.blocks-2.ensures in
    omega (arith, room t.window.catalogue.now (ids_in t) c.count_kept-kept.result m c.is_sound.ensures c.types-at.result.at at)

pub overflow_mul-size-2 : goal.overflow_mul-size-2
overflow_mul-size-2 c =
    let n = c.count_kept-kept.ensures.1 in
    let t = c.count_kept-kept.new.trimmer in
    let m = counts_also c.args.trimmer.now t c.count_kept-kept.ensures.0 c.count_kept-kept.result n in
    let at = c.types-at.ensures.0 ∙ ap types_at c.blocks-2.ensures in
    omega (arith, room t.window.catalogue.now (ids_in t) c.count_kept-kept.result m c.is_sound.ensures c.types-at.result.at at)

pub overflow_add-size-2 : goal.overflow_add-size-2
overflow_add-size-2 c =
    let n = c.count_kept-kept.ensures.1 in
    let t = c.count_kept-kept.new.trimmer in
    let m = counts_also c.args.trimmer.now t c.count_kept-kept.ensures.0 c.count_kept-kept.result n in
    let at = c.types-at.ensures.0 ∙ ap types_at c.blocks-2.ensures in
    omega (arith, room t.window.catalogue.now (ids_in t) c.count_kept-kept.result m c.is_sound.ensures c.types-at.result.at at)

pub overflow_mul-size-3 : goal.overflow_mul-size-3
overflow_mul-size-3 c =
    let n = c.count_kept-kept.ensures.1 in
    let t = c.count_kept-kept.new.trimmer in
    let m = counts_also c.args.trimmer.now t c.count_kept-kept.ensures.0 c.count_kept-kept.result n in
    let at = c.types-at.ensures.0 ∙ ap types_at c.blocks-2.ensures in
    omega (arith, room t.window.catalogue.now (ids_in t) c.count_kept-kept.result m c.is_sound.ensures c.types-at.result.at at)

pub overflow_add-size-3 : goal.overflow_add-size-3
overflow_add-size-3 c =
    let n = c.count_kept-kept.ensures.1 in
    let t = c.count_kept-kept.new.trimmer in
    let m = counts_also c.args.trimmer.now t c.count_kept-kept.ensures.0 c.count_kept-kept.result n in
    let at = c.types-at.ensures.0 ∙ ap types_at c.blocks-2.ensures in
    omega (arith, room t.window.catalogue.now (ids_in t) c.count_kept-kept.result m c.is_sound.ensures c.types-at.result.at at)

pub returns-then-out-size : goal.returns-then-out-size
returns-then-out-size c =
    let s = c.args.trimmer.now in
    let out = c.args.out.now in
    let k = c.count_kept-kept in
    let t = k.new.trimmer in
    let m = counts_also s t k.ensures.0 k.result k.ensures.1 in
    let at = c.types-at.ensures.0 ∙ ap types_at c.blocks-2.ensures in
    let image = trimmed_image t.window.catalogue.now (ids_in t) in
    let long = size t.window.catalogue.now (ids_in t) k.result m c.is_sound.ensures c.types-at.result.at at in
    given_also s t k.ensures.0 out out _
    (bytes_same (sym (output-short out image (omega (arith, long, c.if-out-size.true)))) (bytes-refused out Refusals.too_short refl))

pub write_head-requires : goal.write_head-requires
write_head-requires c =
    let k = c.count_kept-kept in
    let t = k.new.trimmer in
    let m = counts_also c.args.trimmer.now t k.ensures.0 k.result k.ensures.1 in
    let at = c.types-at.ensures.0 ∙ ap types_at c.blocks-2.ensures in
    let few = room t.window.catalogue.now (ids_in t) k.result m c.is_sound.ensures c.types-at.result.at at in
    (omega (arith, c.if-out-size.false, at), omega (arith, few), omega (arith, few), omega (arith, few))

pub write_parts-requires : goal.write_parts-requires
write_parts-requires c =
    let k = c.count_kept-kept in
    let t = k.new.trimmer in
    let n = k.result in
    let m = counts_also c.args.trimmer.now t k.ensures.0 n k.ensures.1 in
    let at = c.types-at.ensures.0 ∙ ap types_at c.blocks-2.ensures in
    let head = trimmed_head t.window.catalogue.now n.types n.links n.bases in
    let same = ap length c.write_head.ensures ∙ length-put c.args.out.now 0 head in
    (m, omega (arith, c.if-out-size.false, at, same))

pub returns : goal.returns
returns c =
    let s = c.args.trimmer.now in
    let out = c.args.out.now in
    let k = c.count_kept-kept in
    let t = k.new.trimmer in
    let b = t.window.catalogue.now in
    let ids = ids_in t in
    let n = k.result in
    let m = counts_also s t k.ensures.0 n k.ensures.1 in
    let sound = c.is_sound.ensures in
    let at = c.types-at.ensures.0 ∙ ap types_at c.blocks-2.ensures in
    let image = trimmed_image b ids in
    let long = size b ids n m sound c.types-at.result.at at in
    let fits : length image ≤ length out = omega (arith, long, c.if-out-size.false) in
    let head = trimmed_head b n.types n.links n.bases in
    let stored = put-join out c.write_head.new.out c.write_parts.new.out 0 head (types_at b) (trimmed_blocks b ids) c.write_head.ensures
    c.write_parts.ensures (omega (arith, head_length b ids n m sound))
    ∙ ap (put out 0) (sym (image_parts b ids n m)) in
    given_also s t k.ensures.0 out c.write_parts.new.out _
    (bytes_same (sym (output-written out image fits)) (bytes-written out image long stored fits))
