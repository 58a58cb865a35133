-- `trim::write_parts` meets its contract: one block behind the other.
use Prim.Native.Nat.{ℕ, ◌+◌, ◌*◌}
use native.Mathlib.Omega.{arith}
use mathlib.Core.Path.{◌≡◌, ap, ◌∙◌}
use mathlib.Core.List.{List, ◌++◌, append_assoc}
use lib.ListN.{length, length-append}
use Rattle.image.specs.Bytes.{put}
use Rattle.catalogue.specs.Catalogue.{Id, types_at}
use Rattle.trim.specs.Parts.{width_of, kept_in, kept_bytes}
use Rattle.trim.specs.Trimmers.{ids_in, SameImages}
use Rattle.trim.specs.declared.part.Part.{Part}
use Rattle.trim.specs.declared.part.Part.TheVariants.{Types, Links, Bases}
use Rattle.trim.specs.declared.trimmer.Trimmer.{Trimmer}
use Rattle.trim.proofs.Runs.{same_trans, same_sym, same-moved}
use Rattle.trim.proofs.Image.{put-join, part_bytes}
use Rattle.trim.proofs.write_parts.Goals as goal

-- so many are kept for a trimmer of the same images
kept_also : (s t : Trimmer) → SameImages s t → (p : Part) (k : ℕ) → k ≡ length (kept_in s.window.catalogue.now (ids_in s) p)
    → k ≡ length (kept_in t.window.catalogue.now (ids_in t) p)
kept_also s t h p k e = same-moved (λ (b : List ℕ) (ids : List Id). k ≡ length (kept_in b ids p)) t s (same_sym s t h) e

-- what one of the same images has written
written_also : (s t : Trimmer) → SameImages s t → (p : Part) (l m : List ℕ) (i : ℕ)
    → m ≡ put l i (kept_bytes t.window.catalogue.now (ids_in t) p) → m ≡ put l i (kept_bytes s.window.catalogue.now (ids_in s) p)
written_also s t h p l m i e = same-moved (λ (b : List ℕ) (ids : List Id). m ≡ put l i (kept_bytes b ids p)) s t h e

pub overflow_mul-l : goal.overflow_mul-l
overflow_mul-l c = omega (arith, c.requires.1, c.well_formed)

pub overflow_add-l : goal.overflow_add-l
overflow_add-l c = omega (arith, c.requires.1, c.well_formed, c.types-t.ensures.0, ap types_at c.blocks-2.ensures)

pub overflow_mul-b : goal.overflow_mul-b
overflow_mul-b c = omega (arith, c.requires.1, c.well_formed)

pub overflow_add-b : goal.overflow_add-b
overflow_add-b c = omega (arith, c.requires.1, c.well_formed, c.types-t.ensures.0, ap types_at c.blocks-2.ensures)

pub copy-requires : goal.copy-requires
unfolding width_of
copy-requires c = (c.requires.0.types, omega (arith, c.requires.1, c.types-t.ensures.0, ap types_at c.blocks-2.ensures))

pub copy-requires-2 : goal.copy-requires-2
unfolding width_of
copy-requires-2 c =
    let s = c.args.trimmer.now in
    let t = c.copy.new.self in (
      kept_also s t c.copy.ensures.0 Links c.args.kept.links c.requires.0.links,
      omega (arith, c.requires.1, c.types-t.ensures.0, ap types_at c.blocks-2.ensures, c.copy.auto.out),
    )

pub copy-requires-3 : goal.copy-requires-3
unfolding width_of
copy-requires-3 c =
    let s = c.args.trimmer.now in
    let t = c.copy.new.self in
    let u = c.copy-2.new.self in (
      kept_also s u (same_trans s t u c.copy.ensures.0 c.copy-2.ensures.0) Bases c.args.kept.bases c.requires.0.bases,
      omega (arith, c.requires.1, c.types-t.ensures.0, ap types_at c.blocks-2.ensures, c.copy.auto.out, c.copy-2.auto.out),
    )

pub returns : goal.returns
unfolding width_of
returns c =
    let a = c.args in
    let s = a.trimmer.now in
    let b = s.window.catalogue.now in
    let ids = ids_in s in
    let out = a.out.now in
    let k = c.requires.0 in
    let at = c.types-t.result.at in
    let t = c.copy.new.self in
    let u = c.copy-2.new.self in
    let first = c.copy.ensures.0 in
    let second = same_trans s t u first c.copy-2.ensures.0 in
    let xs = kept_bytes b ids Types in
    let ys = kept_bytes b ids Links in
    let zs = kept_bytes b ids Bases in
    let sound = c.is_sound.ensures in
    let x = part_bytes b sound ids Types a.kept.types k.types in
    let y = part_bytes b sound ids Links a.kept.links k.links in
    let l = at + 20 * a.kept.types in
    let links = written_also s t first Links c.copy.new.out c.copy-2.new.out l c.copy-2.ensures.1 in
    let bases = written_also s u second Bases c.copy-2.new.out c.copy-3.new.out (l + 8 * a.kept.links) c.copy-3.ensures.1 in
    let two = put-join out c.copy.new.out c.copy-2.new.out at xs l ys c.copy.ensures.1 links (omega (arith, x)) in
    let three = put-join out c.copy-2.new.out c.copy-3.new.out at (xs ++ ys) (l + 8 * a.kept.links) zs two bases
    (omega (arith, x, y, length-append xs ys)) in
    three ∙ ap (put out at) (append_assoc xs ys zs)
    ∙ ap (λ (i : ℕ). put out i (xs ++ (ys ++ zs))) (c.types-t.ensures.0 ∙ ap types_at c.blocks-2.ensures)
