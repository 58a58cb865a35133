-- `trimmer::copy_run` meets its contract: two parts of the image are stored.
use Prim.Native.Nat.{ℕ, ◌+◌, ◌-◌, ◌*◌, ◌≤◌}
use native.Mathlib.Omega.{arith}
use mathlib.Core.Path.{◌≡◌, refl, sym, ap, ap₂, ◌∙◌}
use mathlib.Core.List.{List}
use lib.ListN.{length, take, drop}
use Rattle.image.specs.Bytes.{put}
use Rattle.catalogue.specs.Sound.{Sound}
use Rattle.trim.specs.Trim.{copied}
use Rattle.trim.specs.Parts.{at_of, size_of, width_of}
use Rattle.trim.specs.declared.part.Part.{Part}
use Rattle.words.specs.Words.{from}
use Rattle.trim.proofs.Naming.{part-room, four_wide}
use Rattle.trim.proofs.Copying.{part_room, copied-run}
use Rattle.trim.proofs.trimmer.copy_run.Goals as goal

-- the run stands in its block, its keys and its values in the image
module _ (b : List ℕ) (s : Sound b) (p : Part) (first last : ℕ) (forward : first ≤ last) (within : last ≤ size_of b p) where
  keys_room : (at : ℕ) → at ≡ at_of b p → at + 4 * first + 4 * (last - first) ≤ length b
  keys_room at e = omega (arith, part-room b s p, forward, within, e)

  values_room : (at n w : ℕ) → at ≡ at_of b p → n ≡ size_of b p → w ≡ width_of p → at + 4 * n + w * first + w * (last - first) ≤ length b
  values_room at n w e q r =
      let room = part-room b s p in
      rw (e, q, r) (omega (arith, room, part_room (width_of p) first last (size_of b p) forward within))

-- a part of the image is its records
stored : (b m : List ℕ) (at at' w w' f d : ℕ) → m ≡ b → at ≡ at' → w ≡ w' → take (w * d) (drop (at + w * f) m) ≡ copied b at' w' (from f d)
stored b m at at' w w' f d e q r = rw (e, q, r) (sym (copied-run b at' w' f d))

pub overflow_mul-key : goal.overflow_mul-key
overflow_mul-key c =
    let a = c.args in
    let s = c.bytes-bytes.ensures.1 in
    omega (arith, s.small, keys_room a.catalogue.now s a.part a.run.from a.run.to c.requires.0 c.requires.1 _ c.block-block.ensures.0)

pub overflow_add-key : goal.overflow_add-key
overflow_add-key c =
    let a = c.args in
    let s = c.bytes-bytes.ensures.1 in
    omega (arith, s.small, keys_room a.catalogue.now s a.part a.run.from a.run.to c.requires.0 c.requires.1 _ c.block-block.ensures.0)

pub overflow_mul-value : goal.overflow_mul-value
overflow_mul-value c =
    let a = c.args in
    let s = c.bytes-bytes.ensures.1 in
    let k = c.block-block.ensures in
    let room = values_room a.catalogue.now s a.part a.run.from a.run.to c.requires.0 c.requires.1 _ _ _ k.0 k.1 c.width-width.ensures in
    omega (arith, s.small, room, k.1, c.requires)

pub overflow_add-value : goal.overflow_add-value
overflow_add-value c =
    let a = c.args in
    let s = c.bytes-bytes.ensures.1 in
    let k = c.block-block.ensures in
    let room = values_room a.catalogue.now s a.part a.run.from a.run.to c.requires.0 c.requires.1 _ _ _ k.0 k.1 c.width-width.ensures in
    omega (arith, s.small, room, k.1, c.requires)

pub overflow_mul-value-2 : goal.overflow_mul-value-2
overflow_mul-value-2 c =
    let a = c.args in
    let s = c.bytes-bytes.ensures.1 in
    let k = c.block-block.ensures in
    let room = values_room a.catalogue.now s a.part a.run.from a.run.to c.requires.0 c.requires.1 _ _ _ k.0 k.1 c.width-width.ensures in
    omega (arith, s.small, room, k.1, c.requires)

pub overflow_add-value-2 : goal.overflow_add-value-2
overflow_add-value-2 c =
    let a = c.args in
    let s = c.bytes-bytes.ensures.1 in
    let k = c.block-block.ensures in
    let room = values_room a.catalogue.now s a.part a.run.from a.run.to c.requires.0 c.requires.1 _ _ _ k.0 k.1 c.width-width.ensures in
    omega (arith, s.small, room, k.1, c.requires)

pub part-requires : goal.part-requires
part-requires c =
    let a = c.args in
    let s = c.bytes-bytes.ensures.1 in
    let k = c.block-block.ensures in
    let f = a.run.from in
    let d = a.run.to - f in
    let w = c.width-width.ensures in
    let room = keys_room a.catalogue.now s a.part f a.run.to c.requires.0 c.requires.1 _ k.0 in
    let values = values_room a.catalogue.now s a.part f a.run.to c.requires.0 c.requires.1 _ _ _ k.0 k.1 w in
    omega (arith, room, values, four_wide a.part d, ap (λ (x : ℕ). x * d) w, ap length c.bytes-bytes.ensures.0)

pub part-requires-2 : goal.part-requires-2
part-requires-2 c =
    let a = c.args in
    let s = c.bytes-bytes.ensures.1 in
    let k = c.block-block.ensures in
    let f = a.run.from in
    let w = c.width-width.ensures in
    let room = values_room a.catalogue.now s a.part f a.run.to c.requires.0 c.requires.1 _ _ _ k.0 k.1 w in
    omega (arith, room, four_wide a.part f, ap (λ (x : ℕ). x * f) w, ap length c.bytes-bytes.ensures.0)

pub returns : goal.returns
returns c =
    let a = c.args in
    let b = a.catalogue.now in
    let p = a.part in
    let k = c.block-block.ensures in
    let f = a.run.from in
    let d = a.run.to - f in
    let same = c.bytes-bytes.ensures.0 in
    let values = ap₂ (λ (at n : ℕ). at + 4 * n) k.0 k.1 in
    c.copy-2.ensures
    ∙ ap₂ (λ (l m : List ℕ). put l a.values m)
    (c.copy.ensures ∙ ap (put a.out.now a.keys) (c.part.ensures ∙ stored b c.bytes-bytes.result.now _ (at_of b p) 4 4 f d same k.0 refl))
    (c.part-2.ensures ∙ stored b c.bytes-bytes.result.now _ (at_of b p + 4 * size_of b p) _ (width_of p) f d same values c.width-width.ensures)
