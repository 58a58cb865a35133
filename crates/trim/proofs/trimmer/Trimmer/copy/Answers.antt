-- `Trimmer::copy` meets its contract. The invariant: of the first i records those that are kept are copied, keys from `to` on, values
-- behind all keys.
use Prim.Native.Nat.{ℕ, ◌+◌, ◌-◌, ◌*◌, ◌≤◌}
use native.Mathlib.Omega.{arith}
use mathlib.Core.Path.{◌≡◌, ap, ◌∙◌, subst}
use mathlib.Core.List.{List}
use lib.ListN.{length}
use Rattle.words.specs.Words.{from}
use Rattle.image.specs.Bytes.{put}
use Rattle.catalogue.specs.Sound.{Sound}
use Rattle.trim.specs.Trim.{copied}
use Rattle.trim.specs.Parts.{at_of, size_of, first_of, width_of, kept_in}
use Rattle.trim.specs.Trimmers.{ids_in}
use Rattle.trim.specs.declared.trimmer.Trimmer.{Trimmer}
use Rattle.trim.specs.declared.part.Part.{Part}
use Rattle.trim.proofs.Naming.{part-few, part-room}
use Rattle.trim.proofs.Runs.{Holds, same_trans, all-kept, copied-start, run, keys_room, values_room, copied_next, copied_all}
use Rattle.trim.proofs.trimmer.Trimmer.copy.Goals as goal

-- so many are kept, and there is room for them
holds : (s : Trimmer) (p : Part) (out : List ℕ) (kept to : ℕ) → Sound s.window.catalogue.now
    → (kept ≡ length (kept_in s.window.catalogue.now (ids_in s) p)) × (to + 4 * kept + width_of p * kept ≤ length out)
    → Holds s p out kept to
holds s p out kept to sound r = record {
  total = r.0 ∙ all-kept s p;
  room = r.1;
  block = part-room s.window.catalogue.now sound p;
}

pub overflow_mul-values : goal.overflow_mul-values
overflow_mul-values c =
    let b = c.args.self.now.window.catalogue.now in
    omega (arith, c.requires.1, c.well_formed, c.block-n.ensures, part-few b c.is_sound.ensures c.args.part)

pub overflow_add-values : goal.overflow_add-values
overflow_add-values c =
    let b = c.args.self.now.window.catalogue.now in
    omega (arith, c.requires.1, c.well_formed, c.block-n.ensures, part-few b c.is_sound.ensures c.args.part)

pub loop-i-init : goal.loop-i-init
loop-i-init c = copied-start c.args.self.now c.args.part c.args.out.now c.args.kept c.args.to

pub overflow_add-first : goal.overflow_add-first
overflow_add-first c =
    let b = c.args.self.now.window.catalogue.now in
    omega (arith, c.first-first.ensures, c.loop-i-test.true, c.block-n.ensures, part-few b c.is_sound.ensures c.args.part)

pub next_run-run-requires : goal.next_run-run-requires
next_run-run-requires c =
    let s = c.args.self.now in
    let p = c.args.part in
    let l = c.loop-i in
    let e = (same_trans s l.self c.reach.new.self l.invariant.same c.reach.ensures.0).catalogue in
    let n = ap (λ (b : List ℕ). size_of b p) e in
    let first = ap (λ (b : List ℕ). first_of b p) e in (
      omega (arith, n, c.loop-i-test.true, c.block-n.ensures),
      omega (arith, first, c.first-first.ensures, c.reach.ensures.1),
      omega (arith, first, c.first-first.ensures, c.reach.ensures.2),
    )

pub copy_run-requires : goal.copy_run-requires
copy_run-requires c =
    let a = c.args in
    let s = a.self.now in
    let p = a.part in
    let l = c.loop-i in
    let o = holds s p a.out.now a.kept a.to c.is_sound.ensures c.requires in
    let k = c.next_run-run in
    let t = c.reach.new.self in
    let q = c.reach.ensures.0 in
    let next = run s p a.out.now a.kept a.to o l.self l.out l.keys l.values l.i l.invariant t q k.result.from k.result.to k.ensures in
    let keys = keys_room s p a.out.now a.kept a.to o l.self l.out l.keys l.values l.i l.invariant t q k.result.from k.result.to k.ensures in
    let values = values_room s p a.out.now a.kept a.to o l.self l.out l.keys l.values l.i l.invariant t q k.result.from k.result.to k.ensures in
    let e = (same_trans s l.self t l.invariant.same q).catalogue in (
      next.forward,
      omega (arith, next.within, ap (λ (b : List ℕ). size_of b p) e),
      omega (arith, keys, l.invariant.size, o.room),
      omega (arith, values, l.invariant.size),
    )

pub overflow_sub-keys : goal.overflow_sub-keys
overflow_sub-keys c =
    let a = c.args in
    let s = a.self.now in
    let l = c.loop-i in
    let o = holds s a.part a.out.now a.kept a.to c.is_sound.ensures c.requires in
    let k = c.next_run-run in
    (run s a.part a.out.now a.kept a.to o l.self l.out l.keys l.values l.i l.invariant c.reach.new.self c.reach.ensures.0 k.result.from
    k.result.to k.ensures).forward

pub overflow_mul-keys : goal.overflow_mul-keys
overflow_mul-keys c =
    let a = c.args in
    let s = a.self.now in
    let l = c.loop-i in
    let o = holds s a.part a.out.now a.kept a.to c.is_sound.ensures c.requires in
    let k = c.next_run-run in
    let keys = keys_room s a.part a.out.now a.kept a.to o l.self l.out l.keys l.values l.i l.invariant c.reach.new.self c.reach.ensures.0
    k.result.from k.result.to k.ensures in
    omega (arith, keys, o.room, c.well_formed)

pub overflow_add-keys : goal.overflow_add-keys
overflow_add-keys c =
    let a = c.args in
    let s = a.self.now in
    let l = c.loop-i in
    let o = holds s a.part a.out.now a.kept a.to c.is_sound.ensures c.requires in
    let k = c.next_run-run in
    let keys = keys_room s a.part a.out.now a.kept a.to o l.self l.out l.keys l.values l.i l.invariant c.reach.new.self c.reach.ensures.0
    k.result.from k.result.to k.ensures in
    omega (arith, keys, o.room, c.well_formed)

pub overflow_sub-values : goal.overflow_sub-values
overflow_sub-values c =
    let a = c.args in
    let s = a.self.now in
    let l = c.loop-i in
    let o = holds s a.part a.out.now a.kept a.to c.is_sound.ensures c.requires in
    let k = c.next_run-run in
    (run s a.part a.out.now a.kept a.to o l.self l.out l.keys l.values l.i l.invariant c.reach.new.self c.reach.ensures.0 k.result.from
    k.result.to k.ensures).forward

pub overflow_mul-values-in-loop-i : goal.overflow_mul-values-in-loop-i
overflow_mul-values-in-loop-i c =
    let a = c.args in
    let s = a.self.now in
    let l = c.loop-i in
    let o = holds s a.part a.out.now a.kept a.to c.is_sound.ensures c.requires in
    let k = c.next_run-run in
    let values = values_room s a.part a.out.now a.kept a.to o l.self l.out l.keys l.values l.i l.invariant c.reach.new.self c.reach.ensures.0
    k.result.from k.result.to k.ensures in
    omega (arith, values, ap (λ (w : ℕ). w * (k.result.to - k.result.from)) c.width-width.ensures, c.well_formed)

pub overflow_add-values-in-loop-i : goal.overflow_add-values-in-loop-i
overflow_add-values-in-loop-i c =
    let a = c.args in
    let s = a.self.now in
    let l = c.loop-i in
    let o = holds s a.part a.out.now a.kept a.to c.is_sound.ensures c.requires in
    let k = c.next_run-run in
    let values = values_room s a.part a.out.now a.kept a.to o l.self l.out l.keys l.values l.i l.invariant c.reach.new.self c.reach.ensures.0
    k.result.from k.result.to k.ensures in
    omega (arith, values, ap (λ (w : ℕ). w * (k.result.to - k.result.from)) c.width-width.ensures, c.well_formed)

pub loop-i-smaller : goal.loop-i-smaller
loop-i-smaller c =
    let a = c.args in
    let s = a.self.now in
    let l = c.loop-i in
    let o = holds s a.part a.out.now a.kept a.to c.is_sound.ensures c.requires in
    let k = c.next_run-run in
    let next = run s a.part a.out.now a.kept a.to o l.self l.out l.keys l.values l.i l.invariant c.reach.new.self c.reach.ensures.0
    k.result.from k.result.to k.ensures in
    omega (arith, next.onward, next.within)

pub loop-i-preserved : goal.loop-i-preserved
loop-i-preserved c =
    let a = c.args in
    let s = a.self.now in
    let p = a.part in
    let l = c.loop-i in
    let o = holds s p a.out.now a.kept a.to c.is_sound.ensures c.requires in
    let k = c.next_run-run in
    let t = c.reach.new.self in
    let is = from k.result.from (k.result.to - k.result.from) in
    let new = c.copy_run.new.out in
    let e = (same_trans s l.self t l.invariant.same c.reach.ensures.0).catalogue in
    let bytes = subst
    (λ (b : List ℕ).
    new ≡ put (put l.out l.keys (copied b (at_of b p) 4 is)) l.values (copied b (at_of b p + 4 * size_of b p) (width_of p) is)) e
    c.copy_run.ensures in
    rw c.width-width.ensures
    (copied_next s p a.out.now a.kept a.to o l.self l.out l.keys l.values l.i l.invariant t c.reach.ensures.0 k.result.from k.result.to
    k.ensures new bytes)

pub returns : goal.returns
returns c =
    let a = c.args in
    let s = a.self.now in
    let p = a.part in
    let l = c.loop-i in
    let o = holds s p a.out.now a.kept a.to c.is_sound.ensures c.requires in (
      l.invariant.same,
      copied_all s p a.out.now a.kept a.to o l.self l.out l.keys l.values l.i l.invariant
          (omega (arith, c.loop-i-test.false, c.block-n.ensures)),
    )
