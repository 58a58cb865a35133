-- `Trimmer::next_run` meets its contract: the next mark, and the run that begins there.
use Prim.Native.Nat.{ℕ, ◌+◌, ◌-◌, ◌≤◌, ◌<◌, min}
use native.Mathlib.Omega.{arith}
use mathlib.Core.Path.{◌≡◌, refl}
use Rattle.trim.specs.Parts.{at_of, size_of, first_of}
use Rattle.trim.specs.Trimmers.{ids_in}
use Rattle.trim.proofs.Marking.{marked-part}
use Rattle.trim.proofs.Naming.{part-sorted, part-room, part-few}
use Rattle.trim.proofs.Stretches.{none-next, run_next}
use Rattle.trim.proofs.trimmer.Trimmer.next_run.Goals as goal

-- as far as the window shows the block
record Shown (low first n i end : ℕ) : Type 0 where
  before_end : first + i < low + end
  in_window : end ≤ 1048576
  in_block : low + end ≤ first + n

shown : (low first n i : ℕ) {f m end : ℕ} → f ≡ first → m ≡ n → end ≡ min 1048576 (f + m - low) → i < n → low ≤ first + i
    → first + i < low + 1048576 → Shown low first n i end
shown low first n i e q h a k l = record {
  before_end = omega (arith, e, q, h, a, k, l);
  in_window = omega (arith, h);
  in_block = omega (arith, e, q, h, a, k, l);
}

pub overflow_add-first : goal.overflow_add-first
overflow_add-first c =
    let b = c.args.self.now.window.catalogue.now in
    let s = c.is_sound.ensures in
    omega (arith, c.first-first.ensures, c.block-block.ensures, part-few b s c.args.part, part-room b s c.args.part, s.small)

pub overflow_add-first-2 : goal.overflow_add-first-2
overflow_add-first-2 c =
    let b = c.args.self.now.window.catalogue.now in
    omega (arith, c.first-first.ensures, c.requires.0, part-few b c.is_sound.ensures c.args.part)

pub overflow_add-from : goal.overflow_add-from
overflow_add-from c =
    let w = c.args.self.now.window in
    let b = w.catalogue.now in
    let p = c.args.part in
    let first : c.first-first.result ≡ first_of b p = omega (arith, c.first-first.ensures) in
    let z = shown w.low (first_of b p) (size_of b p) c.args.i first c.block-block.ensures.1 c.min-end.ensures
    c.requires.0 c.requires.1 c.requires.2 in
    omega (arith, z.in_block, c.next-at.ensures.within, part-few b c.is_sound.ensures p)

pub returns-then-at-end : goal.returns-then-at-end
returns-then-at-end c fresh =
    let t = c.args.self.now in
    let w = t.window in
    let b = w.catalogue.now in
    let p = c.args.part in
    let first : c.first-first.result ≡ first_of b p = omega (arith, c.first-first.ensures) in
    let z = shown w.low (first_of b p) (size_of b p) c.args.i first c.block-block.ensures.1 c.min-end.ensures
    c.requires.0 c.requires.1 c.requires.2 in
    rw first
    (none-next b (at_of b p) (size_of b p) (part-sorted b c.is_sound.ensures p) (ids_in t) (first_of b p) w.low c.args.i c.min-end.result
    w.marks.now (marked-part b (ids_in t) w.low w.marks.now t.whole p) fresh c.requires.1 z.before_end z.in_window z.in_block
    c.next-at.result (rw first at c.next-at.ensures) c.if-at-end.true)

pub run_end-requires : goal.run_end-requires
run_end-requires c =
    let w = c.args.self.now.window in
    let b = w.catalogue.now in
    let p = c.args.part in
    let first : c.first-first.result ≡ first_of b p = omega (arith, c.first-first.ensures) in
    let z = shown w.low (first_of b p) (size_of b p) c.args.i first c.block-block.ensures.1 c.min-end.ensures
    c.requires.0 c.requires.1 c.requires.2 in
    let at = c.next-at.ensures in (
      omega (arith, c.block-block.ensures.0, c.block-block.ensures.1, part-room b c.is_sound.ensures p),
      omega (arith, c.if-at-end.false, first, c.block-block.ensures.1, z.in_block, at.within, at.ordered, c.requires.1, c.requires.0),
    )

pub joined-requires : goal.joined-requires
joined-requires c =
    let w = c.args.self.now.window in
    let b = w.catalogue.now in
    let p = c.args.part in
    let first : c.first-first.result ≡ first_of b p = omega (arith, c.first-first.ensures) in
    let n = c.block-block.ensures.1 in
    let z = shown w.low (first_of b p) (size_of b p) c.args.i first n c.min-end.ensures
    c.requires.0 c.requires.1 c.requires.2 in
    let ends = c.run_end.ensures in
    (omega (arith, ends.within, n), omega (arith, ends.ordered, first))

pub returns : goal.returns
returns c fresh =
    let t = c.args.self.now in
    let w = t.window in
    let b = w.catalogue.now in
    let p = c.args.part in
    let first : c.first-first.result ≡ first_of b p = omega (arith, c.first-first.ensures) in
    let at = c.next-at.ensures in
    let z = shown w.low (first_of b p) (size_of b p) c.args.i first c.block-block.ensures.1 c.min-end.ensures
    c.requires.0 c.requires.1 c.requires.2 in
    let less : c.next-at.result < c.min-end.result = omega (arith, at.within, c.if-at-end.false) in
    let ends = rw (c.block-block.ensures.0, c.block-block.ensures.1, first) at c.run_end.ensures in
    c.joined.ensures c.args.i _ (rw first
    (run_next b (at_of b p) (size_of b p) (part-sorted b c.is_sound.ensures p) (ids_in t) (first_of b p) w.low c.args.i c.min-end.result
    w.marks.now (marked-part b (ids_in t) w.low w.marks.now t.whole p) fresh c.requires.1 z.before_end z.in_window z.in_block
    c.next-at.result (rw first at at) less c.run_end.result _ refl ends))
