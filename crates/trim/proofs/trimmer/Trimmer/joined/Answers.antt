-- `Trimmer::joined` meets its contract: where the place behind a run is marked, another that is kept begins there.
use Prim.Native.Nat.{ℕ, ◌+◌, ◌-◌, ◌≤◌, ◌<◌, min}
use native.Mathlib.Omega.{arith}
use mathlib.Core.Path.{◌≡◌, refl, sym, ap, ◌∙◌}
use mathlib.Core.Bool.{true}
use Rattle.marks.specs.Marks.{is_marked}
use Rattle.trim.specs.Marked.{is_kept}
use Rattle.trim.specs.Parts.{at_of, size_of, first_of}
use Rattle.trim.specs.Trimmers.{ids_in}
use Rattle.trim.proofs.Marking.{marked-part}
use Rattle.trim.proofs.Naming.{part-sorted, part-room}
use Rattle.trim.proofs.Stretches.{run_forward, run_joined}
use Rattle.trim.proofs.trimmer.Trimmer.joined.Goals as goal

-- a record whose place the window shows stands in its block
below : (low first n last : ℕ) {f m end : ℕ} → f ≡ first → m ≡ n → end ≡ min 1048576 (f + m - low) → low ≤ first + last
    → f + last - low < end → (last < n) × (f + last - low < 1048576) × (first + last ≡ low + (f + last - low))
below low first n last e q h l t =
    (omega (arith, e, q, h, l, t), omega (arith, h, t), omega (arith, e, l))

pub run_end-last-requires : goal.run_end-last-requires
run_end-last-requires c =
    let w = c.args.self.now.window in
    let b = w.catalogue.now in
    let p = c.args.part in
    let l = c.loop-last in
    let first : c.first-first.result ≡ first_of b p = omega (arith, c.first-first.ensures) in
    let k = c.block-block.ensures in
    let z = below w.low (first_of b p) (size_of b p) l.last first k.1 c.min-shown.ensures l.invariant.1 (omega (arith, c.loop-last-test.true)) in
    (omega (arith, k.0, k.1, part-room b c.is_sound.ensures p), omega (arith, z.0, k.1))

-- the record is kept
held : (c : goal.After-run_end-last) → is_kept c.args.self.now.window.catalogue.now (at_of c.args.self.now.window.catalogue.now c.args.part)
    (ids_in c.args.self.now) c.loop-last.last ≡ true
held c =
    let t = c.args.self.now in
    let w = t.window in
    let b = w.catalogue.now in
    let p = c.args.part in
    let l = c.loop-last in
    let first : c.first-first.result ≡ first_of b p = omega (arith, c.first-first.ensures) in
    let place = c.first-first.result + l.last - w.low in
    let z = below w.low (first_of b p) (size_of b p) l.last first c.block-block.ensures.1 c.min-shown.ensures l.invariant.1 (omega (arith, c.loop-last-test.true)) in
    let here : c.next.result ≡ place = c.if-next-place.false in
    let marked : is_marked w.marks.now place ≡ true = ap (is_marked w.marks.now) (sym here) ∙ c.next.ensures.here (omega (arith, here)) in
    (marked-part b (ids_in t) w.low w.marks.now t.whole p).sound l.last place z.0 z.1 z.2 marked

pub loop-last-smaller : goal.loop-last-smaller
loop-last-smaller c =
    let t = c.args.self.now in
    let w = t.window in
    let b = w.catalogue.now in
    let p = c.args.part in
    let l = c.loop-last in
    let first : c.first-first.result ≡ first_of b p = omega (arith, c.first-first.ensures) in
    let k = c.block-block.ensures in
    let z = below w.low (first_of b p) (size_of b p) l.last first k.1 c.min-shown.ensures l.invariant.1 (omega (arith, c.loop-last-test.true)) in
    let ends = rw (k.0, k.1) at c.run_end-last.ensures in
    let onward = run_forward b (at_of b p) (size_of b p) (part-sorted b c.is_sound.ensures p) (ids_in t) l.last c.run_end-last.result _ refl z.0 ends (held c) in
    omega (arith, onward, ends.within)

pub loop-last-preserved : goal.loop-last-preserved
loop-last-preserved c =
    let t = c.args.self.now in
    let w = t.window in
    let b = w.catalogue.now in
    let p = c.args.part in
    let l = c.loop-last in
    let first : c.first-first.result ≡ first_of b p = omega (arith, c.first-first.ensures) in
    let k = c.block-block.ensures in
    let z = below w.low (first_of b p) (size_of b p) l.last first k.1 c.min-shown.ensures l.invariant.1 (omega (arith, c.loop-last-test.true)) in
    let ends = rw (k.0, k.1) at c.run_end-last.ensures in (
      ends.within,
      omega (arith, ends.ordered, l.invariant.1),
      λ i f s.
          run_joined b (at_of b p) (size_of b p) (part-sorted b c.is_sound.ensures p) (ids_in t) l.last c.run_end-last.result _ refl z.0 ends (held c)
          i f (l.invariant.2 i f s),
    )
