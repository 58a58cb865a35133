-- `image::move_up` meets its contract. The invariant: the bytes from i on are moved.
use Prim.Native.Nat.{ℕ, ◌+◌, ◌-◌}
use native.Mathlib.Omega.{arith}
use mathlib.Core.Path.{◌≡◌, sym, ap, ap₂, ◌∙◌}
use mathlib.Core.List.{List}
use lib.ListN.{get_or, set, take, drop}
use Rattle.image.proofs.Puts.{put-before, moved, moved_none, moved_next}
use Rattle.image.proofs.move_up.Goals as goal

pub loop-i-init : goal.loop-i-init
loop-i-init c =
    let a = c.args in
    (sym (moved_none a.b.now a.end a.by), omega arith, omega arith)

pub loop-i-preserved : goal.loop-i-preserved
loop-i-preserved c =
    let l = c.loop-i in
    let b = c.args.b.now in
    let j = l.i - 1 in
    let read = ap (λ (m : List ℕ). get_or m j 0) l.invariant.0 ∙ put-before b (l.i + c.args.by) (take (c.args.end - l.i) (drop l.i b)) j (omega (arith, c.loop-i-test.true)) in (
      ap₂ (λ (m : List ℕ) (v : ℕ). set m (j + c.args.by) v) l.invariant.0 read
          ∙ moved_next b c.args.end c.args.by l.i j (omega (arith, c.loop-i-test.true)) l.invariant.2 (omega (arith, c.requires)),
      omega (arith, c.loop-i-test.true),
      omega (arith, l.invariant.2),
    )

pub returns : goal.returns
returns c =
    let a = c.args in
    let l = c.loop-i in
    let e : l.i ≡ a.at = omega (arith, c.loop-i-test.false, l.invariant.1) in
    l.invariant.0 ∙ ap (moved a.b.now a.end a.by) e
