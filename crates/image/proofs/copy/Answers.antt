-- `image::copy` meets its contract. The invariant: the first i bytes are stored.
use Prim.Native.Nat.{ℕ, ◌+◌}
use native.Mathlib.Omega.{arith}
use mathlib.Core.Path.{refl, ap, ◌∙◌}
use mathlib.Core.List.{List}
use lib.ListN.{get_or, set, length-set}
use lib.Seq.{take_all}
use Rattle.image.specs.Bytes.{put}
use Rattle.image.proofs.Stores.{put_next}
use Rattle.image.proofs.copy.Goals as goal

pub loop-i-init : goal.loop-i-init
loop-i-init c = (refl, omega arith, refl)

pub loop-i-preserved : goal.loop-i-preserved
loop-i-preserved c =
    let a = c.args in
    let l = c.loop-i in (
      ap (λ (m : List ℕ). set m (a.at + l.i) (get_or a.from.now l.i 0)) l.invariant.0
          ∙ put_next a.out.now a.at a.from.now l.i (omega (arith, c.loop-i-test.true)),
      omega (arith, c.loop-i-test.true),
      length-set l.out (a.at + l.i) _ ∙ l.invariant.2,
    )

pub returns : goal.returns
returns c =
    let a = c.args in
    let l = c.loop-i in
    l.invariant.0 ∙ ap (put a.out.now a.at) (take_all l.i a.from.now (omega (arith, c.loop-i-test.false)))
