-- `training::move_down` meets its contract. The invariant: the bytes before i are moved.
use Prim.Native.Nat.{ℕ, ◌-◌, ◌<◌}
use native.Mathlib.Omega.{arith}
use mathlib.Core.Path.{◌≡◌, sym, ap, ap₂, ◌∙◌}
use mathlib.Core.List.{List}
use lib.ListN.{length, get_or, set}
use Rattle.training.proofs.Opening.{lowered, lowered_none, lowered_read, lowered_next}
use Rattle.training.proofs.move_down.Goals as goal

pub loop-i-init : goal.loop-i-init
loop-i-init c =
    let a = c.args in
    (sym (lowered_none a.b.now a.at a.by), omega arith, omega arith)

pub loop-i-preserved : goal.loop-i-preserved
loop-i-preserved c =
    let l = c.loop-i in
    let a = c.args in
    let b = a.b.now in
    let test = c.loop-i-test.true in
    let inside : l.i < length b = omega (arith, test, c.requires) in
    let read = ap (λ (m : List ℕ). get_or m l.i 0) l.invariant.0 ∙ lowered_read b a.at a.by l.i c.requires.0 l.invariant.1 (omega (arith, inside)) in (
      ap₂ (λ (m : List ℕ) (v : ℕ). set m (l.i - a.by) v) l.invariant.0 read ∙ lowered_next b a.at a.by l.i c.requires.0 l.invariant.1 inside,
      omega (arith, l.invariant.1),
      omega (arith, test),
    )

pub returns : goal.returns
returns c =
    let a = c.args in
    let l = c.loop-i in
    let e : l.i ≡ a.end = omega (arith, c.loop-i-test.false, l.invariant.2) in
    l.invariant.0 ∙ ap (lowered a.b.now a.at a.by) e
