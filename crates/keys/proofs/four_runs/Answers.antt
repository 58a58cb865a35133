-- `keys::four_runs` meets its contract. The invariant: a fall was noted where the first i keys of some run are in no order.
use Rattle.std.proofs.Common.{◌≡◌, ℕ, ◌+◌, ◌*◌, nat_le, refl, ◌∙◌, arith}
use Rattle.image.specs.Bytes.{u32_at}
use Rattle.keys.specs.Keys.{sign, biased}
use Rattle.keys.proofs.Orders.{runs_one, runs_turn, runs_all}
use Rattle.keys.proofs.four_runs.Goals as goal

pub loop-i-init : goal.loop-i-init
loop-i-init c = runs_one nat_le _ _

pub loop-i-preserved : goal.loop-i-preserved
loop-i-preserved c =
    let l = c.loop-i in
    let a = c.args in
    let f : ℕ → ℕ = λ j. biased sign (u32_at a.keys.now (4 * j)) in
    runs_turn nat_le f a.h l.i l.fall l.auto.i l.invariant c.falls.ensures c.falls-in-loop-i.ensures
    c.falls-in-loop-i-2.ensures c.falls-in-loop-i-3.ensures refl

pub returns : goal.returns
returns c =
    let l = c.loop-i in
    let a = c.args in
    let end : l.i ≡ a.h + 1 = omega (arith, l.auto, c.loop-i-test.false) in
    l.invariant ∙ runs_all nat_le (λ j. biased sign (u32_at a.keys.now (4 * j))) a.h l.i end
