-- `keys::ascending` meets its contract. The invariant: the verdict so far is that of the first i keys.
use Rattle.std.proofs.Common.{ℕ, ◌*◌, nat_lt, refl, sym, ap₂, arith}
use Rattle.words.proofs.Tables.{order-one}
use Rattle.image.specs.Bytes.{u32_at}
use Rattle.keys.specs.Keys.{biased}
use Rattle.keys.proofs.Orders.{order-turn, order-end}
use Rattle.keys.proofs.ascending.Goals as goal

pub loop-i-init : goal.loop-i-init
loop-i-init c = (omega arith, sym (order-one _ _))

pub loop-i-preserved : goal.loop-i-preserved
loop-i-preserved c =
    let l = c.loop-i in
    let f : ℕ → ℕ = λ j. biased c.args.bias (u32_at c.args.keys.now (4 * j)) in
    let step = ap₂ nat_lt c.biased_at.ensures c.biased_at-in-loop-i.ensures in
    (omega arith, order-turn nat_lt f l.i l.ok _ _ l.auto.i l.invariant.1 step refl)

pub returns : goal.returns
returns c =
    let l = c.loop-i in
    order-end _ _ l.i _ l.ok l.auto.i c.loop-i-test.false l.invariant.0 l.invariant.1
