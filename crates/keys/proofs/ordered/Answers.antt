-- `keys::ordered` meets its contract: four runs, then one by one. The invariant: the verdict so far is that of the first i keys.
use Rattle.std.proofs.Common.{◌≡◌, ℕ, ◌*◌, ◌/◌, length, nat_le, sym, ap, ◌∙◌, arith}
use Rattle.words.specs.Words.{table, in_order}
use Rattle.words.proofs.Tables.{order-none}
use Rattle.image.specs.Bytes.{u32_at}
use Rattle.keys.specs.Keys.{sign, biased}
use Rattle.keys.proofs.Orders.{step_turn}
use Rattle.keys.proofs.ordered.Goals as goal

pub returns-then-n-eq0 : goal.returns-then-n-eq0
returns-then-n-eq0 c =
    let a = c.args in
    let f : ℕ → ℕ = λ j. biased sign (u32_at a.keys.now (4 * j)) in
    let none : length a.keys.now / 4 ≡ 0 = omega (arith, c.if-n-eq0.true) in
    sym (ap (λ (k : ℕ). in_order nat_le (table k f)) none ∙ order-none nat_le f)

pub loop-i-init : goal.loop-i-init
loop-i-init c = c.four_runs-ok.ensures

pub loop-i-preserved : goal.loop-i-preserved
loop-i-preserved c =
    let l = c.loop-i in
    let f : ℕ → ℕ = λ j. biased sign (u32_at c.args.keys.now (4 * j)) in
    step_turn nat_le f l.i l.ok _ (omega (arith, l.auto)) l.invariant c.falls.ensures

pub returns : goal.returns
returns c =
    let l = c.loop-i in
    let a = c.args in
    let f : ℕ → ℕ = λ j. biased sign (u32_at a.keys.now (4 * j)) in
    let end : l.i ≡ length a.keys.now / 4 = omega (arith, l.auto, c.loop-i-test.false) in
    l.invariant ∙ ap (λ (k : ℕ). in_order nat_le (table k f)) end
