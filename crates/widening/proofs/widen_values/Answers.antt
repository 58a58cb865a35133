-- `widening::widen_values` meets its contract. The invariant: the first i values are stored.
use Rattle.std.proofs.Common.{ℕ, List, ◌≡◌, ◌+◌, ◌*◌, ap, ◌∙◌, arith}
use Rattle.image.specs.Bytes.{put}
use Rattle.widening.specs.Widen.{wide_value, wide_values}
use Rattle.widening.proofs.Bytes.{put-no_values, put-value}
use Rattle.widening.proofs.widen_values.Goals as goal

pub loop-i-init : goal.loop-i-init
loop-i-init c = put-no_values c.args.old.now c.args.out.now c.args.at

pub loop-i-preserved : goal.loop-i-preserved
loop-i-preserved c =
    let l = c.loop-i in
    let a = c.args in
    c.widen_value.ensures
    ∙ ap (λ (m : List ℕ). put m (a.at + 12 * l.i) (wide_value a.old.now (a.at + 8 * l.i))) l.invariant
    ∙ put-value a.old.now a.out.now a.at l.i c.requires.0 (omega (arith, c.requires.1))

pub returns : goal.returns
returns c =
    let l = c.loop-i in
    let a = c.args in
    let e : l.i ≡ a.n = omega arith in
    l.invariant ∙ ap (λ (k : ℕ). put a.out.now a.at (wide_values a.old.now k)) e
