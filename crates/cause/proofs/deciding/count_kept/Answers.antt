-- `deciding::count_kept` meets its contract: one more at a time.
use Rattle.std.proofs.Common.{◌≡◌, ℕ, ◌+◌, ◌<◌, cond, List, false, refl, sym, ap, ap₂, ◌∙◌, arith}
use lib.ListN.{take, get_or}
use Rattle.parts.specs.Parts.{chosen, size}
use Rattle.cause.proofs.Choosing.{chosen-none, chosen-both, size-none, size-with}
use Rattle.cause.proofs.deciding.count_kept.Goals as goal

pub overflow_add-sum : goal.overflow_add-sum
overflow_add-sum c = let l = c.loop-i in omega (arith, l.invariant.0, c.one_if-sum.ensures.1, c.loop-i-test.true, c.requires)

pub loop-i-init : goal.loop-i-init
loop-i-init c = (omega arith, sym (ap size (chosen-none c.args.kept.now (take 0 c.args.members.now)) ∙ size-none))

pub loop-i-preserved : goal.loop-i-preserved
loop-i-preserved c =
    let l = c.loop-i in
    let kept = c.args.kept.now in
    let members = c.args.members.now in
    let e = c.one_if-sum.ensures in
    let small : l.i < 256 = omega (arith, c.loop-i-test.true, c.requires) in (
      omega (arith, e.1, l.invariant.0),
      ap₂ (λ (m n : ℕ). m + n) l.invariant.1 e.0
          ∙ sym (ap size (chosen-both kept members false l.i (omega (arith, small)) (omega (arith, small)))
          ∙ size-with (chosen (take l.i kept) (take l.i members)) (get_or kept l.i false) (get_or members l.i false)),
    )

pub returns : goal.returns
returns c =
    let l = c.loop-i in
    let e : l.i ≡ c.args.n = omega (arith, l.auto, c.loop-i-test.false) in
    l.invariant.1 ∙ ap (λ (k : ℕ). size (chosen (take k c.args.kept.now) (take k c.args.members.now))) e
