-- `deciding::drones_kept` meets its contract: one more at a time.
use Rattle.std.proofs.Common.{◌≡◌, ℕ, ◌+◌, ◌<◌, List, false, sym, ap, ap₂, ◌∙◌, arith}
use lib.ListN.{take, get_or}
use Rattle.parts.specs.Parts.{chosen}
use Rattle.cause.specs.Decided.{total}
use Rattle.cause.proofs.Choosing.{chosen-none, chosen-both, total-none, total-with}
use Rattle.cause.proofs.deciding.drones_kept.Goals as goal

pub overflow_add-sum : goal.overflow_add-sum
overflow_add-sum c = let l = c.loop-i in omega (arith, l.invariant.0, c.share-sum.ensures.1, c.loop-i-test.true, c.requires)

pub loop-i-init : goal.loop-i-init
loop-i-init c = (omega arith, sym (ap total (chosen-none c.args.kept.now (take 0 c.args.stacks.now)) ∙ total-none))

pub loop-i-preserved : goal.loop-i-preserved
loop-i-preserved c =
    let l = c.loop-i in
    let kept = c.args.kept.now in
    let stacks = c.args.stacks.now in
    let e = c.share-sum.ensures in
    let small : l.i < 256 = omega (arith, c.loop-i-test.true, c.requires) in (
      omega (arith, e.1, l.invariant.0),
      ap₂ (λ (m n : ℕ). m + n) l.invariant.1 e.0
          ∙ sym (ap total (chosen-both kept stacks 0 l.i (omega (arith, small)) (omega (arith, small)))
          ∙ total-with (chosen (take l.i kept) (take l.i stacks)) (get_or kept l.i false) (get_or stacks l.i 0)),
    )

pub returns : goal.returns
returns c =
    let l = c.loop-i in
    let e : l.i ≡ c.args.n = omega (arith, l.auto, c.loop-i-test.false) in
    l.invariant.1 ∙ ap (λ (k : ℕ). total (chosen (take k c.args.kept.now) (take k c.args.stacks.now))) e
