-- `kept::count` meets its contract: one more at a time.
use Rattle.std.proofs.Common.{◌≡◌, ℕ, ◌+◌, ◌<◌, List, sym, ap, ap₂, ◌∙◌, arith, rules}
use lib.ListN.{take}
use Rattle.parts.specs.Parts.{size}
use Rattle.cause.proofs.Choosing.{size-none, size-end}
use Rattle.cause.proofs.kept.count.Goals as goal

pub overflow_add-count : goal.overflow_add-count
overflow_add-count c = let l = c.loop-i in omega (arith, l.invariant.0, c.one_if.ensures.1, c.loop-i-test.true, c.requires)

pub loop-i-init : goal.loop-i-init
loop-i-init c = (omega arith, sym size-none)

pub loop-i-preserved : goal.loop-i-preserved
loop-i-preserved c =
    let l = c.loop-i in
    let kept = c.args.kept.now in
    let e = c.one_if.ensures in
    let small : l.i < 256 = omega (arith, c.loop-i-test.true, c.requires) in (
      omega (arith, e.1, l.invariant.0),
      ap₂ (λ (m n : ℕ). m + n) l.invariant.1 e.0 ∙ sym (size-end kept l.i (omega (arith, small))),
    )

pub returns : goal.returns
returns c =
    let l = c.loop-i in
    let e : l.i ≡ c.args.n = omega (arith, l.auto, c.loop-i-test.false) in (
      l.invariant.1 ∙ ap (λ (k : ℕ). size (take k c.args.kept.now)) e,
      omega (arith, l.invariant.0, e),
    )
