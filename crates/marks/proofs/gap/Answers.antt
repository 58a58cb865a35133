-- `marks::gap` meets its contract: the places of a word from one on.
use native.Mathlib.Omega.{arith}
use mathlib.Core.Path.{◌∙◌, sym}
use Rattle.marks.proofs.Places.{in_word}
use Rattle.marks.proofs.gap.Goals as goal

pub returns : goal.returns
returns c =
    let a = c.args in
    let e = c.low_zeros.ensures in (
      e.0,
      (λ j h l. sym (in_word a.marks.now a.i j l) ∙ e.1 j h),
      (λ l. sym (in_word a.marks.now a.i c.low_zeros.result l) ∙ e.2 (omega (arith, l))),
    )
