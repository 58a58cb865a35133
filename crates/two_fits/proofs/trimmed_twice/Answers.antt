-- `two_fits::trimmed_twice` meets its contract: that of both trims, and the promise on the second.
use Prim.Native.Nat.{ℕ}
use mathlib.Core.Path.{ap, ◌∙◌}
use mathlib.Core.List.{List}
use Rattle.fitcheck.specs.Trim.{trim_call}
use Rattle.promises.specs.Trims.{trim_outcome}
use Rattle.two_fits.proofs.Trims.{trim_is, kept-written, same-written}
use Rattle.two_fits.proofs.trimmed_twice.Goals as goal

pub returns : goal.returns
returns c =
    let a = c.args in
    let catalogue = a.catalogue.now in
    let fit = a.fit.now in
    let kept = c.written-kept.result.now in
    let part = c.written-kept.ensures in
    let is = trim_is a.out.now (trim_call catalogue fit a.out.now) c.fit_trim-first.ensures in
    let e = trim_is a.again.now (trim_call kept fit a.again.now) c.fit_trim-second.ensures in (
      is,
      λ answered. (
        ap (λ (x : List ℕ). trim_outcome x fit a.again.now) (kept-written catalogue fit a.out.now is part answered) ∙ e,
        λ room. same-written catalogue fit a.out.now is part answered a.again.now room c.fit_trim-second.ensures,
      ),
    )
