-- `two_fits::trimmed_skills` meets its contract: those of the trim and of the two skill calls, and the promise that they answer the same.
use Prim.Native.Nat.{ℕ}
use mathlib.Core.Path.{sym, ap, ◌∙◌}
use mathlib.Core.List.{List}
use Rattle.lists.specs.Terms.{limited, read_by, main}
use Rattle.fitcheck.specs.Calls.{skill_call}
use Rattle.fitcheck.specs.Trim.{trim_call}
use Rattle.promises.specs.Answers.{outcome}
use Rattle.two_fits.proofs.Left.{left_is}
use Rattle.two_fits.proofs.Trims.{trim_is, kept-written, skills-trimmed}
use Rattle.two_fits.proofs.trimmed_skills.Goals as goal

pub returns : goal.returns
returns c =
    let a = c.args in
    let catalogue = a.catalogue.now in
    let fit = a.fit.now in
    let by = limited a.page.pairs a.page.skills (read_by a.reader main) in
    let kept = c.written-kept.result.now in
    let part = c.written-kept.ensures in
    let is = trim_is a.out.now (trim_call catalogue fit a.out.now) c.fit_trim-trim.ensures in
    let e = left_is a.before.now (skill_call by catalogue fit a.res a.before.now) c.fit_skill-whole.ensures in
    let e' = left_is a.after.now (skill_call by kept fit a.res a.after.now) c.fit_skill-small.ensures in
    let same = skills-trimmed catalogue fit a.out.now is part in (
      is,
      (
        e,
        λ answered. (
          ap (λ (x : List ℕ). outcome a.after.now (skill_call by x fit a.res a.after.now))
              (kept-written catalogue fit a.out.now is part answered) ∙ e',
          λ held. sym e ∙ same answered by a.res a.before.now a.after.now held ∙ e',
        ),
      ),
    )
