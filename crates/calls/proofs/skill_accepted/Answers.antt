-- `calls::skill_accepted` meets its contract: refusal 8, the walk, refusal 9, refusal 13, the list of the walk.
use Prim.Native.Nat.{◌+◌, ◌≤◌, ◌<◌}
use native.Mathlib.Omega.{arith}
use Rattle.fit.specs.Fit.{result_count}
use mathlib.Core.Path.{refl, sym, ap, ◌∙◌}
use borrow.Author.Rules.{rules}
use Rattle.numbers.specs.Refusals as Refusals
use Rattle.skill.proofs.Reports.{reported-all}
use Rattle.lists.specs.Terms.{limited, main}
use Rattle.calls.specs.Gave.{lent}
use Rattle.calls.proofs.Giving.{answer_true, answer_false, gave_same, gave_refused}
use Rattle.calls.proofs.Skills.{no_result_lem, has_result, over-many, over-few, over-page, within-page}
use Rattle.calls.proofs.skill_accepted.Goals as goal

pub overflow_add-result_count : goal.overflow_add-result_count
overflow_add-result_count c = omega (arith, c.is_sound.ensures.sized.results, c.result_count.ensures)

pub returns-then-result_count-res : goal.returns-then-result_count-res
returns-then-result_count-res c =
    let a = c.args in
    let None = no_result_lem a.fit.now a.res (omega (arith, c.result_count.ensures, c.if-result_count-res.true)) in
    gave_same (sym (answer_true Refusals.no_result _ _ (omega arith) None)) (gave_refused _ Refusals.no_result refl)

pub returns-in_default : goal.returns-in_default
returns-in_default c =
    let a = c.args in
    let small : a.res ≤ result_count a.fit.now + 1 = omega (arith, c.result_count.ensures, c.if-result_count-res.false) in
    let below : a.res < result_count a.fit.now + 2 = omega (arith, c.result_count.ensures, c.if-result_count-res.false) in
    let many = over-many a.catalogue.now a.fit.now a.res below c.wanted_skills.result c.wanted_skills.ensures (search rules) in
    gave_same
    (sym (answer_false Refusals.no_result _ _ (has_result a.fit.now a.res small) ∙ answer_true Refusals.too_many_skills _ _ (omega arith) many))
    (gave_refused _ Refusals.too_many_skills refl)

pub returns-then-limit-walk : goal.returns-then-limit-walk
returns-then-limit-walk c =
    let a = c.args in
    let small : a.res ≤ result_count a.fit.now + 1 = omega (arith, c.result_count.ensures, c.if-result_count-res.false) in
    let below : a.res < result_count a.fit.now + 2 = omega (arith, c.result_count.ensures, c.if-result_count-res.false) in
    let w = c.in-Ok.walk in
    let few = over-few a.catalogue.now a.fit.now a.res below w c.in-Ok.ensures in
    let over = over-page a.catalogue.now a.fit.now a.res below w c.in-Ok.ensures (limited 0 a.skills main) (omega (arith, c.if-limit-walk.true)) in
    gave_same
    (sym
    (answer_false Refusals.no_result _ _ (has_result a.fit.now a.res small)
    ∙ answer_false Refusals.too_many_skills _ _ few
    ∙ answer_true Refusals.over_limit _ _ (omega arith) over))
    (gave_refused _ Refusals.over_limit refl)

pub skill_list-requires : goal.skill_list-requires
skill_list-requires c = omega (arith, c.result_count.ensures, c.if-result_count-res.false)

pub returns : goal.returns
returns c =
    let a = c.args in
    let small : a.res ≤ result_count a.fit.now + 1 = omega (arith, c.result_count.ensures, c.if-result_count-res.false) in
    let below : a.res < result_count a.fit.now + 2 = omega (arith, c.result_count.ensures, c.if-result_count-res.false) in
    let w = c.in-Ok.walk in
    let few = over-few a.catalogue.now a.fit.now a.res below w c.in-Ok.ensures in
    let on = within-page a.catalogue.now a.fit.now a.res below w c.in-Ok.ensures (limited 0 a.skills main) (omega (arith, c.if-limit-walk.false)) in
    gave_same
    (ap (lent a.out.now) (reported-all a.catalogue.now a.fit.now a.res w c.in-Ok.ensures below)
    ∙ sym
    (answer_false Refusals.no_result _ _ (has_result a.fit.now a.res small)
    ∙ answer_false Refusals.too_many_skills _ _ few
    ∙ answer_false Refusals.over_limit _ _ on))
    c.skill_list.ensures
