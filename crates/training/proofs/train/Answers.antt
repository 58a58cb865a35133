-- `training::train` meets its contract: refusal 8, the walk, refusal 9, refusal 16, and the fit that the turns lead to.
use Rattle.std.proofs.Common.{◌+◌, ◌<◌, ◌≤◌, refl, sym, ap, ◌∙◌, arith}
use borrow.Author.Rules.{rules}
use Rattle.numbers.specs.Refusals as Refusals
use Rattle.catalogue.specs.Catalogue.{catalogue_of}
use Rattle.fit.specs.Fit.{fit_of, result_count}
use Rattle.calls.specs.Output.{output, room_refusals}
use Rattle.calls.proofs.Outputs.{bytes_same, bytes-refused}
use Rattle.calls.proofs.Skills.{no_result_lem, has_result, over-many, over-few}
use Rattle.training.specs.Training.{Training, trained_image}
use Rattle.training.proofs.Calling.{trained-by_turns, listed-count, train-8, train-9, train-16, train-past}
use Rattle.training.proofs.train.Goals as goal

pub returns-then-result_count-res : goal.returns-then-result_count-res
returns-then-result_count-res c =
    let a = c.args in
    let none = no_result_lem a.fit.now a.res (omega (arith, c.result_count.ensures, c.if-result_count-res.true)) in
    bytes_same (sym (train-8 (catalogue_of a.catalogue.now) (fit_of a.fit.now) a.res _ _ none)) (bytes-refused _ Refusals.no_result refl)

pub returns-in_default : goal.returns-in_default
returns-in_default c =
    let a = c.args in
    let small : a.res ≤ result_count a.fit.now + 1 = omega (arith, c.result_count.ensures, c.if-result_count-res.false) in
    let many = over-many a.catalogue.now a.fit.now a.res (omega (arith, small)) c.wanted_skills.result c.wanted_skills.ensures (search rules) in
    bytes_same (sym (train-9 (catalogue_of a.catalogue.now) (fit_of a.fit.now) a.res _ _ (has_result a.fit.now a.res small) many)) (bytes-refused _ Refusals.too_many_skills refl)

pub returns-then-too_many_listed : goal.returns-then-too_many_listed
returns-then-too_many_listed c =
    let a = c.args in
    let w = c.in-Ok.walk in
    let small : a.res ≤ result_count a.fit.now + 1 = omega (arith, c.result_count.ensures, c.if-result_count-res.false) in
    let below : a.res < result_count a.fit.now + 2 = omega (arith, small) in
    let few = over-few a.catalogue.now a.fit.now a.res below w c.in-Ok.ensures in
    let many = listed-count a.catalogue.now a.fit.now a.res w c.in-Ok.ensures below ∙ sym c.too_many_listed.ensures ∙ c.if-too_many_listed.true in
    bytes_same
    (sym (train-16 (catalogue_of a.catalogue.now) (fit_of a.fit.now) a.res _ _ (has_result a.fit.now a.res small) few many))
    (bytes-refused _ Refusals.too_many_listed refl)

pub returns : goal.returns
returns c =
    let a = c.args in
    let w = c.in-Ok.walk in
    let small : a.res ≤ result_count a.fit.now + 1 = omega (arith, c.result_count.ensures, c.if-result_count-res.false) in
    let below : a.res < result_count a.fit.now + 2 = omega (arith, small) in
    let few = over-few a.catalogue.now a.fit.now a.res below w c.in-Ok.ensures in
    let room = listed-count a.catalogue.now a.fit.now a.res w c.in-Ok.ensures below ∙ sym c.too_many_listed.ensures ∙ c.if-too_many_listed.false in
    let led = trained-by_turns a.catalogue.now a.fit.now a.res w c.in-Ok.ensures below c.is_sound.ensures a.steps in
    bytes_same
    (ap (λ (x : Training). let bs = trained_image a.fit.now x in output (room_refusals a.out.now bs) bs) led
    ∙ sym (train-past (catalogue_of a.catalogue.now) (fit_of a.fit.now) a.res _ _ (has_result a.fit.now a.res small) few room))
    c.train_listed.ensures
