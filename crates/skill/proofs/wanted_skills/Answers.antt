-- `skill::wanted_skills` meets its contract: what the result itself asks for is noted, and then what follows from it.
use native.Mathlib.Omega.{arith}
use mathlib.Core.Path.{refl, ap, ◌∙◌}
use lib.ListN.{length}
use borrow.Author.Rules.{rules}
use Rattle.catalogue.specs.Catalogue.{catalogue_of}
use Rattle.fit.specs.Fit.{result_of}
use Rattle.fit.specs.Lookups.{value}
use Rattle.skill.specs.Skill.{of_result, noted}
use Rattle.skill.specs.Held.{walk_of}
use Rattle.skill.proofs.Walks.{met-first}
use Rattle.skill.proofs.Notes.{walk_first, walked-full, wanted-held, wanted-full}
use Rattle.skill.proofs.wanted_skills.Goals as goal

pub returns-in_err-note_all : goal.returns-in_err-note_all
returns-in_err-note_all c =
    let a = c.args in
    let cat = catalogue_of a.catalogue.now in
    let r = result_of a.fit.now a.res in
    let over = (c.in_err-note_all.ensures (value r) (λ id v fits gives. search rules)).full refl in
    let first = walk_first cat r c.required_of-required.ensures (walk_of c.new-walk.result) c.new-walk.ensures.0 in
    wanted-full a.catalogue.now a.fit.now a.res c.new-walk.result _ c.from_residual.result c.from_residual.ensures.0
    (walked-full cat (of_result cat r) 0 (omega arith) _ _ refl (omega (arith, over, ap length (first ∙ ap noted (met-first cat (of_result cat r))))))

pub returns-in_err-walk_on : goal.returns-in_err-walk_on
returns-in_err-walk_on c =
    let a = c.args in
    let cat = catalogue_of a.catalogue.now in
    let r = result_of a.fit.now a.res in
    let first = (c.in_ok-note_all.ensures (value r) (λ id v fits gives. search rules)).holds refl
    ∙ walk_first cat r c.required_of-required.ensures (walk_of c.new-walk.result) c.new-walk.ensures.0 in
    wanted-full a.catalogue.now a.fit.now a.res c.walk_on.new.walk _ c.from_residual-in_err-walk_on.result c.from_residual-in_err-walk_on.ensures.0
    (c.in_err-walk_on.ensures (of_result cat r) first)

pub returns : goal.returns
returns c =
    let a = c.args in
    let cat = catalogue_of a.catalogue.now in
    let r = result_of a.fit.now a.res in
    let first = (c.in_ok-note_all.ensures (value r) (λ id v fits gives. search rules)).holds refl
    ∙ walk_first cat r c.required_of-required.ensures (walk_of c.new-walk.result) c.new-walk.ensures.0 in
    wanted-held a.catalogue.now a.fit.now a.res c.walk_on.new.walk (c.in_ok-walk_on.ensures (of_result cat r) first)
