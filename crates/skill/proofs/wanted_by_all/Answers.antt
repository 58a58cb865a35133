-- `skill::wanted_by_all` meets its contract. The invariant: what the first results ask for is noted.
use native.Mathlib.Omega.{arith}
use mathlib.Core.Path.{refl, sym, ap, ◌∙◌}
use borrow.Author.Rules.{rules}
use Rattle.words.specs.Words.{each}
use Rattle.catalogue.specs.Catalogue.{catalogue_of}
use Rattle.fit.specs.Fit.{fit_of, result_of}
use Rattle.fit.specs.Lookups.{value}
use Rattle.skill.specs.Skill.{noted}
use Rattle.skill.specs.Held.{walk_of, all_demands}
use Rattle.skill.proofs.Notes.{result-noted, first_demands, next-demands, last-demands, all-held}
use Rattle.skill.proofs.wanted_by_all.Goals as goal

pub overflow_add-res-end : goal.overflow_add-res-end
overflow_add-res-end c = omega (arith, c.is_sound.ensures.sized.results, c.result_count-res-end.ensures)

pub loop-res-init : goal.loop-res-init
unfolding noted each
loop-res-init c = c.new-walk.ensures.0

pub loop-res-preserved : goal.loop-res-preserved
loop-res-preserved c =
    let a = c.args in
    let cat = catalogue_of a.catalogue.now in
    let i = c.loop-res.res-counter in
    let r = result_of a.fit.now i in
    let met = first_demands cat (fit_of a.fit.now) i in
    (c.in_ok-note_all.ensures (value r) (λ id v fits gives. search rules)).holds refl
    ∙ result-noted cat r met c.required_of-required.ensures (walk_of c.loop-res.walk) c.loop-res.invariant
    ∙ ap noted (sym (next-demands cat a.fit.now i (omega (arith, c.loop-res-test.true, c.result_count-res-end.ensures))))

pub returns : goal.returns
returns c =
    let a = c.args in
    let cat = catalogue_of a.catalogue.now in
    let n = c.loop-res.res-counter in
    let last = ap noted (last-demands cat a.fit.now n (omega (arith, c.loop-res-test.false, c.result_count-res-end.ensures))) in
    all-held a.catalogue.now a.fit.now c.walk_on.new.walk (c.in_ok-walk_on.ensures (all_demands cat (fit_of a.fit.now)) (c.loop-res.invariant ∙ last))
