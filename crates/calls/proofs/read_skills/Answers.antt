-- `calls::read_skills` meets its contract: refusals 1 to 6 of the images and 13 of their pairs, then the walk's list.
use Rattle.std.proofs.Common.{◌≡◌, sym, Err, rules}
use Rattle.lists.specs.Terms.{limited, main}
use Rattle.calls.specs.Answers.{page_refusals}
use Rattle.calls.proofs.First.{page_sound}
use Rattle.calls.proofs.Giving.{gave_same, gave_first}
use Rattle.calls.proofs.Skills.{page_past}
use Rattle.calls.proofs.read_skills.Goals as goal

pub returns-in_err-check_page : goal.returns-in_err-check_page
returns-in_err-check_page c =
    let a = c.args in
    let t = limited a.pairs a.skills main in
    let e : c.from_residual.result ≡ Err c.in_err-check_page.field-0.0 = search rules in
    gave_first a.out.now e (page_refusals t a.catalogue.now a.fit.now) c.in_err-check_page.ensures _ _

pub new-catalogue-requires : goal.new-catalogue-requires
new-catalogue-requires c =
    let a = c.args in
    (page_sound (limited a.pairs a.skills main) a.catalogue.now a.fit.now (sym c.in_ok-check_page.ensures)).0

pub new-fit-requires : goal.new-fit-requires
new-fit-requires c =
    let a = c.args in
    (page_sound (limited a.pairs a.skills main) a.catalogue.now a.fit.now (sym c.in_ok-check_page.ensures)).1

pub returns : goal.returns
returns c =
    let a = c.args in
    let t = limited a.pairs a.skills main in
    gave_same (sym (page_past t a.catalogue.now a.fit.now a.res a.out.now (sym c.in_ok-check_page.ensures)))
    (rw (c.new-catalogue.ensures, c.new-fit.ensures) at c.skill_accepted.ensures)
