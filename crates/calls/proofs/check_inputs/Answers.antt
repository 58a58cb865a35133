-- `calls::check_inputs` meets its contract: the refusals of the images on their page come first.
use Rattle.std.proofs.Common.{◌≡◌, sym, ap, ◌∙◌, Err, rules}
use Rattle.numbers.specs.Refused.{number_of}
use Rattle.lists.specs.Terms.{terms, limited}
use Rattle.calls.specs.Answers.{page_refusals}
use Rattle.calls.proofs.First.{profile-first}
use Rattle.calls.proofs.Results.{stays}
use Rattle.calls.proofs.check_inputs.Goals as goal

pub returns-in_err-check_page : goal.returns-in_err-check_page
returns-in_err-check_page c =
    let a = c.args in
    let t = limited a.limit 0 (terms a.profile.now 0) in
    let e : c.from_residual.result ≡ Err c.in_err-check_page.field-0.0 = search rules in
    ap number_of e ∙ stays _ (page_refusals t a.catalogue.now a.fit.now) c.in_err-check_page.ensures _

pub returns : goal.returns
returns c =
    let a = c.args in
    let t = limited a.limit 0 (terms a.profile.now 0) in
    c.check.ensures ∙ profile-first t a.catalogue.now a.fit.now (sym c.in_ok-check_page.ensures)
