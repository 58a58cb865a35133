-- `calls::check_images` meets its contract: the catalogue's refusals come first.
use Rattle.std.proofs.Common.{◌≡◌, sym, ap, ◌∙◌, Err, rules}
use Rattle.numbers.specs.Refused.{number_of}
use Rattle.catalogue.specs.Refusals.{catalogue_refusals, catalogue_refusal}
use Rattle.fit.specs.Refusals.{fit_refusals}
use Rattle.calls.proofs.First.{fit-first}
use Rattle.calls.proofs.Results.{stays}
use Rattle.calls.proofs.check_images.Goals as goal

pub returns-in_err-check : goal.returns-in_err-check
unfolding catalogue_refusal
returns-in_err-check c =
    let e : c.from_residual.result ≡ Err c.in_err-check.field-0.0 = search rules in
    ap number_of e ∙ stays _ (catalogue_refusals c.args.catalogue.now) c.in_err-check.ensures (fit_refusals c.args.fit.now)

pub returns : goal.returns
returns c = c.check-2.ensures ∙ fit-first c.args.catalogue.now c.args.fit.now (sym c.in_ok-check.ensures)
