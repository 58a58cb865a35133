-- `calls::check_page` meets its contract: the images' refusals come first, then the limit of pairs.
use Rattle.std.proofs.Common.{◌≡◌, true, false, sym, ap, ◌∙◌, Err, rules, arith}
use Rattle.numbers.specs.Refused.{number_of}
use Rattle.lists.specs.Terms.{limited, main}
use Rattle.calls.specs.Answers.{image_refusals}
use Rattle.calls.proofs.First.{images_sound, limit-first}
use Rattle.calls.proofs.Results.{stays}
use Rattle.calls.proofs.Pages.{over-pairs, pairs-within}
use Rattle.calls.proofs.check_page.Goals as goal

pub returns-in_err-check_images : goal.returns-in_err-check_images
returns-in_err-check_images c =
    let e : c.from_residual.result ≡ Err c.in_err-check_images.field-0.0 = search rules in
    ap number_of e ∙ stays _ (image_refusals c.args.catalogue.now c.args.fit.now) c.in_err-check_images.ensures _

pub new-requires : goal.new-requires
new-requires c = (images_sound c.args.catalogue.now c.args.fit.now (sym c.in_ok-check_images.ensures)).1.sized

pub returns-then-limit-pairs : goal.returns-then-limit-pairs
returns-then-limit-pairs c =
    let a = c.args in
    let t = limited a.limit 0 main in
    let over = over-pairs t a.catalogue.now a.fit.now (omega (arith, rw c.new.ensures at c.pairs.ensures, c.if-limit-pairs.true)) in
    sym (limit-first t a.catalogue.now a.fit.now (sym c.in_ok-check_images.ensures) true over)

pub returns : goal.returns
returns c =
    let a = c.args in
    let t = limited a.limit 0 main in
    let past = sym c.in_ok-check_images.ensures in
    let sound = (images_sound a.catalogue.now a.fit.now past).1 in
    let within = pairs-within t a.catalogue.now a.fit.now sound (omega (arith, rw c.new.ensures at c.pairs.ensures, c.if-limit-pairs.false)) in
    sym (limit-first t a.catalogue.now a.fit.now past false within)
