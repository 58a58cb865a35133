-- `fitcheck::answer_hall` meets its contract: refusals 1 to 3 of the catalogue, then 4 of the input, then the numbers.
use Rattle.std.proofs.Common.{◌≡◌, ℕ, ◌*◌, sym, ap, ◌∙◌, Err, rules, arith}
use Rattle.numbers.specs.Sizes as Sizes
use Rattle.numbers.proofs.Refused.{some-number}
use Rattle.catalogue.proofs.Sound.{accepted-sound}
use Rattle.calls.specs.Gave.{word_of}
use Rattle.fitcheck.proofs.HallLaws.{laid, hall_unread, hall_bad, hall_counted}
use Rattle.fitcheck.proofs.answer_hall.Goals as goal

pub returns-in_err-check : goal.returns-in_err-check
returns-in_err-check c =
    let a = c.args in
    let x = c.in_err-check.field-0.0 in
    let told = c.in_err-check.ensures in
    let e : c.from_residual.result ≡ Err x = search rules in
    ap word_of e ∙ ap (λ (k : ℕ). k * Sizes.word) told ∙ sym (hall_unread a.catalogue.now a.input.now (omega (arith, told, some-number x)))

pub returns-then-bad_input : goal.returns-then-bad_input
returns-then-bad_input c =
    let a = c.args in
    sym (hall_bad a.catalogue.now a.input.now (sym c.in_ok-check.ensures) (sym c.bad_input.ensures ∙ c.if-bad_input.true))

pub word-requires : goal.word-requires
word-requires c = laid _ (sym c.bad_input.ensures ∙ c.if-bad_input.false)

pub new-catalogue-requires : goal.new-catalogue-requires
new-catalogue-requires c = accepted-sound _ (sym c.in_ok-check.ensures)

pub returns : goal.returns
returns c =
    let a = c.args in
    (rw c.new-catalogue.ensures at c.word.ensures) ∙ sym (hall_counted a.catalogue.now a.input.now (sym c.in_ok-check.ensures) (sym c.bad_input.ensures ∙ c.if-bad_input.false))
