-- `fitcheck::answer_list` meets its contract: refusal 19, then the list of a reader that there is.
use Rattle.std.proofs.Common.{◌≡◌, refl, sym, ap, ◌∙◌, Err, rules}
use borrow.Author.Tests.{lt-ltb}
use Rattle.numbers.specs.Refusals as Refusals
use Rattle.numbers.specs.Readers as Readers
use Rattle.lists.specs.Terms.{terms, limited, read_by}
use Rattle.calls.specs.Gave.{Gave, word_of}
use Rattle.calls.proofs.Giving.{gave_same, gave_refused}
use Rattle.fitcheck.specs.Calls.{list_call}
use Rattle.fitcheck.proofs.Reading.{somebody, list_nobody, list_read}
use Rattle.fitcheck.proofs.answer_list.Goals as goal

pub returns-in_err-try_from : goal.returns-in_err-try_from
returns-in_err-try_from c =
    let a = c.args in
    let t = read_by a.reader (limited a.pairs 0 (terms a.profile.now a.allowance)) in
    let h = c.in_err-try_from.ensures in
    let e : c.from_residual.result ≡ Err c.in_err-try_from.field-0.0 = search rules in
    let nobody = lt-ltb Readers.officer a.reader h.0 in
    gave_same (sym (list_nobody t a.catalogue.now a.fit.now a.out.now nobody)) (gave_refused a.out.now Refusals.no_reader (ap word_of (e ∙ ap (λ x. Err x) h.1)))

pub returns : goal.returns
returns c =
    let a = c.args in
    let t = read_by a.reader (limited a.pairs 0 (terms a.profile.now a.allowance)) in
    let known = somebody t c.in_ok-try_from.field-0 c.in_ok-try_from.ensures refl in
    gave_same (sym (list_read t a.catalogue.now a.fit.now a.out.now known)) c.read_list.ensures
