-- `calls::read_list` meets its contract: refusals 1 to 6, 13, 11 and 12 of what it brings, then the list.
use Rattle.std.proofs.Common.{◌≡◌, sym, ap, ◌∙◌, Err, rules}
use Rattle.catalogue.specs.Catalogue.{catalogue_of}
use Rattle.fit.specs.Fit.{fit_of}
use Rattle.lists.specs.Terms.{terms, limited, read_by}
use Rattle.calls.specs.Answers.{input_refusals}
use Rattle.calls.specs.Gave.{lent}
use Rattle.calls.proofs.First.{inputs_sound}
use Rattle.calls.proofs.Giving.{gave_same, gave_first, inputs_past}
use Rattle.calls.proofs.Pages.{limits_unread}
use Rattle.calls.proofs.read_list.Goals as goal

pub returns-in_err-check_inputs : goal.returns-in_err-check_inputs
returns-in_err-check_inputs c =
    let a = c.args in
    let t = read_by a.asked.reader (limited a.pairs 0 (terms a.profile.now a.asked.allowance)) in
    let e : c.from_residual.result ≡ Err c.in_err-check_inputs.field-0.0 = search rules in
    gave_first a.out.now e (input_refusals t a.catalogue.now a.fit.now) c.in_err-check_inputs.ensures _ _

pub new-catalogue-requires : goal.new-catalogue-requires
new-catalogue-requires c =
    let a = c.args in
    let t = read_by a.asked.reader (limited a.pairs 0 (terms a.profile.now a.asked.allowance)) in
    (inputs_sound t a.catalogue.now a.fit.now (sym c.in_ok-check_inputs.ensures)).0

pub new-fit-requires : goal.new-fit-requires
new-fit-requires c =
    let a = c.args in
    let t = read_by a.asked.reader (limited a.pairs 0 (terms a.profile.now a.asked.allowance)) in
    (inputs_sound t a.catalogue.now a.fit.now (sym c.in_ok-check_inputs.ensures)).1

pub new-profile-requires : goal.new-profile-requires
new-profile-requires c =
    let a = c.args in
    let t = read_by a.asked.reader (limited a.pairs 0 (terms a.profile.now a.asked.allowance)) in
    (inputs_sound t a.catalogue.now a.fit.now (sym c.in_ok-check_inputs.ensures)).2

pub returns : goal.returns
returns c =
    let a = c.args in
    let t = read_by a.asked.reader (limited a.pairs 0 (terms a.profile.now a.asked.allowance)) in
    let unread = limits_unread (read_by a.asked.reader (terms a.profile.now a.asked.allowance)) a.pairs 0 (catalogue_of a.catalogue.now) (fit_of a.fit.now) in
    let e = ap (lent a.out.now) unread ∙ sym (inputs_past t a.catalogue.now a.fit.now a.out.now _ (sym c.in_ok-check_inputs.ensures)) in
    gave_same e (rw (c.new-catalogue.ensures, c.new-fit.ensures, c.new-profile.ensures) at c.list_accepted.ensures)
