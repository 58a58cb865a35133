-- `fitcheck::answer_skill` meets its contract: refusals 19 and 20, then the call of a pilot or an officer.
use Rattle.std.proofs.Common.{ℕ, ◌≡◌, refl, sym, ap, ◌∙◌, eqb, Err, rules}
use borrow.Author.Tests.{lt-ltb, eq-eqb}
use Rattle.numbers.specs.Refusals as Refusals
use Rattle.numbers.specs.Readers as Readers
use Rattle.numbers.specs.Reading.{reader_number}
use Rattle.lists.specs.Terms.{limited, read_by, main}
use Rattle.calls.specs.Gave.{word_of}
use Rattle.calls.proofs.Giving.{gave_same, gave_refused}
use Rattle.fitcheck.proofs.Reading.{somebody, no_guest, skill-nobody, skill-guest, skill-read}
use Rattle.fitcheck.proofs.answer_skill.Goals as goal

pub returns-in_err-try_from : goal.returns-in_err-try_from
returns-in_err-try_from c =
    let a = c.args in
    let t = read_by a.reader (limited a.pairs a.skills main) in
    let h = c.in_err-try_from.ensures in
    let e : c.from_residual.result ≡ Err c.in_err-try_from.field-0.0 = search rules in
    let nobody = lt-ltb Readers.officer a.reader h.0 in
    gave_same (sym (skill-nobody t a.catalogue.now a.fit.now a.res a.out.now nobody)) (gave_refused a.out.now Refusals.no_reader (ap word_of (e ∙ ap (λ x. Err x) h.1)))

pub returns-in-Guest : goal.returns-in-Guest
returns-in-Guest c =
    let a = c.args in
    let t = read_by a.reader (limited a.pairs a.skills main) in
    let r = c.in_ok-try_from in
    let known = somebody t r.field-0 r.ensures refl in
    let guest = eq-eqb a.reader Readers.guest (sym r.ensures ∙ ap reader_number c.in-Guest.is) in
    gave_same (sym (skill-guest t a.catalogue.now a.fit.now a.res a.out.now known guest)) (gave_refused a.out.now Refusals.not_for_guests refl)

pub returns-in-Pilot : goal.returns-in-Pilot
returns-in-Pilot c =
    let a = c.args in
    let t = read_by a.reader (limited a.pairs a.skills main) in
    let r = c.in_ok-try_from in
    let known = somebody t r.field-0 r.ensures refl in
    let other = ap (λ (n : ℕ). eqb n Readers.guest) (sym r.ensures) ∙ no_guest c.in-Pilot.is in
    gave_same (sym (skill-read t a.catalogue.now a.fit.now a.res a.out.now known other)) c.read_skills.ensures
