-- `fitcheck::fit_list` meets its contract: the word of the answer, which no limit of skills changes.
use Rattle.std.proofs.Common.{◌∙◌}
use Rattle.lists.specs.Terms.{terms, read_by}
use Rattle.calls.proofs.Giving.{gave_same}
use Rattle.fitcheck.proofs.Reading.{skills_unread}
use Rattle.fitcheck.proofs.fit_list.Goals as goal

pub returns : goal.returns
returns c =
    let a = c.args in
    let t = read_by a.reader (terms a.profile.now a.allowance) in
    let g = gave_same (skills_unread t a.pairs 0 a.skills a.catalogue.now a.fit.now a.out.now) c.answer_list.ensures in
    (c.word.ensures ∙ g.word, g.buffer)
