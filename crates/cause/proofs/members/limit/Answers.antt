-- `members::limit` meets its contract, by the rule's number and whom the entry is about.
use Rattle.context.specs.Held.{pair_in, pairs_in, context_in}
use Rattle.cause.specs.Members.{limit}
use Rattle.cause.proofs.Breaking.{own-there, limit-beside, limit-none}
use Rattle.cause.proofs.members.limit.Goals as goal

pub returns-then-shown-eq-SLOTS : goal.returns-then-shown-eq-SLOTS
unfolding limit
returns-then-shown-eq-SLOTS c = rw c.if-shown-eq-SLOTS.true c.slots_allowed.ensures

pub returns-in-Some : goal.returns-in-Some
returns-in-Some c =
    let a = c.args in
    let x = a.context.now in
    let s = a.shown in
    let i = c.in-Some.i in
    limit-beside (context_in x) (pairs_in x) s.own s.rule s.sub c.if-shown-eq-SLOTS.false (pair_in x i)
    (own-there x.catalogue.now x.fit.now s.own i c.in-Some.is (c.requires i c.in-Some.is)) c.allowed_beside.ensures

pub returns-in-None : goal.returns-in-None
returns-in-None c =
    let a = c.args in
    let x = a.context.now in
    let s = a.shown in
    limit-none (context_in x) (pairs_in x) s.own s.rule s.sub c.if-shown-eq-SLOTS.false c.in-None.is
