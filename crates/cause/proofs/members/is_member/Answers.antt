-- `members::is_member` meets its contract, by the rule's number and whom the entry is about.
use Rattle.context.specs.Held.{pair_in, pairs_in, context_in}
use Rattle.cause.specs.Members.{is_member}
use Rattle.cause.proofs.Breaking.{own-there, member-beside, member-none}
use Rattle.cause.proofs.members.is_member.Goals as goal

pub returns-then-shown-eq-SLOTS : goal.returns-then-shown-eq-SLOTS
unfolding is_member
returns-then-shown-eq-SLOTS c = rw c.if-shown-eq-SLOTS.true c.in_slots.ensures

pub returns-in-Some : goal.returns-in-Some
returns-in-Some c =
    let a = c.args in
    let x = a.context.now in
    let s = a.shown in
    let i = c.in-Some.i in
    member-beside (context_in x) (pairs_in x) s.own s.rule s.sub c.if-shown-eq-SLOTS.false (pair_in x i) (pair_in x a.j)
    (own-there x.catalogue.now x.fit.now s.own i c.in-Some.is (c.requires.0 i c.in-Some.is)) c.is_beside.ensures

pub returns-in-None : goal.returns-in-None
returns-in-None c =
    let a = c.args in
    let x = a.context.now in
    let s = a.shown in
    member-none (context_in x) (pairs_in x) s.own s.rule s.sub c.if-shown-eq-SLOTS.false (pair_in x a.j) c.in-None.is
