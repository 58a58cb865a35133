-- `members::allowed_beside` meets its contract, by the rule's number.
use Rattle.std.proofs.Common.{arith}
use Rattle.context.specs.Held.{pair_in, context_in}
use Rattle.cause.specs.Members.{allowed_beside}
use Rattle.cause.proofs.Breaking.{allowed-other}
use Rattle.cause.proofs.members.allowed_beside.Goals as goal

pub returns-in-17 : goal.returns-in-17
unfolding allowed_beside
returns-in-17 c = rw c.in-17.is c.group_allowed.ensures

pub returns-in-18 : goal.returns-in-18
unfolding allowed_beside
returns-in-18 c = rw c.in-18.is c.allowed_by.ensures

pub returns-in_default : goal.returns-in_default
returns-in_default c =
    let a = c.args in
    let x = a.context.now in
    allowed-other (context_in x) (pair_in x a.i) a.shown.rule a.shown.sub (λ e. omega arith) (λ e. omega arith)
