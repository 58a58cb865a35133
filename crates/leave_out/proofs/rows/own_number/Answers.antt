-- `rows::own_number` meets its contract, by whether the entry is about a pair.
use Rattle.std.proofs.Common.{true}
use Rattle.parts.specs.Parts.{holds}
use Rattle.cause.specs.Decided.{has_own}
use Rattle.cause.proofs.Looking.{made, unmade}
use Rattle.leave_out.proofs.Rowing.{own_some}
use Rattle.leave_out.proofs.rows.own_number.Goals as goal

pub returns-in-Some : goal.returns-in-Some
unfolding has_own
returns-in-Some c = λ left.
    let i = c.in-Some.i in
    made c.args.own true (holds left) i c.in-Some.is (own_some i left (c.requires i c.in-Some.is))

pub returns-in-None : goal.returns-in-None
unfolding has_own
returns-in-None c = λ left. unmade c.args.own true (holds left) c.in-None.is
