-- `Rows::add` meets its contract: a row behind those that are there.
use Rattle.std.proofs.Common.{refl, arith}
use Rattle.leave_out.proofs.Rowing.{added}
use Rattle.leave_out.proofs.rows.Rows.add.Goals as goal

pub mark_set-requires : goal.mark_set-requires
mark_set-requires c = record { few = (c.requires.few, omega (arith, c.requires.room)); room = omega (arith, c.requires.room); none = c.requires.free }

pub own_number-requires : goal.own_number-requires
own_number-requires c = λ i e. let h = c.requires.inside i e in omega (arith, h, c.requires.few)

pub returns : goal.returns
returns c =
    let a = c.args in
    added a.n c.requires.few a.self.now _ a.own c.own_number.result a.limit a.members.now (omega (arith, c.requires.few))
    (omega (arith, c.requires.room)) (omega (arith, c.requires.room)) c.mark_set.ensures.marked refl refl refl c.own_number.ensures
