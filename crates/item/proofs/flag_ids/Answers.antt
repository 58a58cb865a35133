-- `item::flag_ids` meets its contract. The invariant: the ids passed are flagged.
use mathlib.Core.Path.{◌≡◌}
use mir.Val.{to_z, of_z}
use mir.Syntax.{w32}
use borrow.Author.Rules.{rules}
use Rattle.item.proofs.Flags.{flagging_some, flagging_skip}
use Rattle.item.proofs.flag_ids.Goals.{in-Some, in_default}
use Rattle.item.proofs.flag_ids.Goals as goal

pub loop-id-preserved : goal.loop-id-preserved
loop-id-preserved c =
    let l = c.loop-id in
    elim c.match-id.branch [
      | in-Some w ↦
          let z : to_z w32 (of_z w32 w.in-Some.id) ≡ w.in-Some.id = search rules in
          rw (w.flags-is, w.bits.ensures, z) (flagging_some c.args.ids.now c.args.flags.now l.flags l.id-index w.in-Some.id w.in-Some.is l.invariant)
      | in_default w ↦ rw w.flags-is (flagging_skip c.args.ids.now c.args.flags.now l.flags l.id-index w.in_default.is l.invariant)
    ]
