-- `item::flag_ids` meets its contract. The invariant: the ids passed are flagged.
use Rattle.item.proofs.Flags.{Flagging}
use Rattle.item.proofs.flag_ids.Given as goal

abbrev pub invariant-loop-id : goal.invariant-loop-id
invariant-loop-id l = Flagging l.ids l.initial.flags l.flags l.id-index
