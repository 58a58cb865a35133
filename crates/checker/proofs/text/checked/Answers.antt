-- `checker::text::checked` meets its contract: the call fits the buffer lent, and its text the room.
use Rattle.std.proofs.Common.{ℕ, replicate, arith}
use lib.ListN.{length-replicate}
use Rattle.lists.specs.Terms.{main}
use Rattle.checker.specs.Text.{checked}
use Rattle.checker.proofs.Room.{list_room}
use Rattle.checker.proofs.text.checked.Goals as goal

pub text_of-requires-clause-in_bounds : goal.text_of-requires-clause-in_bounds
text_of-requires-clause-in_bounds c =
    let f = c.fit_list-word.ensures in
    omega (arith, f.0, list_room main c.args.catalogue.now c.args.fit.now (replicate 65520 0))

pub text_of-requires-clause-room : goal.text_of-requires-clause-room
text_of-requires-clause-room c =
    let f = c.fit_list-word.ensures in
    let r = list_room main c.args.catalogue.now c.args.fit.now (replicate 65520 0) in
    omega (arith, f.0, r, length-replicate {A = ℕ} 65520 0)

pub returns : goal.returns
unfolding checked
returns c = let f = c.fit_list-word.ensures in rw (c.text_of.ensures, f.0, f.1)
