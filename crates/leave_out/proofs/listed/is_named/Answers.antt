-- `listed::is_named` meets its contract.
use Rattle.std.proofs.Common.{Bool, ◌&&◌, ◌||◌, eqb, ap}
use lib.Dec.{ltb}
use Rattle.leave_out.proofs.listed.is_named.Goals as goal

pub returns : goal.returns
returns c = let s = c.args.shown in ap (λ (b : Bool). b || (eqb s.rule 2 && ltb s.sub 6)) c.is_limited.ensures
