-- `best::without` meets its contract: the set without pair k is tried.
use Rattle.std.proofs.Common.{false, ◌∙◌}
use lib.ListN.{set, take}
use Rattle.cause.proofs.Trying.{less-first}
use Rattle.leave_out.specs.Held.{passes}
use Rattle.leave_out.proofs.Trying.{better-is, tried-back}
use Rattle.leave_out.proofs.best.without.Goals as goal

pub returns : goal.returns
returns c =
    let a = c.args in
    let best = take a.n a.best.now in
    c.smaller.ensures
    ∙ better-is (passes a.rows.now) a.n best a.k (take a.n (set a.best.now a.k false))
    (less-first a.n a.best.now a.k c.requires.0 ∙ tried-back a.n best a.k c.requires.0)
