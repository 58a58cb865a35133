-- `racks::takes_hardpoint` meets its contract: what is compared is the pair's hardpoint.
use Rattle.std.proofs.Common.{◌∙◌, rules}
use Rattle.numbers.proofs.Casts.{casts}
use Rattle.context.specs.Held.{pair_in}
use Rattle.racks.proofs.Taking.{takes_is}
use Rattle.racks.proofs.takes_hardpoint.Goals as goal

pub returns : goal.returns
returns c =
    let a = c.args in
    search (rules, casts.1 a.slot) ∙ takes_is (pair_in a.context.now a.i) a.slot
