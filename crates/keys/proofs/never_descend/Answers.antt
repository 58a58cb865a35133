-- `keys::never_descend` meets its contract: the order of the biased bits is the order asked for.
use Rattle.std.proofs.Common.{◌∙◌}
use Rattle.keys.proofs.Ranks.{u32_small}
use Rattle.keys.proofs.Orders.{biased-le}
use Rattle.keys.proofs.never_descend.Goals as goal

pub returns : goal.returns
returns c =
    let a = c.args in
    c.ordered.ensures ∙ biased-le a.keys.now (u32_small a.keys.now c.type_inv.keys) _
