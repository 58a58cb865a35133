-- `keys::ascend` meets its contract: the order of the biased bits is the order asked for.
use Rattle.std.proofs.Common.{◌∙◌}
use Rattle.keys.proofs.Ranks.{u32_small}
use Rattle.keys.proofs.Orders.{biased-lt}
use Rattle.keys.proofs.ascend.Goals as goal

pub returns : goal.returns
returns c =
    let a = c.args in
    c.ascending.ensures ∙ biased-lt a.keys.now (u32_small a.keys.now c.type_inv.keys) _
