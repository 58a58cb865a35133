-- `catalogue_refusals::ascend` meets its contract: the keys in their part are those in the whole.
use mathlib.Core.Path.{◌∙◌}
use lib.Signed.{lt_z}
use Rattle.keys.proofs.Parts.{part-order}
use Rattle.catalogue_refusals.proofs.ascend.Goals as goal

pub returns : goal.returns
returns c =
    let a = c.args in
    c.ascend.ensures ∙ part-order a.blocks.now a.b.at a.b.n lt_z c.requires c.keys_of.ensures.0
