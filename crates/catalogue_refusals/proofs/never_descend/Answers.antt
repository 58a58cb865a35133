-- `catalogue_refusals::never_descend` meets its contract: the keys in their part are those in the whole.
use mathlib.Core.Path.{◌∙◌}
use lib.Signed.{le_z}
use Rattle.keys.proofs.Parts.{part-order}
use Rattle.catalogue_refusals.proofs.never_descend.Goals as goal

pub returns : goal.returns
returns c =
    let a = c.args in
    c.never_descend.ensures ∙ part-order a.blocks.now a.b.at a.b.n le_z c.requires c.keys_of.ensures.0
