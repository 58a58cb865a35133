-- `Keys::rank_at` meets its contract: the rank of the number that the key is.
use Rattle.std.proofs.Common.{ap, ◌∙◌, w32}
use mir.ValLaws.{to_z-of_z}
use Rattle.keys.specs.Keys.{rank_of}
use Rattle.keys.proofs.Keys.rank_at.Goals as goal

pub returns : goal.returns
returns c =
    let key = c.i32_at in
    c.rank.ensures ∙ ap rank_of (to_z-of_z w32 key.result (record { sfits = key.type_inv }) ∙ key.ensures)
