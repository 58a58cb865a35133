-- `keys::rank` meets its contract: the bits moved up by 2 ^ 31.
use Rattle.std.proofs.Common.{sym, ap, ◌∙◌, w32}
use mir.ValLaws.{to_z-of_z}
use Rattle.image.specs.Bytes.{bits32}
use Rattle.keys.specs.Keys.{biased}
use Rattle.keys.proofs.Ranks.{rank_bits}
use Rattle.keys.proofs.rank.Goals as goal

pub returns : goal.returns
returns c =
    let id = c.args.id in
    let fits = c.ranges.id in
    ap (biased 2147483648) (c.bits.ensures ∙ ap bits32 (to_z-of_z w32 id fits)) ∙ sym (rank_bits id fits.sfits)
