-- `ShipLists::may_list` meets its contract: the ids read are those of the result.
use Prim.Native.Nat.{◌*◌}
use native.Mathlib.Omega.{arith}
use mathlib.Core.Path.{◌≡◌, ap, ◌∙◌}
use lib.ListN.{length}
use Rattle.fit.specs.Fit.{count_at, start_at}
use Rattle.fit.proofs.Decoded.{start-within, ids_length}
use Rattle.item.proofs.Flags.{flagged-ids}
use Rattle.item.proofs.ShipLists.may_list.Goals as goal

pub returns : goal.returns
returns c =
    let x = c.args.self.now.context.now in
    let b = x.fit.now in
    let j = c.args.j in
    let sized = x.gathered.fit_sound.sized in
    let w = start-within b sized j c.requires in
    let l : length c.ids_of.result.now ≡ 4 * count_at b j =
    ap length c.ids_of.ensures ∙ ids_length b (start_at b j) (count_at b j) (omega (arith, w, sized.size)) in
    c.any_flagged.ensures ∙ flagged-ids c.args.self.now.flags.now b j c.ids_of.result.now c.ids_of.ensures (omega (arith, l))
