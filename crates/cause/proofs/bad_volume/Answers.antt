-- `cause::bad_volume` meets its contract: a volume from +0 on, and finite.
use Rattle.std.proofs.Common.{◌≡◌, ap, ap₂, ◌∙◌, Bool, not, ◌&&◌, rules}
use lib.Ieee.{Float, le, of_bits}
use Rattle.floats.specs.Floats.{zero_f, is_volume}
use Rattle.catalogue.specs.Catalogue.{catalogue_of}
use Rattle.context.specs.Held.{pair_in}
use Rattle.context.proofs.Types.{given-option, told-volume}
use Rattle.cause.specs.Cause.{bad_volume}
use Rattle.cause.proofs.Volumes.{fair-is}
use Rattle.cause.proofs.bad_volume.Goals as goal

pub returns : goal.returns
unfolding bad_volume of_bits
returns c =
    let x = c.args.context.now in
    let v = c.map_or-volume.result in
    let volume : v ≡ (pair_in x c.args.i).volume =
    given-option zero_f (λ x. x.volume) c.type_at.result (λ x e p. search rules) c.map_or-volume.ensures
    ∙ told-volume (catalogue_of x.catalogue.now) (pair_in x c.args.i).type c.type_at.ensures in
    ap₂ (λ (a b : Bool). a && not b) c.is_in.ensures
    (ap (λ (b : Bool). le zero_f v && b) c.is_finite.ensures.value ∙ fair-is v ∙ ap is_volume volume)
