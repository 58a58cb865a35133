-- `resource::room_at` meets its contract: a type that is not there has volume 0.
use Rattle.std.proofs.Common.{ap, ◌∙◌, ap₂, rules}
use lib.Ieee.{binary64, mul, of_bits}
use Rattle.floats.specs.Floats.{zero_f, of_nat}
use Rattle.catalogue.specs.Catalogue.{catalogue_of}
use Rattle.context.specs.Held.{pair_in}
use Rattle.context.proofs.Types.{given-option, told-volume}
use Rattle.resource.specs.Resource.{cargo_volume}
use Rattle.resource.proofs.room_at.Goals as goal

pub returns : goal.returns
unfolding cargo_volume of_bits
returns c =
    let x = c.args.context.now in
    let volume = given-option zero_f (λ x. x.volume) c.type_at.result (λ x e p. search rules) c.map_or-volume.ensures
    ∙ told-volume (catalogue_of x.catalogue.now) (pair_in x c.args.i).type c.type_at.ensures in
    ap₂ (mul binary64) volume (c.of_u32.ensures ∙ ap of_nat c.item_quantity-quantity.ensures)
