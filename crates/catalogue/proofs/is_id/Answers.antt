-- `catalogue::is_id` meets its contract: two signed numbers are equal where their bits are.
use mathlib.Core.Path.{◌∙◌, sym, ap, ap₂}
use lib.Dec.{eqb}
use lib.IntN.{ℤ}
use Rattle.words.specs.Words.{same}
use Rattle.image.proofs.Signs.{bits_of_z}
use Rattle.keys.proofs.Ranks.{bits_same}
use Rattle.catalogue.proofs.is_id.Goals as goal

pub returns : goal.returns
returns c =
    ap₂ eqb (sym (bits_of_z c.i32_at.result)) (sym (bits_of_z c.args.id))
    ∙ sym (bits_same c.i32_at.result c.args.id c.i32_at.type_inv c.ranges.id.sfits)
    ∙ ap (λ (z : ℤ). same z c.args.id) c.i32_at.ensures
