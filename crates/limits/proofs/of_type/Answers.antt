-- `limits::of_type` meets its contract: two tests.
use mathlib.Core.Path.{ap, ap₂, ◌∙◌}
use mathlib.Core.Bool.{◌&&◌}
use lib.IntN.{ℤ}
use borrow.Author.Rules.{rules}
use Rattle.words.specs.Words.{same}
use Rattle.words.proofs.Ids.{bits_same}
use Rattle.limits.specs.Limits.{of_type}
use Rattle.limits.proofs.of_type.Goals as goal

pub returns : goal.returns
unfolding of_type
returns c =
    let id = c.args.id in
    ap₂ ◌&&◌ c.is_fitted_at.ensures
    (bits_same c.item_type.result id (search rules) c.ranges.id ∙ ap (λ (t : ℤ). same t id) c.item_type.ensures)
