-- `limits::in_group` meets its contract: three tests.
use mathlib.Core.Path.{◌≡◌, ap, ap₂, ◌∙◌}
use mathlib.Core.Bool.{◌&&◌}
use lib.Dec.{leb}
use lib.IntN.{ℤ, pos}
use borrow.Author.Rules.{rules}
use Rattle.words.specs.Words.{same}
use Rattle.words.proofs.Ids.{bits_same}
use Rattle.catalogue.specs.Catalogue.{catalogue_of}
use Rattle.context.specs.Held.{pair_in}
use Rattle.context.proofs.Types.{given-option, told-group}
use Rattle.limits.specs.Limits.{in_group}
use Rattle.limits.proofs.in_group.Goals as goal

pub returns : goal.returns
unfolding in_group
returns c =
    let a = c.args in
    let x = a.context.now in
    let p = pair_in x a.i in
    let g = c.map_or-own in
    let group : g.result ≡ p.group =
    given-option (pos 0) (λ x. x.group) c.type_at.result (λ x e f. search rules) g.ensures
    ∙ told-group (catalogue_of x.catalogue.now) p.type c.type_at.ensures in
    let alike = bits_same g.result a.group (record { sfits = g.type_inv }) c.ranges.group ∙ ap (λ (z : ℤ). same z a.group) group in
    ap₂ ◌&&◌ (ap₂ ◌&&◌ c.is_fitted_at.ensures alike) (ap (leb a.lowest) c.result_state.ensures)
