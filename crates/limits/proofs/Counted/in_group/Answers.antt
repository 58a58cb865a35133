-- `limits::Counted::in_group` meets its contract: two tests.
use mathlib.Core.Path.{ap, ap₂, ◌∙◌}
use mathlib.Core.Bool.{◌&&◌}
use lib.Dec.{ltb}
use lib.IntN.{ℤ, pos}
use lib.ListN.{get_or}
use borrow.Author.Rules.{rules}
use Rattle.words.specs.Words.{same}
use Rattle.words.proofs.Ids.{bits_same}
use Rattle.context.specs.Context.{is_fitted}
use Rattle.context.specs.Held.{pair_in}
use Rattle.limits.specs.Groups.{state_of}
use Rattle.limits.specs.Limits.{in_group}
use Rattle.limits.proofs.Limits.{state-told}
use Rattle.limits.proofs.Counted.in_group.Goals as goal

pub returns : goal.returns
unfolding in_group state_of
returns c =
    let a = c.args in
    let x = a.self.now in
    let p = pair_in x.context.now a.i in
    let alike = bits_same (get_or x.groups a.i (pos 0)) a.group (search rules) c.ranges.group
    ∙ ap (λ (g : ℤ). same g a.group) (x.grouped a.i c.requires) in
    ap₂ ◌&&◌ alike (ap₂ ltb c.from.ensures (x.stated a.i c.requires))
    ∙ state-told (same p.group a.group) (is_fitted p) a.lowest p.result.state
