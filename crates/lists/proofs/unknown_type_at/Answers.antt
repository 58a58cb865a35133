-- `lists::unknown_type_at` meets its contract: the lookup's answer is none where the catalogue lacks the type.
use mathlib.Core.Path.{ap, ap₂, ◌∙◌}
use mathlib.Core.Bool.{Bool}
use mir.Syntax.{w32}
use mir.ValLaws.{to_z-of_z}
use Rattle.words.specs.Words.{when}
use Rattle.catalogue.specs.Catalogue.{Id, catalogue_of}
use Rattle.entry.specs.declared.Rule.TheVariants.{UnknownType}
use Rattle.context.specs.Context.{on, said}
use Rattle.context.specs.Held.{pair_in}
use Rattle.context.proofs.Loops.{said-then}
use Rattle.lists.specs.Unknown.{unknown_type_at}
use Rattle.lists.proofs.Unknowns.{none-told}
use Rattle.lists.proofs.unknown_type_at.Goals as goal

pub returns : goal.returns
unfolding unknown_type_at
returns c =
    let x = c.args.context.now in
    let p = pair_in x c.args.i in
    let y = c.item_type-id in
    let missing = none-told (catalogue_of x.catalogue.now) p.type c.type_at.result c.type_at.ensures c.is_none-missing.ensures in
    let type = to_z-of_z w32 y.result (record { sfits = y.type_inv }) ∙ y.ensures in
    ap (said p) c.then_some.ensures ∙ said-then p _ _ ∙ ap₂ (λ (b : Bool) (z : Id). when b (on p (UnknownType z))) missing type
