-- `item::is_structure` meets its contract: a ship that is not there is of category 0, which is no structure's.
use mathlib.Core.Path.{ap, ◌∙◌}
use lib.IntN.{pos}
use borrow.Author.Rules.{rules}
use Rattle.words.specs.Words.{same}
use Rattle.words.proofs.Ids.{bits_same}
use Rattle.numbers.specs.Categories as Categories
use Rattle.catalogue.specs.Catalogue.{Id, catalogue_of}
use Rattle.fit.specs.Fit.{fit_of}
use Rattle.context.specs.Context.{context}
use Rattle.context.specs.Gathered.{context_of}
use Rattle.context.proofs.Types.{given-option, told-category}
use Rattle.item.specs.Item.{is_structure}
use Rattle.item.proofs.is_structure.Goals as goal

pub returns : goal.returns
unfolding is_structure context_of context
returns c =
    let a = c.args in
    let category = given-option (pos 0) (λ x. x.category) c.ship_type.result (λ x e p. search rules) c.map_or-category.ensures
    ∙ told-category (catalogue_of a.context.now.catalogue.now) (fit_of a.context.now.fit.now).frame.ship c.ship_type.ensures in
    bits_same c.map_or-category.result Categories.structure (record { sfits = c.map_or-category.type_inv }) (search rules)
    ∙ ap (λ (k : Id). same k Categories.structure) category
