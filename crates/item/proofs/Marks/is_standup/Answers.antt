-- `Marks::is_standup` meets its contract: by category, or by a mark.
use mathlib.Core.Path.{ap, ◌∙◌}
use mir.Syntax.{w32}
use mir.Val.{of_z}
use lib.IntN.{pos}
use borrow.Author.Rules.{rules}
use Rattle.words.specs.Words.{same}
use borrow.Author.Tests.{eq-eqb}
use Rattle.words.proofs.Ids.{bits_same}
use Rattle.words.proofs.Sames.{same_not}
use Rattle.numbers.specs.Categories as Categories
use Rattle.catalogue.specs.Catalogue.{Id, catalogue_of}
use Rattle.fit.specs.Fit.{item_at}
use Rattle.context.specs.Context.{context}
use Rattle.context.specs.Gathered.{context_of}
use Rattle.context.specs.Held.{pair_in, context_in}
use Rattle.context.proofs.Types.{given-option, told-category}
use Rattle.item.specs.Item.{is_standup}
use Rattle.item.proofs.Marking.{standup-marked}
use Rattle.item.proofs.Tests.{or-then, or-else}
use Rattle.item.proofs.Marks.is_standup.Goals as goal

pub returns-then-category-eq-STRUCTURE_MODULE : goal.returns-then-category-eq-STRUCTURE_MODULE
unfolding is_standup
returns-then-category-eq-STRUCTURE_MODULE c =
    let a = c.args in
    let category = given-option (pos 0) (λ x. x.category) c.type_at.result (λ x e p. search rules) c.map_or-category.ensures
    ∙ told-category (catalogue_of a.self.now.context.now.catalogue.now) (item_at a.self.now.context.now.fit.now a.i).type c.type_at.ensures in
    let test = bits_same c.map_or-category.result Categories.structure_module (record { sfits = c.map_or-category.type_inv }) (search rules)
    ∙ ap (λ (k : Id). same k Categories.structure_module) category in
    or-then test _ (eq-eqb (of_z w32 c.map_or-category.result) 66 c.if-category-eq-STRUCTURE_MODULE.true)

pub returns-else-category-eq-STRUCTURE_MODULE : goal.returns-else-category-eq-STRUCTURE_MODULE
unfolding is_standup context_of context
returns-else-category-eq-STRUCTURE_MODULE c =
    let a = c.args in
    let category = given-option (pos 0) (λ x. x.category) c.type_at.result (λ x e p. search rules) c.map_or-category.ensures
    ∙ told-category (catalogue_of a.self.now.context.now.catalogue.now) (item_at a.self.now.context.now.fit.now a.i).type c.type_at.ensures in
    or-else (ap (λ (k : Id). same k Categories.structure_module) category)
    (same_not c.map_or-category.result Categories.structure_module (λ e. c.if-category-eq-STRUCTURE_MODULE.false (ap (of_z w32) e)))
    (standup-marked (context_in a.self.now.context.now) (pair_in a.self.now.context.now a.i) a.self.now.ids a.self.now.known c.is_marked.ensures)
