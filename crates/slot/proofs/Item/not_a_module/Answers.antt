-- `Item::not_a_module` meets its contract: the item's fields are the pair's.
use mathlib.Core.Path.{◌≡◌, ap, ap₂, ◌∙◌}
use mathlib.Core.Bool.{Bool, not, ◌&&◌}
use mir.Syntax.{w32}
use mir.Val.{to_z, of_z}
use borrow.Author.Rules.{rules}
use Rattle.words.specs.Words.{when}
use Rattle.entry.specs.Entries.{on_item}
use Rattle.entry.specs.declared.Rule.TheVariants.{NotAModule}
use Rattle.context.specs.Context.{is_module_category}
use Rattle.slot.specs.Slot.{not_a_module}
use Rattle.slot.proofs.Checks.{checked, not-a_module_is}
use Rattle.slot.proofs.Item.not_a_module.Goals as goal

pub returns : goal.returns
returns c =
    let a = c.args in
    let z : to_z w32 (of_z w32 a.self.category) ≡ a.self.category = search rules in
    let t = ap₂ (λ (x y : Bool). x && not y) c.is_fitted.ensures (c.is_module_category.ensures ∙ ap is_module_category z) in
    checked (λ x ps p. not_a_module x p) c.push_when.ensures
    (λ x ps p h. ap (λ (t : Bool). when t (on_item a.self.position NotAModule)) t ∙ not-a_module_is a.self x h)
