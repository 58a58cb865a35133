-- `ShipLists::is_restricted` meets its contract: an item that may list ships, by its two tests of what it lists.
use mathlib.Core.Path.{◌≡◌, sym, ap₂, ◌∙◌}
use mir.Syntax.{w32}
use mir.Val.{to_z, of_z}
use mir.ValLaws.{to_z-of_z}
use lib.IntN.{pos}
use Rattle.item.specs.Ids.{listing}
use mathlib.Core.Bool.{false}
use borrow.Author.Rules.{rules}
use Rattle.catalogue.specs.Catalogue.{catalogue_of}
use Rattle.fit.specs.Fit.{fit_of}
use Rattle.context.specs.Context.{context}
use Rattle.context.specs.Gathered.{context_of}
use Rattle.context.specs.Held.{pair_in, context_in}
use Rattle.context.proofs.Types.{told-group, given-option}
use Rattle.item.specs.Item.{ship_types, ship_groups}
use Rattle.item.specs.Flags.{any_flagged}
use Rattle.item.proofs.Listings.{listed-ids}
use Rattle.item.proofs.Flags.{nothing-listed}
use Rattle.item.proofs.Rules.{restricted_unfitted, restricted_unlisted, restricted_fitted}
use Rattle.item.proofs.ShipLists.is_restricted.Goals as goal

pub returns-then-not-is_fitted_at : goal.returns-then-not-is_fitted_at
returns-then-not-is_fitted_at c =
    let a = c.args in
    restricted_unfitted (context_in a.self.now.context.now) (pair_in a.self.now.context.now a.i)
    (sym (c.is_fitted_at.ensures) ∙ c.if-not-is_fitted_at.true)

pub returns-then-not-may_list : goal.returns-then-not-may_list
unfolding context_of context
returns-then-not-may_list c =
    let a = c.args in
    let x = context_in a.self.now.context.now in
    let p = pair_in a.self.now.context.now a.i in
    let none : any_flagged a.self.now.flags.now p.result ≡ false = sym c.may_list.ensures ∙ c.if-not-may_list.true in
    restricted_unlisted x p
    (sym (listed-ids x p ship_types a.self.now.types.now a.self.now.known.types_known) ∙ nothing-listed a.self.now.flags.now p.result none
    a.self.now.types.now a.self.now.known.types_flagged)
    (sym (listed-ids x p ship_groups a.self.now.groups.now a.self.now.known.groups_known) ∙ nothing-listed a.self.now.flags.now p.result none
    a.self.now.groups.now a.self.now.known.groups_flagged)

pub returns : goal.returns
unfolding context_of context fit_of
returns c =
    let a = c.args in
    let x = context_in a.self.now.context.now in
    let p = pair_in a.self.now.context.now a.i in
    let ship : to_z w32 (of_z w32 c.ship-ship.result) ≡ x.ship =
    to_z-of_z w32 c.ship-ship.result (record { sfits = c.ship-ship.type_inv }) ∙ c.ship-ship.ensures in
    let group : to_z w32 (of_z w32 c.map_or-group.result) ≡ x.group =
    to_z-of_z w32 c.map_or-group.result (record { sfits = c.map_or-group.type_inv })
    ∙ given-option (pos 0) (λ x. x.group) c.ship_type.result (λ x e p. search rules) c.map_or-group.ensures
    ∙ told-group (catalogue_of a.self.now.context.now.catalogue.now) (fit_of a.self.now.context.now.fit.now).frame.ship c.ship_type.ensures in
    c.lists_others.ensures ∙ restricted_fitted x p (sym (c.is_fitted_at.ensures) ∙ c.if-not-is_fitted_at.false)
    (c.listed-of_types.ensures ∙ ap₂ listing ship (listed-ids x p ship_types a.self.now.types.now a.self.now.known.types_known))
    (c.listed-of_groups.ensures ∙ ap₂ listing group (listed-ids x p ship_groups a.self.now.groups.now a.self.now.known.groups_known))
