-- `Prepared::item_at` meets its contract: each field as its reader ensures it.
use mathlib.Core.Path.{refl, ◌∙◌}
use lib.IntN.{pos}
use mir.Syntax.{w32}
use mir.ValLaws.{to_z-of_z}
use borrow.Author.Rules.{rules}
use Rattle.catalogue.specs.Catalogue.{catalogue_of}
use Rattle.fit.specs.Fit.{item_at}
use Rattle.context.proofs.Types.{given-option, told-category}
use Rattle.slot.proofs.Prepared.item_at.Goals as goal

pub returns : goal.returns
returns c =
    let t = c.type_at in
    let a = c.args in
    let y = a.self.now.context.now in
    record {
      position = refl;
      slot = c.item_slot.ensures;
      category = to_z-of_z w32 c.map_or.result (record { sfits = c.map_or.type_inv })
          ∙ given-option (pos 0) (λ x. x.category) t.result (λ x e p. search rules) c.map_or.ensures
          ∙ told-category (catalogue_of y.catalogue.now) (item_at y.fit.now a.i).type t.ensures;
      rack = c.rack.ensures;
      taken = c.slot_taken.ensures;
      expected = c.wrong_slot_index.ensures;
      covered = c.subsystem_taken.ensures;
    }
