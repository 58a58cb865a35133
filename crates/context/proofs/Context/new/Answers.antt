-- `Context::new` meets its contract: both images are sound, and all that is kept is what the lookups answered.
use mathlib.Core.Path.{ap, ◌∙◌}
use lib.IntN.{ℤ}
use mir.Syntax.{w32}
use mir.ValLaws.{to_z-of_z}
use Rattle.catalogue.specs.Catalogue.{catalogue_of}
use Rattle.context.specs.Gathered.{answer_of}
use Rattle.context.proofs.Context.new.Goals as goal

pub invariant_of-result : goal.invariant_of-result
invariant_of-result c =
    let id = to_z-of_z w32 c.ship.result (record { sfits = c.ship.type_inv }) ∙ c.ship.ensures in
    record {
      gathered = record {
        catalogue_sound = c.is_sound.ensures;
        fit_sound = c.is_sound-2.ensures;
        ship = c.type_of-ship.ensures ∙ ap (λ (z : ℤ). answer_of (catalogue_of c.args.catalogue.now) z) id;
        pairs = c.gather_pairs.ensures;
      };
    }
