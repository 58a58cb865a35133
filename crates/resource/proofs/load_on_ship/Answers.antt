-- `resource::load_on_ship` meets its contract: two amounts of the ship's result.
use Rattle.std.proofs.Common.{ap, ◌∙◌, w32}
use mir.ValLaws.{to_z-of_z}
use Rattle.fit.specs.Fit.{result_of}
use Rattle.fit.specs.Lookups.{amount}
use Rattle.resource.proofs.load_on_ship.Goals as goal

pub returns : goal.returns
returns c =
    let ship = amount (result_of c.args.context.now.fit.now 0) in (
      c.amount.ensures ∙ ap ship (to_z-of_z w32 c.args.load c.ranges.load),
      c.amount-2.ensures ∙ ap ship (to_z-of_z w32 c.args.output c.ranges.output),
    )
