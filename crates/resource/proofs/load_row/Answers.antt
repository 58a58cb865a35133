-- `resource::load_row` meets its contract, by whether both names have ids.
use Rattle.std.proofs.Common.{sym, ap, ◌∙◌, w32, rules}
use mir.ValLaws.{to_z-of_z}
use Rattle.fit.specs.Fit.{result_of}
use Rattle.fit.specs.Lookups.{amount}
use Rattle.resource.proofs.Named.{load-some, load-half, load-none}
use Rattle.resource.proofs.load_row.Goals as goal

pub returns-in_default : goal.returns-in_default
returns-in_default c =
    let row = c.args.row in
    let x = c.args.context.now in
    load-none x.catalogue.now x.fit.now row.resource row.load row.output (sym c.in_default.ensures)

pub returns-in_default-attribute_id : goal.returns-in_default-attribute_id
returns-in_default-attribute_id c =
    let row = c.args.row in
    let x = c.args.context.now in
    load-half x.catalogue.now x.fit.now row.resource row.load row.output (sym c.in-Some.ensures) (sym c.in_default-attribute_id.ensures)

pub returns : goal.returns
returns c =
    let row = c.args.row in
    let x = c.args.context.now in
    let ship = amount (result_of x.fit.now 0) in
    load-some x.catalogue.now x.fit.now row.resource row.load row.output
    (sym c.in-Some.ensures) (sym c.in-Some-attribute_id.ensures)
    (c.load_on_ship.ensures.0 ∙ ap ship (to_z-of_z w32 c.in-Some.load (search rules)))
    (c.load_on_ship.ensures.1 ∙ ap ship (to_z-of_z w32 c.in-Some-attribute_id.output (search rules)))
    c.resource.ensures
