-- `resource::launched_drones` meets its contract, by whether `max_active_drones` has an id.
use Rattle.std.proofs.Common.{◌≡◌, sym, ap, ◌∙◌, arith, w32, to_z, of_z, rules}
use mir.ValLaws.{to_z-of_z}
use Rattle.fit.specs.Fit.{result_of}
use Rattle.fit.specs.Lookups.{amount}
use Rattle.context.specs.Held.{context_in, pairs_in}
use Rattle.resource.proofs.Named.{drones-some, drones-none, few-drones}
use Rattle.resource.proofs.launched_drones.Goals as goal

pub returns-in_default : goal.returns-in_default
returns-in_default c =
    let x = c.args.context.now in
    (drones-none x.catalogue.now x.fit.now (sym c.in_default.ensures), omega arith)

pub returns : goal.returns
returns c =
    let x = c.args.context.now in
    let u = c.drones_load-load.ensures in
    let limit : c.amount.result ≡ amount (result_of x.fit.now 1) (to_z w32 (of_z w32 c.in-Some.id)) = c.amount.ensures in
    let w = drones-some x.catalogue.now x.fit.now (sym c.in-Some.ensures) u.0
    (u.1 ∙ limit ∙ ap (amount (result_of x.fit.now 1)) (to_z-of_z w32 c.in-Some.id (search rules))) c.resource.ensures in
    (w, omega (arith, w.count, few-drones (context_in x) (pairs_in x)))
