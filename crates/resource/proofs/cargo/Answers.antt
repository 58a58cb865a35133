-- `resource::cargo` meets its contract, by whether `capacity` has an id.
use Rattle.std.proofs.Common.{sym, ap, ◌∙◌, arith, w32, rules}
use mir.ValLaws.{to_z-of_z}
use Rattle.fit.specs.Fit.{result_of}
use Rattle.fit.specs.Lookups.{amount}
use Rattle.context.specs.Held.{context_in, pairs_in}
use Rattle.resource.proofs.Named.{cargo-some, cargo-none, few-cargo}
use Rattle.resource.proofs.cargo.Goals as goal

pub returns-in_default : goal.returns-in_default
returns-in_default c =
    let x = c.args.context.now in
    (cargo-none x.catalogue.now x.fit.now (sym c.in_default.ensures), omega arith)

pub returns : goal.returns
returns c =
    let x = c.args.context.now in
    let w = cargo-some x.catalogue.now x.fit.now (sym c.in-Some.ensures) c.cargo_load.ensures.0
    (c.cargo_load.ensures.1 ∙ ap (amount (result_of x.fit.now 0)) (to_z-of_z w32 c.in-Some.id (search rules))) c.resource.ensures in
    (w, omega (arith, w.count, few-cargo (context_in x) (pairs_in x)))
