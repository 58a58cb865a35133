-- `validate::emit` meets its contract: NotAHull alone, or mode and skills and then the rules of a hull.
use native.Mathlib.Omega.{arith}
use mathlib.Core.Path.{sym, ◌∙◌}
use Rattle.entry.proofs.Emitted.{emitted-append, emitted-same}
use Rattle.validate.proofs.Hull.{on-hull, no_hull, of_fit_lem}
use Rattle.validate.proofs.emit.Goals as goal

pub returns-then-not-is_hull : goal.returns-then-not-is_hull
returns-then-not-is_hull c =
    let w = c.not_a_hull.ensures in
    let x = c.args.context.now in
    let off = sym c.is_hull.ensures ∙ c.if-not-is_hull.true in
    (emitted-same (no_hull x.catalogue.now x.fit.now off _ ∙ of_fit_lem x.catalogue.now x.fit.now) w, omega (arith, w.count))

pub returns : goal.returns
returns c =
    let x = c.args.context.now in
    let on = sym c.is_hull.ensures ∙ c.if-not-is_hull.false in
    let u = c.kind.ensures in
    let v = c.hull_rules.ensures in
    (emitted-same (on-hull x.catalogue.now x.fit.now on _ ∙ of_fit_lem x.catalogue.now x.fit.now) (emitted-append u.0 v.0), omega (arith, u.1, v.1))
