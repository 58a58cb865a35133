-- `validate::emit_without_skills` meets its contract: NotAHull alone, or the mode and then the rules of a hull.
use native.Mathlib.Omega.{arith}
use mathlib.Core.Path.{sym, ◌∙◌}
use mathlib.Core.List.{[]}
use Rattle.entry.proofs.Emitted.{emitted-append, emitted-same}
use Rattle.validate.proofs.Hull.{no_hull, no_skills}
use Rattle.validate.proofs.emit_without_skills.Goals as goal

pub returns-then-is_hull : goal.returns-then-is_hull
returns-then-is_hull c =
    let x = c.args.context.now in
    let on = sym c.is_hull.ensures ∙ c.if-is_hull.true in
    let u = c.not_a_mode.ensures in
    let v = c.hull_rules.ensures in
    (emitted-same (no_skills x.catalogue.now x.fit.now on) (emitted-append u.0 v.0), omega (arith, u.1, v.1))

pub returns-else-is_hull : goal.returns-else-is_hull
returns-else-is_hull c =
    let w = c.not_a_hull.ensures in
    let x = c.args.context.now in
    let off = sym c.is_hull.ensures ∙ c.if-is_hull.false in
    (emitted-same (no_hull x.catalogue.now x.fit.now off []) w, omega (arith, w.count))
