-- `lists::write` meets its contract: the Rust's list, and behind a hull's the league's and the types that are missing.
use native.Mathlib.Omega.{arith}
use mathlib.Core.Path.{sym, ◌∙◌}
use borrow.Author.Rules.{rules}
use Rattle.entry.proofs.Emitted.{emitted-append, emitted-same, lent}
use Rattle.lists.specs.Terms.{terms, read_by}
use Rattle.lists.proofs.Behind.{on-hull, no_hull}
use Rattle.lists.proofs.write.Goals as goal

pub returns-then-not-is_hull : goal.returns-then-not-is_hull
returns-then-not-is_hull c =
    let a = c.args in
    let x = a.context.now in
    let off = sym c.is_hull.ensures ∙ c.if-not-is_hull.true in
    let w = c.rust_list.ensures in
    let t = read_by a.asked.reader (terms a.profile.now a.asked.allowance) in (
      lent c.new-entries.ensures (emitted-same (no_hull x.catalogue.now x.fit.now t off) w.0) (search rules) c.count.ensures,
      omega (arith, c.new-entries.ensures.count, c.count.ensures, w.1),
    )

pub returns : goal.returns
returns c =
    let a = c.args in
    let x = a.context.now in
    let on = sym c.is_hull.ensures ∙ c.if-not-is_hull.false in
    let u = c.rust_list.ensures in
    let v = c.validate.ensures in
    let w = c.unknown_types.ensures in
    let t = read_by a.asked.reader (terms a.profile.now a.asked.allowance) in
    let es = emitted-append (emitted-append u.0 v.0) w.0 in (
      lent c.new-entries.ensures (emitted-same (on-hull x.catalogue.now x.fit.now t on) es) (search rules) c.count-2.ensures,
      omega (arith, c.new-entries.ensures.count, c.count-2.ensures, u.1, v.1, w.1),
    )
