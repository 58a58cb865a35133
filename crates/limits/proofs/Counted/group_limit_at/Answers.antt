-- `limits::Counted::group_limit_at` meets its contract, by whether the item has the limit and is fitted.
use mathlib.Core.Path.{◌≡◌, sym, ap, ◌∙◌}
use lib.IntN.{ℤ, pos}
use lib.ListN.{get_or}
use mir.Syntax.{w32}
use mir.Val.{to_z, of_z}
use mir.ValLaws.{to_z-of_z}
use borrow.Author.Rules.{rules}
use Rattle.words.specs.Words.{count_of}
use Rattle.context.specs.Context.{said}
use Rattle.context.specs.Held.{pair_in, pairs_in}
use Rattle.limits.specs.Limits.{in_group, allowed_at}
use Rattle.limits.proofs.Limits.{group-missing, group-fitted}
use Rattle.limits.proofs.Counted.group_limit_at.Goals as goal

pub returns-in_err-allowed : goal.returns-in_err-allowed
returns-in_err-allowed c =
    let a = c.args in
    let x = a.self.now.context.now in
    let p = pair_in x a.i in
    ap (said p) c.from_residual.ensures
    ∙ group-missing a.row.limit a.row.lowest a.id (pairs_in x) p
    (sym (c.in_err-allowed.ensures ∙ ap (λ (z : ℤ). allowed_at z p) (to_z-of_z w32 a.id c.ranges.id)))

pub returns : goal.returns
returns c =
    let a = c.args in
    let x = a.self.now.context.now in
    let ps = pairs_in x in
    let p = pair_in x a.i in
    let group = get_or a.self.now.groups a.i (pos 0) in
    let z : to_z w32 (of_z w32 group) ≡ p.group = to_z-of_z w32 group (search rules) ∙ a.self.now.grouped a.i c.requires in
    ap (said p) c.then_some.ensures
    ∙ group-fitted a.row.limit a.row.lowest a.id ps p
    (sym (c.in_ok-allowed.ensures ∙ ap (λ (y : ℤ). allowed_at y p) (to_z-of_z w32 a.id c.ranges.id)))
    z (c.count_in_group-used.ensures ∙ ap (λ (y : ℤ). count_of (in_group y a.row.lowest) ps) z)
