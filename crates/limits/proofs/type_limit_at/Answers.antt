-- `limits::type_limit_at` meets its contract, by whether the item has the limit and is fitted.
use mathlib.Core.Path.{◌≡◌, sym, ap, ◌∙◌}
use lib.IntN.{ℤ}
use mir.Syntax.{w32}
use mir.Val.{to_z, of_z}
use mir.ValLaws.{to_z-of_z}
use borrow.Author.Rules.{rules}
use Rattle.words.specs.Words.{count_of}
use Rattle.context.specs.Context.{said}
use Rattle.context.specs.Held.{pair_in, pairs_in}
use Rattle.limits.specs.Limits.{of_type, allowed_at}
use Rattle.limits.proofs.Limits.{type-missing, type-fitted}
use Rattle.limits.proofs.type_limit_at.Goals as goal

pub returns-in_err-allowed : goal.returns-in_err-allowed
returns-in_err-allowed c =
    let a = c.args in
    let x = a.context.now in
    let p = pair_in x a.i in
    ap (said p) c.from_residual.ensures
    ∙ type-missing a.id (pairs_in x) p
    (sym (c.in_err-allowed.ensures ∙ ap (λ (z : ℤ). allowed_at z p) (to_z-of_z w32 a.id c.ranges.id)))

pub returns : goal.returns
returns c =
    let a = c.args in
    let x = a.context.now in
    let ps = pairs_in x in
    let p = pair_in x a.i in
    let t = c.item_type-type_id in
    let z : to_z w32 (of_z w32 t.result) ≡ p.type = to_z-of_z w32 t.result (record { sfits = t.type_inv }) ∙ t.ensures in
    ap (said p) c.then_some.ensures
    ∙ type-fitted a.id ps p (sym (c.in_ok-allowed.ensures ∙ ap (λ (y : ℤ). allowed_at y p) (to_z-of_z w32 a.id c.ranges.id)))
    z (c.count-used.ensures (of_type t.result) (λ i b h post. search rules) ∙ ap (λ (y : ℤ). count_of (of_type y) ps) t.ensures)
