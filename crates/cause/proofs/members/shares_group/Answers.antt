-- `members::shares_group` meets its contract, by whether the number is a limit's.
use Prim.Native.Nat.{ℕ}
use mathlib.Core.Path.{◌≡◌, sym, ap, ◌∙◌}
use mathlib.Core.Bool.{false}
use lib.IntN.{ℤ, pos}
use mir.Syntax.{w32}
use mir.Val.{of_z, to_z}
use mir.ValLaws.{to_z-of_z}
use borrow.Author.Rules.{rules}
use Rattle.numbers.specs.declared.GroupLimit.{GroupLimit}
use Rattle.catalogue.specs.Catalogue.{catalogue_of}
use Rattle.context.specs.Held.{pair_in}
use Rattle.context.proofs.Types.{given-option, told-group}
use Rattle.limits.specs.Rows.{row_of, row_said}
use Rattle.limits.specs.Limits.{in_group}
use Rattle.cause.specs.Members.{group_row}
use Rattle.cause.proofs.Looking.{made, unmade}
use Rattle.cause.proofs.members.shares_group.Goals as goal

pub returns-in_default : goal.returns-in_default
returns-in_default c =
    let a = c.args in
    let x = a.context.now in
    unmade (group_row a.limit) false (λ (row : GroupLimit × ℕ × ℕ). in_group (pair_in x a.i).group row.1 (pair_in x a.j))
    (sym c.row_at.ensures ∙ ap row_said c.in_default.is)

pub returns : goal.returns
returns c =
    let a = c.args in
    let x = a.context.now in
    let p = pair_in x a.i in
    let o = pair_in x a.j in
    let row = c.in-Some.row in
    let g = c.map_or-group in
    let group : to_z w32 (of_z w32 g.result) ≡ p.group =
    to_z-of_z w32 g.result (record { sfits = g.type_inv }) ∙ given-option (pos 0) (λ x. x.group) c.type_at.result (λ x e f. search rules) g.ensures
    ∙ told-group (catalogue_of x.catalogue.now) p.type c.type_at.ensures in
    made (group_row a.limit) false (λ (r : GroupLimit × ℕ × ℕ). in_group p.group r.1 o) (row_of row)
    (sym c.row_at.ensures ∙ ap row_said c.in-Some.is) (c.in_group.ensures ∙ ap (λ (z : ℤ). in_group z row.lowest o) group)
