-- `item::listed_under` meets its contract, by whether the id and the value are there.
use mathlib.Core.Path.{◌≡◌, sym, ap, ◌∙◌}
use mir.Syntax.{w32}
use mir.Val.{to_z, of_z}
use borrow.Author.Rules.{rules}
use Rattle.std.specs.Prelude.{None, Some}
use Rattle.floats.specs.Floats.{to_i32}
use Rattle.fit.specs.Fit.{result_of}
use Rattle.fit.specs.Lookups.{value}
use Rattle.words.specs.Words.{given}
use Rattle.item.specs.Ids.{listed_under}
use Rattle.item.proofs.listed_under.Goals as goal

pub returns-in_err-known : goal.returns-in_err-known
unfolding listed_under
returns-in_err-known c = rw c.in_err-known.was c.from_residual.ensures

pub returns-in_err-value : goal.returns-in_err-value
unfolding listed_under given
returns-in_err-value c =
    let e : value (result_of c.args.context.now.fit.now c.args.j) c.in_ok-known.field-0 ≡ None =
    ap (value (result_of c.args.context.now.fit.now c.args.j)) (search rules) ∙ sym c.value.ensures ∙ c.in_err-value.was in
    rw (c.in_ok-known.was, e) c.from_residual-in_err-value.ensures

pub returns : goal.returns
unfolding listed_under given
returns c =
    let e : value (result_of c.args.context.now.fit.now c.args.j) c.in_ok-known.field-0 ≡ Some c.in_ok-value.field-0 =
    ap (value (result_of c.args.context.now.fit.now c.args.j)) (search rules) ∙ sym c.value.ensures ∙ c.in_ok-value.was in
    let v : to_z w32 (of_z w32 c.to_i32.result) ≡ to_i32 c.in_ok-value.field-0 = search rules in
    rw (c.in_ok-known.was, e) (ap Some v)
