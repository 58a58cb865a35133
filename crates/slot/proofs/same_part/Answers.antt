-- `slot::same_part` meets its contract: another pair, a subsystem, its value.
use Prim.Native.Nat.{◌+◌}
use native.Mathlib.Omega.{arith}
use mathlib.Core.Path.{◌≡◌, sym, ap, ◌∙◌}
use mathlib.Core.Bool.{false}
use Rattle.std.specs.Prelude.{Option}
use lib.Ieee.{Float, eq}
use mir.Syntax.{w32}
use borrow.Author.Rules.{rules}
use mir.ValLaws.{to_z-of_z}
use Rattle.words.specs.Words.{given}
use Rattle.fit.specs.Fit.{result_of}
use Rattle.fit.specs.Lookups.{value}
use Rattle.context.specs.Held.{pair_in}
use Rattle.context.proofs.Types.{given-option}
use Rattle.slot.proofs.Numbers.{part-own, part-elsewhere, part-is}
use Rattle.slot.proofs.same_part.Goals as goal

pub returns-then-j-i : goal.returns-then-j-i
returns-then-j-i c =
    let a = c.args in
    let own : a.j ≡ a.i = omega arith in
    let pair = pair_in a.context.now in
    part-own a.id a.part (pair a.i) (pair a.j) own

pub returns-then-not-is_in : goal.returns-then-not-is_in
returns-then-not-is_in c =
    let a = c.args in
    let pair = pair_in a.context.now in
    part-elsewhere a.id a.part (pair a.i) (pair a.j) c.if-j-i.false
    (sym c.is_in.ensures ∙ c.if-not-is_in.true)

pub returns : goal.returns
returns c =
    let a = c.args in
    let read = value (result_of a.context.now.fit.now (a.j + 2)) in
    let v : c.value.result ≡ read a.id = c.value.ensures ∙ ap read (to_z-of_z w32 a.id c.ranges.id) in
    let e : c.is_some_and.result ≡ given (read a.id) false (λ v. eq v a.part) =
    given-option false (λ v. eq v a.part) c.value.result (λ x e p. search rules) c.is_some_and.ensures ∙ ap (λ (o : Option Float). given o false (λ v. eq v a.part)) v in
    let pair = pair_in a.context.now in
    part-is a.id a.part (pair a.i) (pair a.j) c.if-j-i.false
    (sym c.is_in.ensures ∙ c.if-not-is_in.false) e
