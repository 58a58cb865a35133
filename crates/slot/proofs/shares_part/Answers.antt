-- `slot::shares_part` meets its contract. The invariant: the answer so far is that of the first j pairs.
use native.Mathlib.Omega.{arith}
use mathlib.Core.Path.{refl, sym, ap, ◌∙◌}
use lib.IntN.{ℤ}
use mir.Syntax.{w32}
use mir.Val.{of_z, to_z}
use mir.ValLaws.{to_z-of_z}
use Rattle.words.specs.Words.{any_of}
use Rattle.words.proofs.Tables.{any_none}
use Rattle.words.proofs.Elements.{any-turn}
use Rattle.context.specs.Held.{pair_in, pairs_in}
use Rattle.slot.specs.Slot.{shares_part}
use Rattle.slot.proofs.Checks.{any-all}
use Rattle.slot.proofs.shares_part.Goals as goal

pub loop-j-init : goal.loop-j-init
loop-j-init c = sym (any_none _ _)

pub loop-j-preserved : goal.loop-j-preserved
loop-j-preserved c =
    let l = c.loop-j in
    let a = c.args in
    let pair = pair_in a.context.now in
    any-turn (shares_part (to_z w32 (of_z w32 a.id)) a.part (pair a.i)) pair l.j _ _ c.same_part-found.result l.invariant
    c.same_part-found.ensures refl

pub returns : goal.returns
returns c =
    let a = c.args in
    let x = a.context.now in
    let p = pair_in x a.i in
    any-all (shares_part (to_z w32 (of_z w32 a.id)) a.part p) x.catalogue.now x.fit.now (omega arith) c.loop-j.invariant
    ∙ ap (λ (z : ℤ). any_of (shares_part z a.part p) (pairs_in x)) (to_z-of_z w32 a.id c.ranges.id)
