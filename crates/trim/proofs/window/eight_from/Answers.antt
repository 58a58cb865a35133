-- `eight_from` meets its contract. The invariant: the first j ids are there.
use Prim.Native.Nat.{ℕ, ◌+◌, ◌-◌, ◌<◌, min}
use native.Mathlib.Omega.{arith}
use mathlib.Core.Path.{◌≡◌, ◌∙◌, sym, ap}
use mathlib.Core.Logic.{⊎_elim}
use mir.Syntax.{w32}
use mir.Val.{of_z, to_z}
use mir.ValLaws.{to_z-of_z}
use lib.IntN.{pos}
use lib.ListN.{get_or, set, length-set}
use Rattle.std.proofs.Math.Nat.{eq-or-lt_of_le}
use Rattle.std.proofs.lemmas.List.{get_or-set_same, get_or-set_other}
use Rattle.trim.proofs.window.eight_from.Goals as goal

pub loop-j-preserved : goal.loop-j-preserved
loop-j-preserved g c =
    let l = c.loop-j in
    let ids = l.ids in
    let j = l.j in
    let x = to_z w32 (of_z w32 c.id_at.result) in
    let at = c.args.from + c.min.result in (
      length-set ids j x ∙ l.invariant.0,
      λ f h k q.
          ⊎_elim
          (λ (e : k ≡ j).
          ap (λ (i : ℕ). get_or (set ids j x) i (pos 0)) e
          ∙ get_or-set_same ids j x (pos 0) (omega (arith, l.invariant.0, c.loop-j-test.true))
          ∙ to_z-of_z w32 c.id_at.result (record { sfits = c.id_at.type_inv })
          ∙ h at c.id_at.result (omega (arith, c.requires.0, c.min.ensures)) c.id_at.ensures
          ∙ ap (λ (i : ℕ). f (c.args.from + i)) (c.min.ensures ∙ ap (λ (i : ℕ). min i (c.args.n - 1 - c.args.from)) (sym e)))
          (λ (e : k < j).
          get_or-set_other ids j k x (pos 0) (λ r. omega (arith, e, r)) ∙ l.invariant.1 f h k e)
          (eq-or-lt_of_le (omega (arith, q))),
    )
