-- `skill::Walk::is_among` meets its contract. The invariant: the answer so far is that of the first i ids.
use Prim.Native.Nat.{ℕ}
use native.Mathlib.Omega.{arith}
use mathlib.Core.Path.{◌≡◌, refl, sym, ap, ap₂, ◌∙◌}
use lib.ListN.{get_or}
use lib.IntN.{ℤ, pos}
use mir.Syntax.{w32}
use mir.Val.{of_z, to_z}
use mir.ValLaws.{to_z-of_z}
use borrow.Author.Rules.{rules}
use Rattle.words.specs.Words.{table, any_of, same}
use Rattle.words.proofs.Ids.{bits_same}
use Rattle.words.proofs.Tables.{any_none}
use Rattle.words.proofs.Elements.{any-turn}
use Rattle.skill.proofs.walk.Walk.is_among.Goals as goal

pub loop-i-init : goal.loop-i-init
loop-i-init c = sym (any_none _ _)

pub loop-i-preserved : goal.loop-i-preserved
loop-i-preserved c =
    let at : ℕ → ℤ = λ k. get_or c.args.self.now.ids k (pos 0) in
    let id = to_z w32 (of_z w32 c.args.id) in
    any-turn (λ (x : ℤ). same x id) at c.loop-i.i _ _ _ c.loop-i.invariant
    (bits_same (at c.loop-i.i) c.args.id (search rules) c.ranges.id ∙ ap (same (at c.loop-i.i)) (sym (to_z-of_z w32 c.args.id c.ranges.id))) refl

pub returns : goal.returns
returns c =
    let e : c.loop-i.i ≡ c.args.self.now.len = omega (arith, c.loop-i-test.false, c.loop-i.auto.i-end) in
    c.loop-i.invariant
    ∙ ap₂ (λ (n : ℕ) (z : ℤ). any_of (λ (x : ℤ). same x z) (table n (λ k. get_or c.args.self.now.ids k (pos 0)))) e (to_z-of_z w32 c.args.id c.ranges.id)
