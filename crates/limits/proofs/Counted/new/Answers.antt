-- `limits::Counted::new` meets its contract: the group and the state of one pair more.
use Prim.Native.Nat.{ℕ, ◌<◌}
use native.Mathlib.Omega.{arith}
use mathlib.Core.Path.{◌≡◌, refl, ◌∙◌}
use lib.IntN.{pos}
use lib.ListN.{length-set}
use mir.Syntax.{w32}
use borrow.Author.Rules.{rules}
use mir.Val.{to_z, of_z}
use mir.ValLaws.{to_z-of_z}
use Rattle.catalogue.specs.Catalogue.{catalogue_of}
use Rattle.context.specs.Held.{pair_in}
use Rattle.context.proofs.Types.{given-option, told-group}
use Rattle.limits.specs.Groups.{state_of}
use Rattle.limits.proofs.Limits.{kept_next}
use Rattle.limits.proofs.Counted.new.Goals as goal

none : (k : ℕ) → k < 0 → ⊥
none k h = omega arith

pub loop-i-init : goal.loop-i-init
loop-i-init c = (refl, refl, λ k h. absurd (none k h), λ k h. absurd (none k h))

pub loop-i-preserved : goal.loop-i-preserved
loop-i-preserved c =
    let g = c.map_or-group in
    let l = c.loop-i in
    let x = c.args.context.now in
    let p = pair_in x l.i in
    let group : to_z w32 (of_z w32 g.result) ≡ p.group =
    to_z-of_z w32 g.result (record { sfits = g.type_inv }) ∙ given-option (pos 0) (λ x. x.group) c.type_at.result (λ x e f. search rules) g.ensures
    ∙ told-group (catalogue_of x.catalogue.now) p.type c.type_at.ensures in
    let small : l.i < 256 = omega (arith, x.gathered.fit_sound.sized.items) in (
      length-set l.groups l.i _ ∙ l.invariant.0,
      length-set l.states l.i _ ∙ l.invariant.1,
      kept_next (λ k. (pair_in x k).group) (pos 0) l.groups l.i (omega (arith, l.invariant.0)) l.invariant.2 group,
      kept_next (λ k. state_of (pair_in x k)) 0 l.states l.i (omega (arith, l.invariant.1)) l.invariant.3 c.state_at.ensures,
    )

pub invariant_of-result : goal.invariant_of-result
invariant_of-result c =
    let l = c.loop-i in
    record {
      grouped = λ i h. l.invariant.2 i (omega (arith, h));
      stated = λ i h. l.invariant.3 i (omega (arith, h));
    }
