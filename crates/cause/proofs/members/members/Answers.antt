-- `members::members` meets its contract: one pair more.
use Rattle.std.proofs.Common.{ℕ, ◌≡◌, ◌<◌, ◌∙◌, refl, false, arith}
use lib.ListN.{length-set}
use Rattle.context.specs.Gathered.{pair_count}
use Rattle.context.specs.Held.{pair_in}
use Rattle.limits.proofs.Limits.{kept_next}
use Rattle.cause.specs.Decided.{member_in}
use Rattle.cause.proofs.members.members.Goals as goal

none : (k : ℕ) → k < 0 → ⊥
none k h = omega arith

pub loop-j-init : goal.loop-j-init
loop-j-init c = (refl, λ k h. absurd (none k h))

pub loop-j-preserved : goal.loop-j-preserved
loop-j-preserved c =
    let l = c.loop-j in
    let a = c.args in
    let x = a.context.now in
    let small : l.j < 256 = omega (arith, x.gathered.fit_sound.sized.items) in (
      length-set l.members l.j _ ∙ l.invariant.0,
      kept_next (λ k. member_in x a.shown (pair_in x k)) false l.members l.j (omega (arith, l.invariant.0)) l.invariant.1 c.is_member.ensures,
    )

pub returns : goal.returns
returns c =
    let l = c.loop-j in
    λ i h. l.invariant.1 i (omega (arith, h))
