-- `deciding::rooms` meets its contract: one pair more.
use Rattle.std.proofs.Common.{ℕ, ◌≡◌, ◌<◌, ◌∙◌, refl, arith}
use Rattle.std.specs.Prelude.{None}
use lib.ListN.{length-set}
use Rattle.context.specs.Held.{pair_in}
use Rattle.limits.proofs.Limits.{kept_next}
use Rattle.cause.specs.Decided.{room_of}
use Rattle.cause.proofs.deciding.rooms.Goals as goal

none : (k : ℕ) → k < 0 → ⊥
none k h = omega arith

pub loop-i-init : goal.loop-i-init
loop-i-init c = (refl, λ k h. absurd (none k h))

pub loop-i-preserved : goal.loop-i-preserved
loop-i-preserved c =
    let l = c.loop-i in
    let x = c.args.context.now in
    let small : l.i < 256 = omega (arith, c.loop-i-test.true, c.pair_count-i-end.ensures, x.gathered.fit_sound.sized.items) in (
      length-set l.rooms l.i _ ∙ l.invariant.0,
      kept_next (λ k. room_of (pair_in x k)) None l.rooms l.i (omega (arith, l.invariant.0, small)) l.invariant.1 c.room_at.ensures,
    )

pub returns : goal.returns
returns c =
    let l = c.loop-i in
    λ i h. l.invariant.1 i (omega (arith, h, c.loop-i-test.false, c.pair_count-i-end.ensures, l.auto.i-end))
