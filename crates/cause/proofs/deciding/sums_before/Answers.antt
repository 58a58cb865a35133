-- `deciding::sums_before` meets its contract: one sum more.
use Rattle.std.proofs.Common.{ℕ, ◌≡◌, ◌<◌, ◌∙◌, refl, sym, ap, arith}
use Rattle.std.specs.Prelude.{None}
use lib.Ieee.{Float, nan, of_bits}
use lib.ListN.{length-set, take, get_or}
use Rattle.limits.proofs.Limits.{kept_next}
use Rattle.cause.specs.Decided.{with_room, stowed}
use Rattle.cause.proofs.Choosing.{stowed-none, stowed-next}
use Rattle.cause.proofs.deciding.sums_before.Goals as goal

none : (k : ℕ) → k < 0 → ⊥
none k h = omega arith

pub loop-i-init : goal.loop-i-init
unfolding of_bits
loop-i-init c = (refl, λ k h. absurd (none k h), sym stowed-none)

pub loop-i-preserved : goal.loop-i-preserved
loop-i-preserved c =
    let l = c.loop-i in
    let rooms = c.args.rooms.now in
    let small : l.i < 256 = omega (arith, c.loop-i-test.true, c.requires) in (
      length-set l.before l.i _ ∙ l.invariant.0,
      kept_next (λ k. stowed (take k rooms)) nan l.before l.i (omega (arith, l.invariant.0, small)) l.invariant.1 l.invariant.2,
      c.with_room-used.ensures ∙ ap (λ (s : Float). with_room s (get_or rooms l.i None)) l.invariant.2
          ∙ sym (stowed-next rooms l.i (omega (arith, small))),
    )

pub returns : goal.returns
returns c =
    let l = c.loop-i in
    λ i h. l.invariant.1 i (omega (arith, h, c.loop-i-test.false, l.auto))
