-- `deciding::room_at` meets its contract, by whether the pair is in Cargo.
use Rattle.std.proofs.Common.{◌≡◌, Bool, cond, sym, ap, ◌∙◌}
use Rattle.std.specs.Prelude.{Option, None, Some}
use lib.Ieee.{Float}
use Rattle.context.specs.Held.{pair_in}
use Rattle.resource.specs.Resource.{cargo_volume}
use Rattle.cause.specs.Decided.{room_of}
use Rattle.cause.proofs.deciding.room_at.Goals as goal

pub returns-then-not-is_in : goal.returns-then-not-is_in
unfolding room_of
returns-then-not-is_in c =
    let v = cargo_volume (pair_in c.args.context.now c.args.i) in
    sym (ap (λ (b : Bool). cond b (Some v) None) (sym c.is_in.ensures ∙ c.if-not-is_in.true))

pub returns : goal.returns
unfolding room_of
returns c =
    let v = cargo_volume (pair_in c.args.context.now c.args.i) in
    ap (λ (r : Float). Some r) c.room_at.ensures ∙ sym (ap (λ (b : Bool). cond b (Some v) None) (sym c.is_in.ensures ∙ c.if-not-is_in.false))
