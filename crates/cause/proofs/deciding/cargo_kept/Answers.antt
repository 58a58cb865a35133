-- `deciding::cargo_kept` meets its contract: all before i, not i, and one more at a time.
use Rattle.std.proofs.Common.{◌≡◌, ℕ, ◌+◌, ◌<◌, cond, List, false, sym, ap, ◌∙◌, arith}
use Rattle.std.specs.Prelude.{None}
use lib.Ieee.{Float}
use lib.ListN.{take, get_or}
use Rattle.parts.specs.Parts.{chosen}
use Rattle.cause.specs.Decided.{with_room, stowed}
use Rattle.cause.proofs.Choosing.{chosen-both, chosen-before, stowed-with}
use Rattle.cause.proofs.deciding.cargo_kept.Goals as goal

pub loop-j-init : goal.loop-j-init
loop-j-init c =
    let a = c.args in
    let few = c.requires.few in
    c.requires.so_far
    ∙ ap stowed
    (sym (chosen-before a.kept.now a.rooms.now None a.i (omega (arith, few)) (omega (arith, few)) c.requires.dropped.0 c.requires.dropped.1))

pub loop-j-preserved : goal.loop-j-preserved
loop-j-preserved c =
    let l = c.loop-j in
    let kept = c.args.kept.now in
    let rooms = c.args.rooms.now in
    let b = get_or kept l.j false in
    let r = get_or rooms l.j None in
    let small : l.j < 256 = omega (arith, c.loop-j-test.true, c.requires.few) in
    c.with_room-used.ensures ∙ ap (λ (s : Float). cond b (with_room s r) s) l.invariant
    ∙ sym (ap stowed (chosen-both kept rooms None l.j (omega (arith, small)) (omega (arith, small)))
    ∙ stowed-with (chosen (take l.j kept) (take l.j rooms)) b r)

pub returns : goal.returns
returns c =
    let l = c.loop-j in
    let e : l.j ≡ c.args.n = omega (arith, l.auto, c.loop-j-test.false, c.requires.few) in
    l.invariant ∙ ap (λ (k : ℕ). stowed (chosen (take k c.args.kept.now) (take k c.args.rooms.now))) e
