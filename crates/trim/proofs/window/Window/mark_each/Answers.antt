-- `Window::mark_each` meets its contract. The invariant: none of the first results wants too many skills, and what they want is marked.
use native.Mathlib.Omega.{arith}
use mathlib.Core.Path.{refl}
use Rattle.words.proofs.Tables.{any_none}
use Rattle.skill.specs.Held.{walk_of}
use Rattle.trim.proofs.Results.{wanted-first, wanted-more, over-more, wanted-refused, wanted-finished}
use Rattle.trim.proofs.window.Window.mark_each.Goals as goal

pub loop-res-init : goal.loop-res-init
loop-res-init c = (any_none _ _, wanted-first _ _ _)

pub returns-in_err-walk : goal.returns-in_err-walk
returns-in_err-walk c =
    let l = c.loop-res in
    wanted-refused _ _ _ l.res _ l.invariant.1 c.from_residual.ensures.0
    (omega (arith, c.loop-res-test.true, c.result_count-res-end.ensures)) c.in_err-walk.ensures.many

pub loop-res-preserved : goal.loop-res-preserved
loop-res-preserved c =
    let l = c.loop-res in
    let w = c.in_ok-walk.ensures in (
      over-more _ _ _ l.res l.invariant.1.catalogue l.invariant.0 w.many,
      wanted-more _ _ _ _ l.res (walk_of c.in_ok-walk.walk) l.invariant.1 (w.holds _ refl) c.mark_walk.ensures,
    )

pub returns : goal.returns
returns c =
    let l = c.loop-res in
    wanted-finished _ _ _ l.res (omega (arith, c.loop-res-test.false, c.result_count-res-end.ensures)) l.invariant.0 l.invariant.1
