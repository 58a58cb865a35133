-- `bits::mark_set` meets its contract: one flag more.
use Rattle.std.proofs.Common.{◌≡◌, ℕ, ◌∙◌, refl, false, subst, arith}
use lib.ListN.{get_or}
use Rattle.leave_out.specs.Bits.{Marked}
use Rattle.leave_out.proofs.Marking.{marked-more, marked_none}
use Rattle.leave_out.proofs.bits.mark_set.Goals as goal

pub loop-i-init : goal.loop-i-init
loop-i-init c = let a = c.args in (marked_none a.place a.flags.now a.marks.now c.requires.none, refl)

pub overflow_add-place : goal.overflow_add-place
overflow_add-place c = omega (arith, c.requires.few.0, c.requires.few.1, c.loop-i-test.true)

pub mark_where-requires : goal.mark_where-requires
mark_where-requires c = let l = c.loop-i in omega (arith, c.requires.room, c.requires.few.0, l.invariant.1, c.loop-i-test.true)

pub loop-i-preserved : goal.loop-i-preserved
loop-i-preserved c =
    let l = c.loop-i in
    let a = c.args in
    let e = c.mark_where.ensures in (
      marked-more a.place l.i a.flags.now a.marks.now l.marks c.mark_where.new.marks (get_or a.flags.now l.i false) refl l.invariant.0 e.marked,
      e.long ∙ l.invariant.1,
    )

pub returns : goal.returns
returns c =
    let l = c.loop-i in
    let a = c.args in
    let e : l.i ≡ a.n = omega (arith, l.auto, c.loop-i-test.false) in
    record { marked = subst (λ (k : ℕ). Marked a.place k a.flags.now a.marks.now l.marks) e l.invariant.0; long = l.invariant.1 }
