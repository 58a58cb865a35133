-- `Rows::none_over` meets its contract: row by row.
use Rattle.std.proofs.Common.{◌≡◌, ◌≤◌, sym, ◌∙◌, arith}
use lib.ListN.{length}
use Rattle.words.proofs.Tables.{length-table}
use Rattle.marks.specs.Marks.{is_marked}
use Rattle.leave_out.specs.Bits.{marked_of}
use Rattle.leave_out.proofs.Marking.{own-bits}
use Rattle.leave_out.proofs.Rowing.{over_none, over-next, one-over, none-over}
use Rattle.leave_out.proofs.rows.Rows.none_over.Goals as goal

pub loop-r-init : goal.loop-r-init
loop-r-init c = let a = c.args in over_none a.self.now (marked_of a.n a.left.now)

pub is_over-requires : goal.is_over-requires
is_over-requires c = (omega (arith, c.requires.few.1, c.loop-r-test.true), c.requires.inside)

pub returns-then-is_over : goal.returns-then-is_over
returns-then-is_over c =
    let a = c.args in
    let s = marked_of a.n a.left.now in
    let few : length s ≤ 256 = omega (arith, c.requires.few.0, length-table 0 a.n (is_marked a.left.now)) in
    one-over a.self.now s c.loop-r.r c.loop-r-test.true (sym (c.is_over.ensures s few (own-bits a.n a.left.now c.requires.inside)) ∙ c.if-is_over.true)

pub loop-r-preserved : goal.loop-r-preserved
loop-r-preserved c =
    let a = c.args in
    let s = marked_of a.n a.left.now in
    let few : length s ≤ 256 = omega (arith, c.requires.few.0, length-table 0 a.n (is_marked a.left.now)) in
    over-next a.self.now s c.loop-r.r c.loop-r.invariant
    (sym (c.is_over.ensures s few (own-bits a.n a.left.now c.requires.inside)) ∙ c.if-is_over.false)

pub returns : goal.returns
returns c =
    let a = c.args in
    let l = c.loop-r in
    let e : l.r ≡ a.self.now.count = omega (arith, l.auto, c.loop-r-test.false) in
    none-over a.self.now (marked_of a.n a.left.now) l.r e l.invariant
