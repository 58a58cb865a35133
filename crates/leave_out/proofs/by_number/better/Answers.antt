-- `by_number::better` meets its contract.
use Rattle.std.proofs.Common.{◌<◌, ℕ, ◌&&◌, sym, ap, ◌∙◌, arith}
use lib.Dec.{ltb}
use Rattle.parts.specs.Parts.{size}
use Rattle.leave_out.specs.LeaveOut.{set_of}
use Rattle.leave_out.specs.Held.{passes}
use Rattle.leave_out.proofs.Trying.{found-number, found-same}
use Rattle.leave_out.proofs.Turning.{few-sets}
use Rattle.leave_out.proofs.by_number.better.Goals as goal

pub returns-then-is_better : goal.returns-then-is_better
returns-then-is_better c = λ back best h.
    let a = c.args in
    let s = set_of a.n a.number in
    let test = λ (k : ℕ). passes a.rows.now s && ltb (size s) k in
    let small : a.number < 65536 = omega (arith, few-sets a.n c.requires.0, c.requires.1) in
    found-number back a.n a.number c.size_of.result best (test (size best)) small (c.size_of.ensures a.n c.requires.1)
    (ap test (sym h.1) ∙ sym c.is_better.ensures ∙ c.if-is_better.true)

pub returns : goal.returns
returns c = λ back best h.
    let a = c.args in
    let s = set_of a.n a.number in
    let test = λ (k : ℕ). passes a.rows.now s && ltb (size s) k in
    found-same back a.n a.number best (test (size best)) a.found h
    (ap test (sym h.1) ∙ sym c.is_better.ensures ∙ c.if-is_better.false)
