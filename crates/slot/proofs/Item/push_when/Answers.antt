-- `Item::push_when` meets its contract: a test writes one entry at most.
use native.Mathlib.Omega.{arith}
use Rattle.words.proofs.Lengths.{few-when}
use Rattle.entry.specs.Entries.{on_item}
use Rattle.slot.proofs.Item.push_when.Goals as goal

pub returns : goal.returns
returns c =
    let a = c.args in
    let w = c.emit_when.ensures in (w, omega (arith, w.count, few-when a.test (on_item a.self.position a.rule)))
