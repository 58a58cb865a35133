-- `Item::push_unless` meets its contract: the machine compares the categories' bits.
use mathlib.Core.Path.{ap}
use mathlib.Core.Bool.{Bool, not, ◌&&◌}
use borrow.Author.Rules.{rules}
use Rattle.words.specs.Words.{when}
use Rattle.words.proofs.Ids.{bits_same}
use Rattle.entry.specs.Entries.{on_item}
use Rattle.entry.proofs.Emitted.{emitted-same}
use Rattle.slot.proofs.Item.push_unless.Goals as goal

pub returns : goal.returns
returns c =
    let a = c.args in
    let e = bits_same a.self.category a.category (search rules) c.ranges.category in
    (emitted-same (ap (λ (t : Bool). when (a.there && not t) (on_item a.self.position a.rule)) e) c.push_when.ensures.0, c.push_when.ensures.1)
