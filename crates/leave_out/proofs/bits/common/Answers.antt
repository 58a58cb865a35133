-- `bits::common` meets its contract: word by word, where there is more than one.
use Rattle.std.proofs.Common.{◌≡◌, ℕ, ◌+◌, ◌*◌, ◌&&◌, ap, ap₂, ◌∙◌, arith}
use lib.Bits.{bit_and}
use lib.Count.{ones}
use lib.ListN.{get_or}
use Rattle.marks.specs.Marks.{is_marked}
use Rattle.leave_out.proofs.Sharing.{count-few, count-four, word-shared}
use Rattle.leave_out.proofs.bits.common.Goals as goal

pub returns-then-few : goal.returns-then-few
returns-then-few c =
    let a = c.args in
    let left = a.left.now in
    let m = a.marks.now in
    let q : a.at ≡ a.at + 0 = omega arith in
    let one = c.shared-first.ensures in
    one.0 ∙ ap (λ (i : ℕ). ones (bit_and (get_or left 0 0) (get_or m i 0))) q ∙ word-shared left m a.at 0 one.2
    ∙ count-few a.n left m (64 * a.at) (omega (arith, c.if-few.true)) c.requires.1

pub returns : goal.returns
returns c =
    let a = c.args in
    let left = a.left.now in
    let m = a.marks.now in
    let q : a.at ≡ a.at + 0 = omega arith in
    let one = c.shared-first.ensures in
    let two = c.shared.ensures in
    let three = c.shared-2.ensures in
    let four = c.shared-3.ensures in
    ap₂ (λ (x y : ℕ). x + y)
    (ap₂ (λ (x y : ℕ). x + y)
    (ap₂ (λ (x y : ℕ). x + y)
    (one.0 ∙ ap (λ (i : ℕ). ones (bit_and (get_or left 0 0) (get_or m i 0))) q ∙ word-shared left m a.at 0 one.2)
    (two.0 ∙ word-shared left m a.at 1 two.2))
    (three.0 ∙ word-shared left m a.at 2 three.2))
    (four.0 ∙ word-shared left m a.at 3 four.2)
    ∙ count-four (λ j. is_marked left j && is_marked m (64 * a.at + j))
