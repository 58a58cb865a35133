-- `kept::write` meets its contract: refusal 10, or the numbers.
use Rattle.std.proofs.Common.{◌≡◌, ℕ, ◌*◌, ◌≤◌, List, length, refl, sym, ap, ◌∙◌, arith}
use lib.ListN.{take}
use Rattle.words.specs.Words.{each}
use Rattle.numbers.specs.Refusals as Refusals
use Rattle.image.specs.Bytes.{le}
use Rattle.calls.proofs.Outputs.{output-short, output-written, bytes_same, bytes-refused, bytes-written}
use Rattle.parts.specs.Parts.{size, numbers_of}
use Rattle.cause.proofs.Numbering.{bytes-size}
use Rattle.cause.proofs.kept.write.Goals as goal

pub returns-then-out-size : goal.returns-then-out-size
returns-then-out-size c =
    let a = c.args in
    let bs = each (numbers_of (take a.n a.kept.now)) (le 4) in
    let long = bytes-size a.kept.now a.n (omega (arith, c.requires)) in
    bytes_same (sym (output-short a.out.now bs (omega (arith, long, c.count-size.ensures.0, c.if-out-size.true))))
    (bytes-refused a.out.now Refusals.too_short refl)

pub put_numbers-requires : goal.put_numbers-requires
put_numbers-requires c = (c.requires, omega (arith, c.count-size.ensures.0, c.if-out-size.false))

pub returns : goal.returns
returns c =
    let a = c.args in
    let bs = each (numbers_of (take a.n a.kept.now)) (le 4) in
    let long = bytes-size a.kept.now a.n (omega (arith, c.requires)) in
    let fits : length bs ≤ length a.out.now = omega (arith, long, c.count-size.ensures.0, c.if-out-size.false) in
    let word = ap (λ (n : ℕ). 4 * n) c.count-size.ensures.0 ∙ sym long in
    bytes_same (sym (output-written a.out.now bs fits)) (bytes-written a.out.now bs word c.put_numbers.ensures fits)
