-- `leave_out::write` meets its contract: refusal 10, or all that is written.
use Rattle.std.proofs.Common.{ℕ, ◌+◌, ◌*◌, ◌≤◌, List, length, refl, sym, ap, ◌∙◌, arith}
use Rattle.numbers.specs.Refusals as Refusals
use Rattle.image.specs.Bytes.{le, put}
use Rattle.calls.proofs.Outputs.{output-short, output-written, bytes_same, bytes-refused, bytes-written}
use Rattle.leave_out.proofs.Writing.{numbers, bytes, written-size, put-long, put-three}
use Rattle.leave_out.proofs.write.Goals as goal

pub returns-then-out-size : goal.returns-then-out-size
returns-then-out-size c =
    let a = c.args in
    let few : a.n ≤ length a.off.now = omega (arith, c.requires) in
    let bs = bytes a.tries a.distance a.off.now a.n few in
    let long = written-size a.tries a.distance a.off.now a.n few in
    bytes_same (sym (output-short a.out.now bs (omega (arith, long, c.count.ensures.0, c.if-out-size.true))))
    (bytes-refused a.out.now Refusals.too_short refl)

pub put_u32-requires : goal.put_u32-requires
put_u32-requires c = omega (arith, c.if-out-size.false)

pub put_u32-requires-2 : goal.put_u32-requires-2
put_u32-requires-2 c =
    let long = put-long _ c.args.out.now 0 _ c.put_u32.ensures in
    omega (arith, long, c.if-out-size.false)

pub put_numbers-requires : goal.put_numbers-requires
put_numbers-requires c =
    let one = put-long _ c.args.out.now 0 _ c.put_u32.ensures in
    let two = put-long _ c.put_u32.new.out 4 _ c.put_u32-2.ensures in
    (c.requires, omega (arith, one, two, c.count.ensures.0, c.if-out-size.false))

pub returns : goal.returns
returns c =
    let a = c.args in
    let few : a.n ≤ length a.off.now = omega (arith, c.requires) in
    let bs = bytes a.tries a.distance a.off.now a.n few in
    let long = written-size a.tries a.distance a.off.now a.n few in
    let fits : length bs ≤ length a.out.now = omega (arith, long, c.count.ensures.0, c.if-out-size.false) in
    let word = ap (λ (n : ℕ). 8 + 4 * n) c.count.ensures.0 ∙ sym long in
    let ns = numbers a.tries a.distance a.off.now a.n few in
    let told =
    c.put_numbers.ensures ∙ ap (λ (l : List ℕ). put l 8 ns) (c.put_u32-2.ensures ∙ ap (λ (l : List ℕ). put l 4 (le 4 a.distance)) c.put_u32.ensures)
    ∙ put-three a.tries a.distance a.off.now a.n few a.out.now in
    bytes_same (sym (output-written a.out.now bs fits)) (bytes-written a.out.now bs word told fits)
