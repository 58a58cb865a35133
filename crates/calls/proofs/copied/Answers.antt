-- `calls::copied` meets its contract: refusal 10, or the bytes of the place.
use Prim.Native.Nat.{◌*◌}
use native.Mathlib.Omega.{arith}
use mathlib.Core.Path.{◌≡◌, refl, ap, ◌∙◌}
use lib.ListN.{length}
use lib.Seq.{length-take-le}
use Rattle.image.specs.Bytes.{put}
use Rattle.entry.proofs.Wrote.{wrote_count}
use Rattle.calls.proofs.Giving.{gave_short, gave_copied}
use Rattle.calls.proofs.copied.Goals as goal

pub returns-then-out-count : goal.returns-then-out-count
returns-then-out-count c = λ es b w h. gave_short es (omega (arith, wrote_count w, c.if-out-count.true)) refl

pub copy-requires : goal.copy-requires
copy-requires c =
    let e : length c.part.result.now ≡ 24 * c.args.count = ap length c.part.ensures ∙ length-take-le (24 * c.args.count) c.args.place.now c.requires.0 in
    omega (arith, e, c.if-out-count.false)

pub returns : goal.returns
returns c = λ es b w h.
    let a = c.args in
    gave_copied es w h (omega (arith, wrote_count w, c.if-out-count.false)) (c.copy.ensures ∙ ap (put a.out.now 0) c.part.ensures)

pub overflow_mul-count : goal.overflow_mul-count
overflow_mul-count c = omega (arith, c.requires.1)

pub part-requires : goal.part-requires
part-requires c = omega (arith, c.requires.0)
