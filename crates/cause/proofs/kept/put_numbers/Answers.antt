-- `kept::put_numbers` meets its contract: one number more at a time.
use Rattle.std.proofs.Common.{◌≡◌, ℕ, ◌+◌, ◌*◌, ◌<◌, ◌≤◌, List, length, cond, false, refl, sym, ap, ap₂, ◌∙◌, arith}
use lib.ListN.{take, get_or}
use Rattle.words.specs.Words.{each}
use Rattle.image.specs.Bytes.{le, put}
use Rattle.image.proofs.Stores.{length-put}
use Rattle.parts.specs.Parts.{size, numbers_of}
use Rattle.cause.proofs.Choosing.{size-none, size-end}
use Rattle.cause.proofs.Numbering.{numbers-none, four-more, room-next, put-next}
use Rattle.cause.proofs.kept.put_numbers.Goals as goal

moved : (at more from n m after : ℕ) → after ≡ at + more → at ≡ from + 4 * n → 4 * n + more ≡ m → after ≡ from + m
moved at more from n m after e h q = omega (arith, e, h, q)

pub loop-i-init : goal.loop-i-init
unfolding each
loop-i-init c = (
  omega (arith, size-none),
  ap (λ (l : List ℕ). put c.args.out.now c.args.from (each l (le 4))) (sym (numbers-none c.args.kept.now)),
)

pub put_number-at-requires : goal.put_number-at-requires
put_number-at-requires c =
    let l = c.loop-i in
    let a = c.args in
    let kept = a.kept.now in
    let room = room-next kept l.i a.n (omega (arith, c.loop-i-test.true)) (omega (arith, c.requires.0)) in
    let same = ap length l.invariant.1 ∙ length-put a.out.now a.from (each (numbers_of (take l.i kept)) (le 4)) in (
      omega (arith, c.loop-i-test.true, c.requires.0),
      omega (arith, l.invariant.0, room, same, c.requires.1),
    )

pub loop-i-preserved : goal.loop-i-preserved
loop-i-preserved c =
    let l = c.loop-i in
    let a = c.args in
    let kept = a.kept.now in
    let e = c.put_number-at.ensures in
    let b = get_or kept l.i false in
    let small : l.i < length kept = omega (arith, c.loop-i-test.true, c.requires.0) in
    let four = four-more (size (take l.i kept)) b in (
      moved l.at (cond b 4 0) a.from (size (take l.i kept)) _ _ e.0 l.invariant.0 (four ∙ ap (λ (n : ℕ). 4 * n) (sym (size-end kept l.i small))),
      put-next kept a.out.now l.out c.put_number-at.new.out a.from l.at l.i small l.invariant.0 l.invariant.1 e.1,
    )

pub returns : goal.returns
returns c =
    let l = c.loop-i in
    let a = c.args in
    let e : l.i ≡ a.n = omega (arith, l.auto.i-end, c.loop-i-test.false) in
    l.invariant.1 ∙ ap (λ (n : ℕ). put a.out.now a.from (each (numbers_of (take n a.kept.now)) (le 4))) e
