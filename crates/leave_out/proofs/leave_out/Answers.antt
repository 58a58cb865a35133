-- `leave_out::leave_out` meets its contract: what was found is written.
use Rattle.std.proofs.Common.{ℕ, List, min, ap, ◌∙◌, subst, arith}
use lib.ListN.{take}
use Rattle.catalogue.specs.Catalogue.{catalogue_of}
use Rattle.fit.specs.Fit.{fit_of}
use Rattle.calls.specs.Output.{output, room_refusals}
use Rattle.calls.specs.Gave.{GaveBytes, word_of}
use Rattle.cause.proofs.Caused.{given_also}
use Rattle.leave_out.specs.LeaveOut.{leave_out_bytes, all_tries}
use Rattle.leave_out.specs.Held.{passes, best_of}
use Rattle.leave_out.proofs.Leaving.{written-same}
use Rattle.leave_out.proofs.leave_out.Goals as goal

-- what is given by a word and a buffer, of two images
abbrev Given : (out after : List ℕ) (w budget : ℕ) (catalogue fit : List ℕ) → Type 0
Given out after w budget b m =
    let bs = leave_out_bytes (catalogue_of b) (fit_of m) budget in
    GaveBytes out after w (output (room_refusals out bs) bs)

pub gather-requires : goal.gather-requires
gather-requires c = (c.none-rows.ensures.0, λ j q. c.none-rows.ensures.1 j (omega arith))

pub tries_made-made-requires : goal.tries_made-made-requires
tries_made-made-requires c = omega (arith, c.pair_count-n.ensures, c.new-context.result.gathered.fit_sound.sized.items)

pub left_out-off-requires : goal.left_out-off-requires
left_out-off-requires c = (
  omega (arith, c.pair_count-n.ensures, c.new-context.result.gathered.fit_sound.sized.items),
  omega (arith, c.tries_made-made.ensures),
  c.gather.ensures.1,
)

pub count-requires : goal.count-requires
count-requires c = omega (arith, c.pair_count-n.ensures, c.new-context.result.gathered.fit_sound.sized.items)

pub distance-far-requires : goal.distance-far-requires
distance-far-requires c = omega (arith, c.count.ensures.1, c.pair_count-n.ensures, c.new-context.result.gathered.fit_sound.sized.items)

pub write-requires : goal.write-requires
write-requires c = omega (arith, c.pair_count-n.ensures, c.new-context.result.gathered.fit_sound.sized.items)

pub returns : goal.returns
returns c =
    let a = c.args in
    let x = c.new-context.result in
    let rows = c.gather.new.rows in
    let off = take c.pair_count-n.result c.left_out-off.result in
    let tries = c.tries_made-made.result in
    let far = c.distance-far.result in
    let same = c.pair_count-n.ensures in
    let t = c.tries_made-made.ensures ∙ ap (λ (n : ℕ). min a.budget (all_tries n)) same in
    let o = c.left_out-off.ensures ∙ ap (λ (n : ℕ). best_of (passes rows) n tries) same in
    let bs = written-same x rows c.gather.ensures.0 a.budget tries far c.count.result off t o c.count.ensures.0 c.distance-far.ensures in
    given_also (Given a.out.now c.write.new.out (word_of c.write.result) a.budget) c.new-context.ensures.0 c.new-context.ensures.1
    (subst (λ (l : List ℕ). GaveBytes a.out.now c.write.new.out (word_of c.write.result) (output (room_refusals a.out.now l) l)) bs c.write.ensures)
