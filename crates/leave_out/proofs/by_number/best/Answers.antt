-- `by_number::best` meets its contract: one number more.
use Rattle.std.proofs.Common.{◌≡◌, ◌+◌, ℕ, Bool, cond, refl, sym, ap, ◌∙◌, subst, arith}
use borrow.Author.Tests.{lt-ltb, le-ltb}
use lib.ListN.{take}
use Rattle.leave_out.specs.LeaveOut.{set_of}
use Rattle.leave_out.specs.Held.{passes, best_of, IsFound}
use Rattle.leave_out.proofs.Trying.{found_back, best-next, tried-number}
use Rattle.leave_out.proofs.by_number.best.Goals as goal

pub loop-number-init : goal.loop-number-init
loop-number-init c =
    let a = c.args in
    let back = take a.n a.back.now in
    let q : a.n ≡ a.n + 0 = omega arith in
    let e = c.requires.back ∙ ap (λ (k : ℕ). best_of (passes a.rows.now) a.n k) q in
    subst (IsFound back a.n (record { number = 65536; size = c.count.result })) e (found_back back a.n c.count.result c.count.ensures.0)

pub better-found-requires : goal.better-found-requires
better-found-requires c = (c.requires.few.0, omega (arith, c.requires.few.1, c.loop-number-test.true), c.requires.few.2)

pub loop-number-preserved : goal.loop-number-preserved
loop-number-preserved c =
    let l = c.loop-number in
    let a = c.args in
    let t = passes a.rows.now in
    let back = take a.n a.back.now in
    let best = best_of t a.n (a.n + l.number) in
    let q : a.n + l.number + 1 ≡ a.n + (l.number + 1) = omega arith in
    subst (IsFound back a.n c.better-found.result)
    (best-next t a.n (a.n + l.number) (set_of a.n l.number) best _ refl (tried-number a.n best l.number) refl ∙ ap (λ (k : ℕ). best_of t a.n k) q)
    (c.better-found.ensures back best l.invariant)

pub returns-then-better : goal.returns-then-better
returns-then-better c =
    let l = c.loop-number in
    let a = c.args in
    let e : l.number ≡ a.tries = omega (arith, l.auto, c.loop-number-test.false) in
    c.set_of.ensures
    ∙ ap (λ (b : Bool). cond b (set_of a.n l.found.number) (take a.n a.back.now)) (sym (lt-ltb l.found.number 65536 c.if-better.true))
    ∙ l.invariant.0 ∙ ap (λ (k : ℕ). best_of (passes a.rows.now) a.n (a.n + k)) e

pub returns : goal.returns
returns c =
    let l = c.loop-number in
    let a = c.args in
    let e : l.number ≡ a.tries = omega (arith, l.auto, c.loop-number-test.false) in
    ap (λ (b : Bool). cond b (set_of a.n l.found.number) (take a.n a.back.now)) (sym (le-ltb l.found.number 65536 c.if-better.false))
    ∙ l.invariant.0 ∙ ap (λ (k : ℕ). best_of (passes a.rows.now) a.n (a.n + k)) e
