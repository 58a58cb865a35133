-- `best::left_out` meets its contract: each pair in turn, then sets by number.
use Rattle.std.proofs.Common.{◌≡◌, ◌+◌, ◌-◌, ℕ, ap, ◌∙◌, arith}
use Rattle.leave_out.specs.Held.{passes, best_of}
use Rattle.leave_out.proofs.Trying.{few-numbered}
use Rattle.leave_out.proofs.best.left_out.Goals as goal

pub best-requires : goal.best-requires
best-requires c =
    let a = c.args in
    let few = few-numbered a.n a.tries c.if-more.true c.requires.1 in
    record { few = (few.0, few.1, c.requires.2); back = c.put_back-back.ensures }

pub returns-then-more : goal.returns-then-more
returns-then-more c =
    let a = c.args in
    let q : a.n + (a.tries - a.n) ≡ a.tries = omega (arith, c.if-more.true) in
    c.best.ensures ∙ ap (λ (k : ℕ). best_of (passes a.rows.now) a.n k) q

pub put_back-requires : goal.put_back-requires
put_back-requires c =
    let a = c.args in
    (c.if-more.false, c.requires.0, c.requires.2)
