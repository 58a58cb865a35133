-- `best::put_back` meets its contract: one try more.
use Rattle.std.proofs.Common.{◌≡◌, ℕ, List, Bool, ap, ◌∙◌, arith}
use Rattle.cause.proofs.Trying.{every-first}
use Rattle.leave_out.specs.Held.{passes, better_by, best_of}
use Rattle.leave_out.proofs.Trying.{best_none, best-more}
use Rattle.leave_out.proofs.best.put_back.Goals as goal

pub loop-k-init : goal.loop-k-init
loop-k-init c = let a = c.args in every-first a.n 256 c.requires.1 ∙ best_none (passes a.rows.now) a.n

pub without-best-requires : goal.without-best-requires
without-best-requires c = (omega (arith, c.loop-k-test.true, c.requires.0), c.requires.1, c.requires.2)

pub loop-k-preserved : goal.loop-k-preserved
loop-k-preserved c =
    let l = c.loop-k in
    let a = c.args in
    let t = passes a.rows.now in
    c.without-best.ensures ∙ ap (λ (b : List Bool). better_by t a.n b l.k) l.invariant ∙ best-more t a.n l.k

pub returns : goal.returns
returns c =
    let l = c.loop-k in
    let a = c.args in
    let e : l.k ≡ a.tries = omega (arith, l.auto, c.loop-k-test.false) in
    l.invariant ∙ ap (λ (k : ℕ). best_of (passes a.rows.now) a.n k) e
