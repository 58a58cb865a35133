-- `best::numbered` meets its contract: all sets, or none.
use Rattle.std.proofs.Common.{◌^◌, Bool, cond, sym, ap, ◌∙◌, arith}
use borrow.Author.Tests.{le-leb, lt-leb}
use Rattle.leave_out.proofs.best.numbered.Goals as goal

pub returns-then-few : goal.returns-then-few
returns-then-few c =
    let n = c.args.n in (
      c.sets.ensures.0 ∙ ap (λ (b : Bool). cond b (2 ^ n) 0) (sym (le-leb n 16 (omega (arith, c.if-few.true)))),
      c.sets.ensures.1,
    )

pub returns : goal.returns
returns c = (ap (λ (b : Bool). cond b (2 ^ c.args.n) 0) (sym (lt-leb c.args.n 16 (omega (arith, c.if-few.false)))), omega arith)
