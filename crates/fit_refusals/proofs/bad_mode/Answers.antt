-- `fit_refusals::bad_mode` meets its contract: each return is the test at what led there.
use native.Mathlib.Omega.{arith}
use borrow.Author.Tests.{lt-ltb, le-ltb, eq-eqb, ne_eqb}
use Rattle.fit_refusals.proofs.bad_mode.Goals as goal

pub returns-then-flag-gt-LAST_MODE_FLAG : goal.returns-then-flag-gt-LAST_MODE_FLAG
returns-then-flag-gt-LAST_MODE_FLAG c = simp (lt-ltb 1 c.args.flag (omega arith))

pub returns-then-flag-eq0 : goal.returns-then-flag-eq0
returns-then-flag-eq0 c = let flag = c.args.flag in simp (le-ltb 1 flag (omega arith), eq-eqb flag 0 (omega arith))

pub returns : goal.returns
returns c = let flag = c.args.flag in simp (le-ltb 1 flag (omega arith), ne_eqb flag 0 (λ e. omega (arith, e)))
