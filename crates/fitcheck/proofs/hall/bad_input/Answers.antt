-- `hall::bad_input` meets its contract: each test that fails contradicts what `Laid` says; where none does, all of it holds.
use native.Mathlib.Omega.{arith}
use mathlib.Core.Path.{sym}
use Rattle.fitcheck.proofs.HallLaws.{laid_long, input_good, input_bad}
use Rattle.fitcheck.proofs.hall.bad_input.Goals as goal

pub returns-then-input-lt4 : goal.returns-then-input-lt4
returns-then-input-lt4 c = sym (input_bad _ (λ l. omega (arith, laid_long _ l)))

pub returns-then-n-gt-MOST_FITS : goal.returns-then-n-gt-MOST_FITS
returns-then-n-gt-MOST_FITS c = sym (input_bad _ (λ l. omega arith))

pub returns-then-input-n : goal.returns-then-input-n
returns-then-input-n c = sym (input_bad _ (λ l. omega (arith, laid_long _ l)))

pub returns-then-fits_end-input : goal.returns-then-fits_end-input
returns-then-fits_end-input c = sym (input_bad _ (λ l. omega (arith, l.size)))

pub returns : goal.returns
returns c = sym (input_good _ (record { few = omega arith; size = omega arith }))
