-- `fit_refusals::in_bay` meets its contract: each return is the test at what led there.
use native.Mathlib.Omega.{arith}
use borrow.Author.Tests.{eq-eqb, ne_eqb}
use Rattle.fit_refusals.proofs.in_bay.Goals as goal

pub returns-then-slot-eq-FIGHTER_BAY : goal.returns-then-slot-eq-FIGHTER_BAY
returns-then-slot-eq-FIGHTER_BAY c = simp (eq-eqb c.args.slot 7 (omega arith))

pub returns-then-slot-eq-DRONE_BAY : goal.returns-then-slot-eq-DRONE_BAY
returns-then-slot-eq-DRONE_BAY c = let slot = c.args.slot in simp (ne_eqb slot 7 (λ e. omega (arith, e)), eq-eqb slot 10 (omega arith))

pub returns : goal.returns
returns c = let slot = c.args.slot in simp (ne_eqb slot 7 (λ e. omega (arith, e)), ne_eqb slot 10 (λ e. omega (arith, e)))
