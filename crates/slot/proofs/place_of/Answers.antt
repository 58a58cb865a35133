-- `slot::place_of` meets its contract: an index has 16 bits.
use native.Mathlib.Omega.{arith}
use Rattle.slot.proofs.place_of.Goals as goal

pub overflow_mul-result : goal.overflow_mul-result
overflow_mul-result c = omega arith

pub overflow_add-result : goal.overflow_add-result
overflow_add-result c = omega arith

pub returns : goal.returns
returns c = record { number = omega arith; small = omega arith }
