-- `hall::length_at` meets its contract: the lengths stand behind the count, four bytes each.
use native.Mathlib.Omega.{arith}
use Rattle.fitcheck.proofs.hall.length_at.Goals as goal

pub overflow_mul-i : goal.overflow_mul-i
overflow_mul-i c = omega arith

pub overflow_add-i : goal.overflow_add-i
overflow_add-i c = omega arith

pub size_at-requires : goal.size_at-requires
size_at-requires c = omega arith

pub returns : goal.returns
returns c = c.size_at.ensures
