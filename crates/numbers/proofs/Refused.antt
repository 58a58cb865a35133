-- The number of a refusal is one of 1 to 20.
use Rattle.std.proofs.Common.{◌<◌, ◌≤◌, arith}
use Rattle.numbers.specs.Refusals as Refusals
use Rattle.numbers.specs.Refused.{number}
use Rattle.numbers.specs.declared.refusals.Refusal.{Refusal}

pub some-number : (e : Refusal) → 0 < number e
some-number e = grind arith

pub no_higher : (e : Refusal) → number e ≤ Refusals.highest
no_higher e = grind arith
