-- What a check that refused says of the conditions behind it: the first that holds is its own.
use Prim.Native.Nat.{ℕ, ◌<◌}
use native.Mathlib.Omega.{arith}
use mathlib.Core.Path.{◌≡◌, sym, ◌∙◌}
use mathlib.Core.Bool.{Bool}
use mathlib.Core.List.{List, ◌++◌}
use Rattle.words.specs.Words.{first_of}
use Rattle.numbers.specs.Refused.{number}
use Rattle.numbers.specs.declared.refusals.Refusal.{Refusal}
use Rattle.numbers.proofs.Refused.{some-number}
use Rattle.calls.proofs.First.{first-kept}

module _ (e : Refusal) (l : List (ℕ × Bool)) (told : number e ≡ first_of l) where
  pub holds : 0 < first_of l
  holds = omega (arith, told, some-number e)

  pub stays : (m : List (ℕ × Bool)) → number e ≡ first_of (l ++ m)
  stays m = told ∙ sym (first-kept l m holds)
