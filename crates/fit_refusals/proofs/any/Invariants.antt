-- `fit_refusals::any` meets its contract. The invariant: the verdict so far is that of the first i.
use Rattle.std.proofs.Common.{ℕ, Bool, ◌≡◌, ◌<◌}
use Rattle.words.specs.Words.{any_of, table}
use Rattle.fit_refusals.proofs.any.Given as goal

abbrev pub invariant-loop-i : goal.invariant-loop-i
invariant-loop-i g l =
    (p : ℕ → Bool) → ((i : ℕ) (r : Bool) → i < l.n → goal.F-post g l.is_bad i r → r ≡ p i) → l.bad ≡ any_of (λ r. r) (table l.i p)
