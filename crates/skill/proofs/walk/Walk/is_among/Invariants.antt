-- `skill::Walk::is_among` meets its contract. The invariant: the answer so far is that of the first i ids.
use mathlib.Core.Path.{◌≡◌}
use lib.ListN.{get_or}
use lib.IntN.{ℤ, pos}
use Rattle.words.specs.Words.{table, any_of, same}
use Rattle.skill.proofs.walk.Walk.is_among.Given as goal

abbrev pub invariant-loop-i : goal.invariant-loop-i
invariant-loop-i l = l.found ≡ any_of (λ (x : ℤ). same x l.id) (table l.i (λ k. get_or l.self.ids k (pos 0)))
