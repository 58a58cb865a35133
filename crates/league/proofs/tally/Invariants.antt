-- `league::tally` meets its contract. The invariant: rule 24 and the points of the first i pairs, at most 1,000,000 each.
use Prim.Native.Nat.{◌*◌, ◌≤◌}
use mathlib.Core.Path.{◌≡◌}
use Rattle.words.specs.Words.{table}
use Rattle.numbers.specs.Sizes as Sizes
use Rattle.profile.specs.Profile.{prices_of}
use Rattle.context.specs.Gathered.{pair_at}
use Rattle.context.proofs.Loops.{Passed}
use Rattle.league.specs.League.{banned_at, points}
use Rattle.league.proofs.tally.Given as goal

abbrev pub invariant-loop-i : goal.invariant-loop-i
invariant-loop-i l =
    Passed l.context.catalogue.now l.context.fit.now (banned_at (prices_of l.profile)) l.initial.entries l.entries l.i
    × (l.points ≡ points (prices_of l.profile) (table l.i (pair_at l.context.catalogue.now l.context.fit.now)))
    × (l.points ≤ Sizes.most_points * l.i)
