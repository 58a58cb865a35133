-- `profile::any_too_dear` meets its contract. The invariant: the verdict so far is that of the first i groups.
use Rattle.std.proofs.Common.{◌≡◌, ◌+◌, ◌*◌}
use Rattle.words.specs.Words.{table, any_of}
use Rattle.image.specs.Bytes.{u32_at}
use Rattle.profile.specs.Profile.{too_dear}
use Rattle.profile.proofs.any_too_dear.Given as goal

abbrev pub invariant-loop-i : goal.invariant-loop-i
invariant-loop-i l = l.found ≡ any_of too_dear (table l.i (λ j. u32_at l.profile (4 + 4 * l.n + 4 * j)))
