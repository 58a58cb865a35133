-- `catalogue_refusals::any_above` meets its contract. The invariant: the verdict so far is that of the first i numbers.
use Rattle.std.proofs.Common.{◌≡◌, ◌+◌, ◌*◌, ltb}
use Rattle.words.specs.Words.{table, any_of}
use Rattle.image.specs.Bytes.{u32_at}
use Rattle.catalogue_refusals.proofs.any_above.Given as goal

abbrev pub invariant-loop-i : goal.invariant-loop-i
invariant-loop-i l = l.found ≡ any_of (ltb l.limit) (table l.i (λ j. u32_at l.b (l.at + l.step * j)))
