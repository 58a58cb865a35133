-- `kept::thinned` meets its contract. The invariant: the last k pairs are tried.
use Rattle.std.proofs.Common.{◌≡◌, ◌-◌, length}
use lib.ListN.{take}
use Rattle.context.specs.Gathered.{pair_count}
use Rattle.parts.specs.Parts.{every, down_from, thinned}
use Rattle.cause.specs.Decided.{passes, Untried}
use Rattle.cause.proofs.kept.thinned.Given as goal

abbrev pub invariant-loop-k : goal.invariant-loop-k
invariant-loop-k l =
    let x = l.fn.context in
    let n = pair_count x.fit.now in
    let t = passes x l.fn.shown.own l.fn.deciding in
    (length l.kept ≡ 256) × Untried (n - l.k) l.kept × (thinned t (take n l.kept) (down_from (n - l.k)) ≡ thinned t (every n) (down_from n))
