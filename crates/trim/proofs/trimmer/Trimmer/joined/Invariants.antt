-- `Trimmer::joined` meets its contract. The invariant: a stretch up to the first record goes on up to the last.
use Prim.Native.Nat.{ℕ, ◌+◌, ◌-◌, ◌≤◌}
use Rattle.trim.specs.Marked.{Stretch}
use Rattle.trim.specs.Parts.{at_of, size_of, first_of}
use Rattle.trim.specs.Trimmers.{ids_in}
use Rattle.trim.proofs.trimmer.Trimmer.joined.Given as goal

abbrev pub invariant-loop-last : goal.invariant-loop-last
invariant-loop-last l =
    let t = l.fn.self in
    let b = t.window.catalogue.now in
    let at = at_of b l.fn.part in
    let n = size_of b l.fn.part in
    (l.last ≤ n) × (t.window.low ≤ first_of b l.fn.part + l.last)
    × ((i f : ℕ) → Stretch b at n (ids_in t) i f l.fn.to → Stretch b at n (ids_in t) i f l.last)

abbrev pub decreases-loop-last : goal.decreases-loop-last
decreases-loop-last l = size_of l.fn.self.window.catalogue.now l.fn.part - l.last
