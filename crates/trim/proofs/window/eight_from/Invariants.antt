-- `eight_from` meets its contract. The invariant: the first j ids are there.
use Rattle.std.proofs.Common.{ℕ, ◌≡◌, ◌+◌, ◌-◌, min, ◌<◌, length}
use Rattle.std.specs.Prelude.{slice_index_or, pos}
use Rattle.catalogue.specs.Catalogue.{Id}
use Rattle.trim.proofs.window.eight_from.Given as goal

abbrev pub invariant-loop-j : goal.invariant-loop-j
invariant-loop-j g l =
    (length l.ids ≡ 8)
    × ((f : ℕ → Id) → ((i : ℕ) (r : Id) → i < l.n → goal.F-post g l.id_at i r → r ≡ f i)
    → (k : ℕ) → k < l.j → slice_index_or l.ids k (pos 0) ≡ f (l.from + min k (l.n - 1 - l.from)))
