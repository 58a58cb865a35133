-- `Window::mark_all` meets its contract. The invariant: the runs of the first i ids are marked.
use Rattle.std.proofs.Common.{ℕ, ◌≡◌, ◌-◌, ◌<◌, ◌≤◌}
use Rattle.words.specs.Words.{table}
use Rattle.catalogue.specs.Catalogue.{Id}
use Rattle.trim.specs.Windows.{MarkedMore}
use Rattle.trim.proofs.window.Window.mark_all.Given as goal

abbrev pub invariant-loop-i : goal.invariant-loop-i
invariant-loop-i g l =
    (l.i ≤ l.n)
    × ((f : ℕ → Id) → ((i : ℕ) (r : Id) → i < l.n → goal.F-post g l.id_at i r → r ≡ f i) → MarkedMore l.fn.self l.self (table l.i f))

abbrev pub decreases-loop-i : goal.decreases-loop-i
decreases-loop-i g l = l.n - l.i
