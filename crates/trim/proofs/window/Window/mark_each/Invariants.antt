-- `Window::mark_each` meets its contract. The invariant: none of the first results wants too many skills, and what they want is marked.
use mathlib.Core.Path.{◌≡◌}
use mathlib.Core.Bool.{false}
use Rattle.words.specs.Words.{any_of, table}
use Rattle.fit.specs.Fit.{result_of}
use Rattle.trim.specs.Windows.{MarkedMore}
use Rattle.trim.proofs.Results.{over, wanted_to}
use Rattle.trim.proofs.window.Window.mark_each.Given as goal

abbrev pub invariant-loop-res : goal.invariant-loop-res
invariant-loop-res l =
    let b = l.initial.self.catalogue.now in
    (any_of (over b) (table l.res (result_of l.fit)) ≡ false) × MarkedMore l.initial.self l.self (wanted_to b l.fit l.res)
