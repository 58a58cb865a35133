-- `Window::mark_ids` meets its contract. The invariant: the runs of the first j ids are marked.
use lib.ListN.{take}
use Rattle.trim.specs.Windows.{MarkedMore}
use Rattle.trim.proofs.window.Window.mark_ids.Given as goal

abbrev pub invariant-loop-j : goal.invariant-loop-j
invariant-loop-j g l = MarkedMore l.fn.self l.self (take l.j l.ids)
