-- `Window::fill` meets its contract: no marks, then what the fit names, then what its results want.
use Rattle.trim.proofs.Results.{filled}
use Rattle.trim.proofs.window.Window.fill.Goals as goal

pub returns : goal.returns
returns c = filled _ _ _ _ _ _ _ c.clear.ensures c.mark_named.ensures c.mark_results.ensures
