-- `Window::mark_results` meets its contract: where one walk has room for all, it finds what each result wants.
use mathlib.Core.Path.{refl}
use Rattle.trim.proofs.Results.{wanted-together}
use Rattle.trim.proofs.window.Window.mark_results.Goals as goal

pub returns : goal.returns
returns c = wanted-together _ _ _ c.in-Ok.walk (c.in-Ok.ensures.holds _ refl) (c.in-Ok.ensures.few _ refl) c.mark_walk.ensures
