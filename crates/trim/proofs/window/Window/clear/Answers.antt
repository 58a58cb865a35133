-- `Window::clear` meets its contract: no place is marked.
use mathlib.Core.Path.{refl}
use Rattle.trim.proofs.Marking.{marked-none}
use Rattle.trim.proofs.window.Window.clear.Goals as goal

pub returns : goal.returns
returns c = record {
  catalogue = refl;
  low = refl;
  marks = marked-none c.args.self.now.catalogue.now c.args.low c.clear.new.marks c.clear.ensures.none;
}
