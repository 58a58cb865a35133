-- `Window::mark_walk` meets its contract: the ids of a walk are its first ones.
use mathlib.Core.Path.{sym}
use lib.IntN.{pos}
use lib.ListN.{get_or}
use borrow.Author.Rules.{rules}
use Rattle.trim.proofs.Marking.{more-same}
use Rattle.trim.proofs.Naming.{walk-ids}
use Rattle.trim.proofs.window.Window.mark_walk.Goals as goal

pub returns : goal.returns
returns c =
    let w = c.args.walk.now in
    more-same _ _ _ _ (sym (walk-ids w)) (c.mark_all.ensures (λ i. get_or w.ids i (pos 0)) (λ i r h q. search rules))
