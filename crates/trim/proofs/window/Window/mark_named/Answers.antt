-- `Window::mark_named` meets its contract: one kind of ids after the other.
use Prim.Native.Nat.{◌+◌, ◌*◌}
use mathlib.Core.Path.{◌∙◌}
use mir.Syntax.{w32}
use mir.ValLaws.{to_z-of_z}
use borrow.Author.Rules.{rules}
use Rattle.image.specs.Bytes.{i32_at}
use Rattle.fit.specs.Fit.{skills_at, item_at}
use Rattle.trim.proofs.Marking.{more-more, more-same}
use Rattle.trim.proofs.Naming.{named-of}
use Rattle.trim.proofs.window.Window.mark_named.Goals as goal

pub returns : goal.returns
returns c =
    let b = c.args.fit.now in
    let ship = to_z-of_z w32 c.ship.result (record { sfits = c.ship.type_inv }) ∙ c.ship.ensures in
    let skills = c.mark_all.ensures (λ i. i32_at b (skills_at b + 4 * i)) (λ i r h q. search rules) in
    let items = c.mark_all-2.ensures (λ i. (item_at b i).type) (λ i r h q. search rules) in
    more-same _ _ _ _ (named-of b _ _ _ ship c.skill_count.ensures c.item_count.ensures)
    (more-more _ _ _ _ _ (more-more _ _ _ _ _ (more-more _ _ _ _ _ c.mark.ensures c.mark_mode.ensures) skills) items)
