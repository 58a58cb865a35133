-- `Fit::ids_of` meets its contract: of all ids, the result's.
use Prim.Native.Nat.{ℕ, ◌+◌, ◌*◌}
use mathlib.Core.Path.{◌∙◌, ap}
use lib.ListN.{take, drop}
use Rattle.fit.specs.Fit.{ids_at, count_at, start_at}
use Rattle.fit.specs.Sound.{ids_part}
use Rattle.fit.proofs.Fit.ids_of.Goals as goal

pub returns : goal.returns
unfolding ids_part
returns c =
    let a = c.args in
    let b = a.self.now in
    c.part_of.ensures ∙ ap (λ (first : ℕ). take (4 * count_at b a.j) (drop (first + 4 * start_at b a.j) b)) (c.ids_at.ensures ∙ ap ids_at c.layout.ensures)
