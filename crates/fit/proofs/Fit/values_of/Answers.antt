-- `Fit::values_of` meets its contract: of all values, the result's.
use Prim.Native.Nat.{ℕ, ◌+◌, ◌*◌}
use mathlib.Core.Path.{◌∙◌, ap}
use lib.ListN.{take, drop}
use Rattle.fit.specs.Fit.{values_at, count_at, start_at}
use Rattle.fit.specs.Sound.{values_part}
use Rattle.fit.proofs.Fit.values_of.Goals as goal

pub returns : goal.returns
unfolding values_part
returns c =
    let a = c.args in
    let b = a.self.now in
    c.part_of.ensures ∙ ap (λ (first : ℕ). take (8 * count_at b a.j) (drop (first + 8 * start_at b a.j) b)) (c.values_at.ensures ∙ ap values_at c.layout.ensures)
