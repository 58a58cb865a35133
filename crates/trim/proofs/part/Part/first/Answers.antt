-- `Part::first` meets its contract: all records stand in the image, which is small.
use native.Mathlib.Omega.{arith}
use mathlib.Core.Path.{ap}
use lib.ListN.{length}
use Rattle.trim.proofs.part.Part.first.Goals as goal

pub overflow_add-result : goal.overflow_add-result
overflow_add-result c =
    omega (arith, c.is_sound.ensures.small, ap length c.blocks-blocks.ensures, c.types-in-Bases.ensures, c.links.ensures)
