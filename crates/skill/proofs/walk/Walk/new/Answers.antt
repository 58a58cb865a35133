-- `skill::Walk::new` meets its contract: no place is read, and all are zero.
use mathlib.Core.Path.{refl}
use lib.IntN.{pos}
use Rattle.skill.proofs.Zips.{zip_none}
use Rattle.skill.proofs.walk.Walk.new.Goals as goal

pub returns : goal.returns
returns c = (zip_none (pos 0) 0 _ _, refl, refl, refl)
