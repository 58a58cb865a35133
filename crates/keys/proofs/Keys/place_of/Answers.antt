-- `Keys::place_of` meets its contract: the search, and what stands where it ends.
use Rattle.std.proofs.Common.{ap, ◌∙◌, w32}
use mir.ValLaws.{to_z-of_z}
use Rattle.keys.specs.Keys.{place_of}
use Rattle.keys.proofs.Keys.place_of.Goals as goal

pub returns : goal.returns
returns c =
    c.place_at.ensures ∙ ap (place_of c.args.self.now.bytes.now c.args.self.now.n) (to_z-of_z w32 c.args.id c.ranges.id)
