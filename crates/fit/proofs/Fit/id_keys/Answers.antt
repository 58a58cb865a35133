-- `Fit::id_keys` meets its contract: a sound fit's ids are in order in each result.
use native.Mathlib.Omega.{arith}
use mathlib.Core.Path.{◌∙◌}
use Rattle.fit.proofs.Searches.{part-sorted, ids-count}
use Rattle.fit.proofs.Fit.id_keys.Goals as goal

pub new-requires : goal.new-requires
new-requires c = (omega arith, part-sorted c.args.self.now c.is_sound.ensures c.args.j c.requires c.ids_of-ids.ensures)

pub returns : goal.returns
returns c = (
  c.new.ensures.0 ∙ c.ids_of-ids.ensures,
  omega (arith, c.new.ensures.1, ids-count c.args.self.now c.is_sound.ensures c.args.j c.requires c.ids_of-ids.ensures),
)
