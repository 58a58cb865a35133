-- `resource::resource` meets its contract: an entry where the load is over.
use Rattle.std.proofs.Common.{Bool, ap}
use Rattle.words.specs.Words.{when}
use Rattle.entry.specs.declared.Rule.TheVariants.{Resource}
use Rattle.entry.specs.Entries.{on_ship}
use Rattle.entry.proofs.Emitted.{emitted-same}
use Rattle.resource.specs.Resource.{resource}
use Rattle.resource.proofs.resource.Goals as goal

pub returns : goal.returns
unfolding resource
returns c =
    let a = c.args in
    let e = on_ship (Resource a.kind a.load.used a.load.available) in
    emitted-same (ap (λ (b : Bool). when b e) c.over.ensures) c.emit_when.ensures
