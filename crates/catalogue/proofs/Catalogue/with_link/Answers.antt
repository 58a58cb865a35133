-- `Catalogue::with_link` meets its contract: the mark of the link's effect, where the effect is there.
use mathlib.Core.Path.{refl}
use mir.Syntax.{w32}
use mir.ValLaws.{to_z-of_z}
use Rattle.words.specs.Words.{◌>>=◌}
use Rattle.catalogue.proofs.Catalogue.with_link.Goals as goal

pub returns-in-Some : goal.returns-in-Some
unfolding ◌>>=◌
returns-in-Some c =
    let i = c.id_at-effect in
    let e = c.links.ensures in
    let told = rw (to_z-of_z w32 i.result (record { sfits = i.type_inv }), i.ensures, c.bytes.ensures.0, e.0, e.1) at (rw (← c.self.view_is) at c.in-Some.ensures) in
    rw (← c.self.view_is, ← told) c.with_mark.ensures

pub returns-in-None : goal.returns-in-None
unfolding ◌>>=◌
returns-in-None c =
    let i = c.id_at-effect in
    let e = c.links.ensures in
    let told = rw (to_z-of_z w32 i.result (record { sfits = i.type_inv }), i.ensures, c.bytes.ensures.0, e.0, e.1) at (rw (← c.self.view_is) at c.in-None.ensures) in
    rw (← c.self.view_is, ← told) (record { rack = refl; hardpoint = refl })
