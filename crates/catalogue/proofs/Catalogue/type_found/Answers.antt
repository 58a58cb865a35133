-- `Catalogue::type_found` meets its contract: the value behind the key that is found. As `effect_mark`, by the law of a type: one law for
-- both would take the two as arguments.
use mathlib.Core.Path.{◌∙◌, sym, ap}
use native.Mathlib.Omega.{arith}
use Rattle.std.specs.Prelude.{Some}
use mir.Syntax.{w32}
use mir.ValLaws.{to_z-of_z}
use Rattle.words.specs.Words.{given}
use Rattle.keys.proofs.Parts.{place-below}
use Rattle.catalogue.proofs.Finding.{type_told}
use Rattle.catalogue.proofs.Catalogue.type_found.Goals as goal

pub place_at-requires : goal.place_at-requires
place_at-requires c =
    let e = c.type_keys.ensures in
    rw (e.0, e.1, to_z-of_z w32 c.args.id c.ranges.id) c.requires

pub returns-in_err-i : goal.returns-in_err-i
unfolding given
returns-in_err-i c =
    let e = c.type_keys.ensures in
    c.from_residual.ensures ∙ type_told c.args.self.now c.in_err-i.ensures c.args.id e.0 e.1 (to_z-of_z w32 c.args.id c.ranges.id)

pub type_at-requires : goal.type_at-requires
type_at-requires c = omega (arith, c.type_keys.ensures.1, place-below _ _ _ _ (sym c.in_ok-i.ensures))

pub returns : goal.returns
unfolding given
returns c =
    let e = c.type_keys.ensures in
    ap Some c.type_at.ensures ∙ type_told c.args.self.now c.in_ok-i.ensures c.args.id e.0 e.1 (to_z-of_z w32 c.args.id c.ranges.id)
