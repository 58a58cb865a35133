-- `Catalogue::effect_mark` meets its contract: the mark behind the key that is found.
use native.Mathlib.Omega.{arith}
use mathlib.Core.Path.{◌∙◌, sym, ap}
use Rattle.std.specs.Prelude.{Some}
use mir.Syntax.{w32}
use mir.ValLaws.{to_z-of_z}
use Rattle.words.specs.Words.{given}
use Rattle.keys.proofs.Parts.{place-below}
use Rattle.catalogue.proofs.Finding.{effect_told}
use Rattle.catalogue.proofs.Catalogue.effect_mark.Goals as goal

pub returns-in_err-i : goal.returns-in_err-i
unfolding given
returns-in_err-i c =
    let e = c.effect_keys.ensures in
    c.from_residual.ensures ∙ effect_told c.args.self.now c.in_err-i.ensures c.args.id e.0 e.1 (to_z-of_z w32 c.args.id c.ranges.id)

pub mark_at-requires : goal.mark_at-requires
mark_at-requires c = omega (arith, c.effect_keys.ensures.1, place-below _ _ _ _ (sym c.in_ok-i.ensures))

pub returns : goal.returns
unfolding given
returns c =
    let e = c.effect_keys.ensures in
    ap Some c.mark_at.ensures ∙ effect_told c.args.self.now c.in_ok-i.ensures c.args.id e.0 e.1 (to_z-of_z w32 c.args.id c.ranges.id)
