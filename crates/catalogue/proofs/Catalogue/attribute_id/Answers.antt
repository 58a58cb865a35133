-- `Catalogue::attribute_id` meets its contract: the id behind the number that is found; no number is over 87.
use mathlib.Core.Path.{◌∙◌, sym, ap}
use native.Mathlib.Omega.{arith}
use Rattle.std.specs.Prelude.{Some}
use mir.Syntax.{w32}
use mir.ValLaws.{to_z-of_z, to_z_pos}
use Rattle.words.specs.Words.{given}
use Rattle.keys.proofs.Parts.{place-below}
use Rattle.catalogue.proofs.Finding.{name_told, name_none}
use Rattle.catalogue.proofs.Catalogue.attribute_id.Goals as goal

pub returns-then-name-gt-REQUIRED_SKILL_6_LEVEL : goal.returns-then-name-gt-REQUIRED_SKILL_6_LEVEL
returns-then-name-gt-REQUIRED_SKILL_6_LEVEL c =
    rw (← c.self.view_is) (
    sym (name_none c.self.inside.blocks c.self.invariant c.args.name c.if-name-gt-REQUIRED_SKILL_6_LEVEL.true)
    )

pub returns-in_err-i : goal.returns-in_err-i
unfolding given
returns-in_err-i c =
    rw (← c.self.view_is) (
    let e = rw (← c.self.view_is) at c.name_keys.ensures in
    c.from_residual.ensures ∙ name_told c.self.inside.blocks c.in_err-i.ensures c.self.invariant c.args.name e.0 e.1 (to_z_pos w32 c.args.name (omega arith))
    )

pub id_at-requires : goal.id_at-requires
id_at-requires c =
    let e = rw (← c.self.view_is) at c.name_keys.ensures in
    (rw c.bytes-bytes.ensures.0 (omega (arith, c.names.ensures, c.self.invariant.size)), omega (arith, c.names.ensures.1, e.1, place-below _ _ _ _ (sym c.in_ok-i.ensures)))

pub returns : goal.returns
unfolding given
returns c =
    rw (← c.self.view_is) (
    let e = rw (← c.self.view_is) at c.name_keys.ensures in
    let i = c.id_at in
    ap Some (to_z-of_z w32 i.result (record { sfits = i.type_inv }) ∙ i.ensures ∙ rw (c.bytes-bytes.ensures.0, c.names.ensures.0, c.names.ensures.1))
    ∙ name_told c.self.inside.blocks c.in_ok-i.ensures c.self.invariant c.args.name e.0 e.1 (to_z_pos w32 c.args.name (omega arith))
    )
