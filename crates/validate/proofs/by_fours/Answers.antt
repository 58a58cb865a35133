-- `validate::by_fours` meets its contract: four skills more each turn.
use Prim.Native.Nat.{◌*◌}
use native.Mathlib.Omega.{arith}
use Rattle.entry.proofs.Emitted.{emitted-table_none}
use Rattle.catalogue.specs.Catalogue.{catalogue_of}
use Rattle.validate.specs.Kind.{not_a_skill_at}
use Rattle.validate.specs.Skills.{skill_at}
use Rattle.validate.proofs.Tests.{skills-few}
use Rattle.validate.proofs.by_fours.Goals as goal

pub loop-k-init : goal.loop-k-init
loop-k-init c =
    let x = c.args.context.now in
    emitted-table_none (not_a_skill_at (catalogue_of x.catalogue.now)) (skill_at x.fit.now) _

pub four_skills-requires : goal.four_skills-requires
four_skills-requires c =
    let x = c.args.context.now in
    let few = skills-few (catalogue_of x.catalogue.now) x.fit.now (4 * c.loop-k.k) c.loop-k.invariant in
    (omega (arith, c.requires.0), omega (arith, few, c.requires.1, c.requires.0, x.gathered.fit_sound.sized.skills))
