-- `validate::not_a_skill` meets its contract: four at a time, then those that are left.
use Prim.Native.Nat.{◌*◌, ◌/◌}
use native.Mathlib.Omega.{arith}
use Rattle.catalogue.specs.Catalogue.{catalogue_of}
use Rattle.fit.specs.Fit.{skill_count, fit_of}
use Rattle.validate.specs.Kind.{not_a_skill}
use Rattle.validate.proofs.Tests.{skills-few}
use Rattle.validate.proofs.not_a_skill.Goals as goal

pub one_by_one-requires : goal.one_by_one-requires
one_by_one-requires c =
    let x = c.args.context.now in
    let few = skills-few (catalogue_of x.catalogue.now) x.fit.now (4 * (c.searched-count.result / 4)) c.by_fours.ensures in
    let count = c.searched-count.ensures in
    (omega (arith, count), omega (arith, few, count, c.requires, x.gathered.fit_sound.sized.skills))

pub returns : goal.returns
unfolding not_a_skill fit_of
returns c =
    let x = c.args.context.now in
    let all = c.one_by_one.ensures _ c.by_fours.ensures in
    (all, omega (arith, skills-few (catalogue_of x.catalogue.now) x.fit.now (skill_count x.fit.now) all, x.gathered.fit_sound.sized.skills))
