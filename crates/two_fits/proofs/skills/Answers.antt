-- `two_fits::skills` meets its contract: the two contracts of the skill call, and the promise on what they leave.
use Rattle.lists.specs.Terms.{limited, read_by, main}
use Rattle.fitcheck.specs.Calls.{skill_call}
use Rattle.promises.proofs.Comparing.{skills-kept}
use Rattle.promises.proofs.Hauling.{haul_skills}
use Rattle.two_fits.specs.Kept.{SkillsKept, SkillsHauled}
use Rattle.two_fits.proofs.Left.{left_is, of_both}
use Rattle.two_fits.proofs.skills.Goals as goal

pub returns : goal.returns
returns c =
    let a = c.args in
    let catalogue = a.catalogue.now in
    let t = limited a.first.pairs a.first.skills (read_by a.reader main) in
    let t' = limited a.second.pairs a.second.skills (read_by a.reader main) in
    let old = a.old.now in
    let new = a.new.now in
    let e = left_is a.before.now (skill_call t catalogue old a.res a.before.now) c.fit_skill-a.ensures in
    let e' = left_is a.after.now (skill_call t' catalogue new a.res a.after.now) c.fit_skill-b.ensures in
    let kept = skills-kept t t' catalogue old new a.before.now a.after.now a.res in
    let hauled = haul_skills t t' catalogue old new a.before.now a.after.now a.res in
    (e, e', of_both (SkillsKept old new) e e' kept, of_both (SkillsHauled old new) e e' hauled)
