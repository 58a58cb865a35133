-- `skill::report_skill` meets its contract: an entry where the trained level is under the wanted one.
use Prim.Native.Nat.{ℕ}
use mathlib.Core.Path.{◌≡◌, ap, ap₂, ◌∙◌}
use lib.Dec.{ltb}
use mir.Syntax.{w32}
use mir.ValLaws.{to_z-of_z}
use Rattle.words.specs.Words.{when}
use Rattle.catalogue.specs.Catalogue.{Id}
use Rattle.fit.specs.Fit.{fit_of}
use Rattle.fit.specs.Lookups.{trained}
use Rattle.entry.specs.declared.Target.{Target}
use Rattle.entry.specs.declared.Rule.TheVariants.{Skill}
use Rattle.entry.proofs.Emitted.{emitted-same}
use Rattle.skill.specs.Skill.{entry_of}
use Rattle.skill.proofs.report_skill.Goals as goal

pub returns : goal.returns
unfolding entry_of
returns c =
    let w = c.args.wanted in
    let l = c.trained_level-trained in
    let t = c.target_of in
    let fit = fit_of c.args.fit.now in
    let id = to_z-of_z w32 c.args.id c.ranges.id in
    let level : l.result ≡ trained fit.skills fit.levels c.args.id = l.ensures ∙ ap (trained fit.skills fit.levels) id in
    emitted-same
    (ap (λ (z : Id). when (ltb l.result w) (record { target = t.result; rule = Skill z w l.result })) id
    ∙ ap₂ (λ (at : Target) (n : ℕ). when (ltb n w) (record { target = at; rule = Skill c.args.id w n })) t.ensures level)
    c.emit_when.ensures
