-- `training::new_skill` meets its contract: a skill that is wanted at no level lacks nothing, and one that is not listed has level 0.
use native.Mathlib.Omega.{arith}
use mathlib.Core.Path.{◌∙◌, ap, sym}
use lib.IntN.{ℤ}
use mir.ValLaws.{to_z-of_z}
use mir.Syntax.{w32}
use Rattle.words.specs.Words.{contains}
use Rattle.fit.specs.Fit.{fit_of}
use Rattle.training.proofs.Counting.{new-unwanted, new-listed, new-lacking}
use Rattle.training.proofs.new_skill.Goals as goal

pub returns-then-wanted-eq0 : goal.returns-then-wanted-eq0
returns-then-wanted-eq0 c =
    let a = c.args in
    (new-unwanted (fit_of a.fit.now) a.id a.wanted (omega (arith, c.if-wanted-eq0.true)), omega arith)

pub returns-then-is_listed : goal.returns-then-is_listed
returns-then-is_listed c =
    let a = c.args in
    let told = sym (c.is_listed.ensures ∙ ap (λ (z : ℤ). contains z (fit_of a.fit.now).skills) (to_z-of_z w32 a.id c.ranges.id)) in
    (new-listed (fit_of a.fit.now) a.id a.wanted (told ∙ c.if-is_listed.true), omega arith)

pub returns : goal.returns
returns c =
    let a = c.args in
    let told = sym (c.is_listed.ensures ∙ ap (λ (z : ℤ). contains z (fit_of a.fit.now).skills) (to_z-of_z w32 a.id c.ranges.id)) in
    (new-lacking (fit_of a.fit.now) a.id a.wanted (λ e. omega (arith, e, c.if-wanted-eq0.false)) (told ∙ c.if-is_listed.false), omega arith)
