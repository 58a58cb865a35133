-- `validate::not_a_mode` meets its contract, by whether a mode is chosen.
use native.Mathlib.Omega.{arith}
use mathlib.Core.Path.{sym, ap, ◌∙◌}
use mir.Syntax.{w32}
use mir.ValLaws.{to_z-of_z}
use Rattle.catalogue.specs.Catalogue.{catalogue_of}
use Rattle.fit.specs.Fit.{mode_of, fit_of}
use Rattle.validate.specs.Kind.{is_mode}
use Rattle.validate.proofs.Tests.{mode-none, mode-some, mode-few}
use borrow.Author.Rules.{rules}
use Rattle.validate.proofs.not_a_mode.Goals as goal

pub returns-in_default : goal.returns-in_default
returns-in_default c =
    let x = c.args.context.now in
    let e = sym c.mode.ensures ∙ c.in_default.is in
    (mode-none (catalogue_of x.catalogue.now) (mode_of (fit_of x.fit.now).frame) e, omega arith)

pub returns-in-Some : goal.returns-in-Some
returns-in-Some c =
    let x = c.args.context.now in
    let cat = catalogue_of x.catalogue.now in
    let mode = mode_of (fit_of x.fit.now).frame in
    let e = sym c.mode.ensures ∙ c.in-Some.is in
    let q = c.is_mode.ensures ∙ ap (is_mode cat) (to_z-of_z w32 c.in-Some.mode (search rules)) in
    let v = mode-some cat mode c.in-Some.mode _ e q c.emit_when.ensures in
    (v, omega (arith, v.count, mode-few cat mode))
