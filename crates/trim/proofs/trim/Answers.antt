-- `trim::trim` meets its contract: refusal 9 where the first window cannot be marked, then what is kept is written.
use Prim.Native.Nat.{ℕ}
use native.Mathlib.Omega.{arith}
use mathlib.Core.Path.{◌≡◌, refl, sym, subst}
use mathlib.Core.List.{List}
use Rattle.numbers.specs.Refusals as Refusals
use Rattle.catalogue.specs.Catalogue.{catalogue_of}
use Rattle.fit.specs.Fit.{fit_of}
use Rattle.calls.specs.Output.{output, room_refusals}
use Rattle.calls.specs.Gave.{GaveBytes}
use Rattle.calls.proofs.Outputs.{output-true, output-false, bytes_same, bytes-refused}
use Rattle.trim.specs.Trim.{touched, trimmed_image}
use Rattle.trim.proofs.trim.Goals as goal

-- what is given of one catalogue and one fit is given of those that they are
abbrev Given : (old new : List ℕ) (w : ℕ) (catalogue fit : List ℕ) → Type 0
Given old new w b f = let bs = trimmed_image b (touched (catalogue_of b) (fit_of f)) in GaveBytes old new w (output (room_refusals old bs) bs)

given_of : (old new : List ℕ) (w : ℕ) (b b' f f' : List ℕ) → b' ≡ b → f' ≡ f → Given old new w b' f' → Given old new w b f
given_of old new w b b' f f' e q g = subst (Given old new w b) q (subst (λ (m : List ℕ). Given old new w m f') e g)

pub returns-in_default : goal.returns-in_default
returns-in_default c =
    bytes_same (sym (output-true Refusals.too_many_skills _ _ (omega arith) (sym c.in_default.ensures.many)))
    (bytes-refused _ Refusals.too_many_skills refl)

pub returns : goal.returns
returns c =
    let a = c.args in
    let t = c.in-Ok.trimmer in
    let made = c.in-Ok.ensures in
    bytes_same (sym (output-false Refusals.too_many_skills _ _ (sym made.many)))
    (given_of a.out.now c.write_kept.new.out _ a.catalogue.now t.window.catalogue.now a.fit.now t.fit.now (made.catalogue_same t refl)
    (made.fit_same t refl) c.write_kept.ensures)
