-- `skill::required_of` meets its contract. The invariant: the first i rows are looked up.
use Prim.Native.Nat.{ℕ}
use native.Mathlib.Omega.{arith}
use mathlib.Core.Path.{refl, sym, ap, ◌∙◌}
use mathlib.Core.List.{List}
use lib.ListN.{length-set}
use lib.Seq.{take_all}
use Rattle.words.specs.Words.{each}
use Rattle.catalogue.specs.Catalogue.{catalogue_of}
use Rattle.skill.specs.Skill.{REQUIRED, requirement_of, required}
use Rattle.skill.specs.Held.{requirements_of}
use Rattle.skill.proofs.Requirements.{row-kept}
use Rattle.skill.proofs.required_of.Goals as goal

pub loop-i-init : goal.loop-i-init
unfolding each
loop-i-init c = (refl, refl)

pub loop-i-preserved : goal.loop-i-preserved
loop-i-preserved c =
    let l = c.loop-i in (
      length-set l.required l.i _ ∙ l.invariant.0,
      row-kept (catalogue_of c.args.catalogue.now) l.required l.i c.requirement.result (omega arith) (omega (arith, l.invariant.0)) c.requirement.ensures l.invariant.1,
    )

pub returns : goal.returns
unfolding required
returns c =
    let l = c.loop-i in
    let cat = catalogue_of c.args.catalogue.now in
    sym (ap requirements_of (take_all l.i l.required (omega (arith, l.invariant.0, c.loop-i-test.false))))
    ∙ l.invariant.1
    ∙ ap (λ (m : List (ℕ × ℕ)). each m (requirement_of cat)) (take_all l.i REQUIRED (omega (arith, c.loop-i-test.false)))
