-- `skill::walk_on` meets its contract. The invariant: the demands met once the first skills up to `next` of the order are walked are noted.
use native.Mathlib.Omega.{arith}
use Prim.Native.Nat.{◌+◌}
use mathlib.Core.Path.{◌≡◌, refl, ap, ◌∙◌}
use lib.IntN.{pos}
use lib.ListN.{length, get_or}
use mir.Syntax.{w32}
use mir.Val.{of_z, to_z}
use mir.ValLaws.{to_z-of_z}
use borrow.Author.Rules.{rules}
use Rattle.catalogue.specs.Catalogue.{catalogue_of}
use Rattle.catalogue.specs.Lookups.{base_value}
use Rattle.catalogue.specs.Walks.{span_value}
use Rattle.catalogue.proofs.Walking.{span_value_lem}
use Rattle.skill.specs.Skill.{noted}
use Rattle.skill.proofs.Walks.{met-first}
use Rattle.skill.proofs.Notes.{walk_step, walked_all, walked-full}
use Rattle.skill.proofs.walk_on.Goals as goal

pub loop-next-init : goal.loop-next-init
loop-next-init c = (omega arith, λ ds v. v ∙ ap noted (met-first (catalogue_of c.args.catalogue.now) ds))

pub returns-in_err-note_all : goal.returns-in_err-note_all
returns-in_err-note_all c = λ ds v.
    let a = c.args in
    let l = c.loop-next in
    let cat = catalogue_of a.catalogue.now in
    let t = get_or l.walk.ids l.next (pos 0) in
    let span = c.bases_of-span in
    let over = (c.in_err-note_all.ensures (base_value cat (to_z w32 (of_z w32 t)))
    (λ id v fits gives.
    let read : v ≡ span_value a.catalogue.now span.result.from span.result.to id = search rules in
    read ∙ span_value_lem a.catalogue.now (to_z w32 (of_z w32 t)) id span.result span.ensures)).full refl in
    let step = walk_step cat ds l.next l.walk (l.invariant.1 ds v) c.loop-next-test.true (to_z w32 (of_z w32 t))
    (to_z-of_z w32 t (search rules)) c.requires in
    walked-full cat ds (l.next + 1) (omega (arith, l.walk.few, c.loop-next-test.true)) _ c.from_residual.result c.from_residual.ensures.0
    (omega (arith, over, ap length step))

pub loop-next-preserved : goal.loop-next-preserved
loop-next-preserved c =
    let a = c.args in
    let l = c.loop-next in
    let cat = catalogue_of a.catalogue.now in
    let t = get_or l.walk.ids l.next (pos 0) in
    let span = c.bases_of-span in
    let done = c.in_ok-note_all.ensures (base_value cat (to_z w32 (of_z w32 t)))
    (λ id v fits gives.
    let read : v ≡ span_value a.catalogue.now span.result.from span.result.to id = search rules in
    read ∙ span_value_lem a.catalogue.now (to_z w32 (of_z w32 t)) id span.result span.ensures) in (
      omega (arith, l.walk.few, c.loop-next-test.true),
      λ ds v. done.holds refl
          ∙ walk_step cat ds l.next l.walk (l.invariant.1 ds v) c.loop-next-test.true (to_z w32 (of_z w32 t))
          (to_z-of_z w32 t (search rules)) c.requires,
    )

pub returns : goal.returns
returns c = λ ds v.
    let l = c.loop-next in
    walked_all (catalogue_of c.args.catalogue.now) ds l.next l.invariant.0 l.walk (l.invariant.1 ds v) c.loop-next-test.false
