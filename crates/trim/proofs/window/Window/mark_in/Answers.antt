-- `Window::mark_in` meets its contract: the place of the first record under the id, where there is one.
use Prim.Native.Nat.{◌+◌}
use native.Mathlib.Omega.{arith}
use mathlib.Core.Path.{◌∙◌, refl, sym, ap}
use mathlib.Core.Bool.{Bool, ◌||◌}
use mir.Syntax.{w32}
use mir.ValLaws.{to_z-of_z}
use Rattle.keys.proofs.Parts.{place-below}
use Rattle.marks.specs.Marks.{is_marked}
use Rattle.trim.proofs.Marking.{part-lead, part-leads-none, or_kept}
use Rattle.trim.proofs.window.Window.mark_in.Goals as goal

pub place_at-requires : goal.place_at-requires
place_at-requires c =
    let k = c.keys.ensures in
    rw (k.0, k.1, to_z-of_z w32 c.args.id c.ranges.id) c.requires

pub overflow_add-first : goal.overflow_add-first
overflow_add-first c =
    let below = place-below _ _ _ _ (sym c.place_at.ensures ∙ c.in-Some.is) in
    omega (arith, below, c.keys.ensures.1, c.first.ensures.1)

pub returns-in-Some : goal.returns-in-Some
returns-in-Some c =
    let w = c.args.self.now in
    let m = c.mark_place.ensures in
    let k = c.keys.ensures in
    let z = to_z-of_z w32 c.args.id c.ranges.id in
    record {
      catalogue = m.catalogue;
      low = m.low;
      marks = λ j h.
          m.marks j h
          ∙ ap (λ (t : Bool). is_marked w.marks.now j || t)
          (part-lead w.catalogue.now c.args.part c.args.id c.place_at.ensures k.0 k.1 z c.in-Some.i c.first.result
          (w.low + j) c.in-Some.is c.first.ensures.0);
    }

pub returns-in_default : goal.returns-in_default
returns-in_default c =
    let w = c.args.self.now in
    let k = c.keys.ensures in
    let z = to_z-of_z w32 c.args.id c.ranges.id in
    record {
      catalogue = refl;
      low = refl;
      marks = λ j h.
          or_kept (is_marked w.marks.now j) _
          (part-leads-none w.catalogue.now c.args.part c.args.id c.place_at.ensures k.0 k.1 z (w.low + j) c.in_default.is);
    }
