-- `catalogue::base_value` meets its contract: the first base of the span whose attribute it is.
use mathlib.Core.Path.{◌∙◌, sym, ap}
use Rattle.std.specs.Prelude.{Some}
use mir.Syntax.{w32}
use mir.ValLaws.{to_z-of_z}
use Rattle.catalogue.specs.Walks.{span_value}
use Rattle.catalogue.proofs.Walking.{span_none, span_here, span_next}
use Rattle.catalogue.proofs.base_value.Goals.{At-loop-i}
use Rattle.catalogue.proofs.base_value.Goals as goal

pub returns-then-is_id : goal.returns-then-is_id
returns-then-is_id c =
    let l = c.loop-i in
    let e = c.bases-b.ensures in
    let b = c.args.catalogue.now in
    let here = rw (e.0, e.1, c.new.ensures) at (sym c.is_id.ensures ∙ c.if-is_id.true) in
    ap Some (c.f64_at.ensures ∙ rw (e.0, e.1, c.new.ensures))
    ∙ sym (l.invariant ∙ span_here b l.i c.args.span.to _ c.loop-i-test.true here)
    ∙ ap (span_value b c.args.span.from c.args.span.to) (to_z-of_z w32 c.args.attribute c.ranges.attribute)

pub loop-i-preserved : goal.loop-i-preserved
loop-i-preserved c =
    let l = c.loop-i in
    let e = c.bases-b.ensures in
    let other = rw (e.0, e.1, c.new.ensures) at (sym c.is_id.ensures ∙ c.if-is_id.false) in
    l.invariant ∙ span_next c.args.catalogue.now l.i c.args.span.to _ c.loop-i-test.true other

pub returns : goal.returns
returns c =
    let l = c.loop-i in
    let b = c.args.catalogue.now in
    span_none b l.i c.args.span.to _ c.loop-i-test.false ∙ sym l.invariant
    ∙ ap (span_value b c.args.span.from c.args.span.to) (to_z-of_z w32 c.args.attribute c.ranges.attribute)
