-- `catalogue::base_value` meets its contract. The invariant: what is left holds the first match.
use mathlib.Core.Path.{◌≡◌}
use Rattle.catalogue.specs.Walks.{span_value}
use Rattle.catalogue.proofs.base_value.Given as goal

abbrev pub invariant-loop-i : goal.invariant-loop-i
invariant-loop-i l =
    span_value l.catalogue l.fn.span.from l.fn.span.to l.attribute ≡ span_value l.catalogue l.i l.fn.span.to l.attribute
