-- `lists::is_empty` meets its contract: the Rust's list is empty, and then no type is missing.
use native.Mathlib.Omega.{arith}
use mathlib.Core.Path.{sym, ◌∙◌}
use Rattle.catalogue.specs.Catalogue.{catalogue_of}
use Rattle.fit.specs.Fit.{fit_of}
use Rattle.entry.proofs.Emitted.{emitted_count}
use Rattle.validate.specs.Validate.{list_of}
use Rattle.validate.proofs.Empty.{empty-some, empty-count, some-length}
use Rattle.lists.specs.Terms.{main}
use Rattle.lists.specs.Lists.{whole_list}
use Rattle.lists.proofs.Empty.{whole_longer, whole_length}
use Rattle.lists.proofs.is_empty.Goals as goal

pub returns-then-not-is_empty : goal.returns-then-not-is_empty
returns-then-not-is_empty c =
    let x = catalogue_of c.args.context.now.catalogue.now in
    let f = fit_of c.args.context.now.fit.now in
    let some = some-length (list_of x f) (sym c.is_empty.ensures ∙ c.if-not-is_empty.true) in
    sym (empty-some (whole_list main x f) (omega (arith, some, whole_longer x f)))

pub returns : goal.returns
returns c =
    let x = c.args.context.now in
    let clear = sym c.is_empty.ensures ∙ c.if-not-is_empty.false in
    empty-count (whole_list main (catalogue_of x.catalogue.now) (fit_of x.fit.now)) c.count.result
    (omega (arith, whole_length x.catalogue.now x.fit.now clear, emitted_count c.new-missing.ensures.count c.unknown_types.ensures.0, c.count.ensures))
