-- `lists::rust_list` meets its contract: the list for all but guests, and for those the one of no skills.
use Rattle.std.proofs.Common.{sym}
use native.Mathlib.Omega.{arith}
use borrow.Author.Tests.{ne_eqb}
use Rattle.catalogue.specs.Catalogue.{catalogue_of}
use Rattle.fit.specs.Fit.{fit_of}
use Rattle.entry.proofs.Emitted.{emitted-same}
use Rattle.validate.specs.Validate.{list_of}
use Rattle.lists.proofs.Guests.{for_other, guest_list}
use Rattle.lists.proofs.rust_list.Goals as goal

pub returns-then-reader : goal.returns-then-reader
returns-then-reader c =
    let w = c.emit_without_skills.ensures in
    let x = c.args.context.now in
    (emitted-same (guest_list x.catalogue.now x.fit.now c.args.reader (omega (arith, c.if-reader.true))) w.0, w.1)

pub returns : goal.returns
returns c =
    let w = c.emit.ensures in
    let x = c.args.context.now in
    let es = list_of (catalogue_of x.catalogue.now) (fit_of x.fit.now) in
    (emitted-same (sym (for_other c.args.reader es (ne_eqb c.args.reader 0 c.if-reader.false))) w.0, w.1)
