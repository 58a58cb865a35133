-- `lists::unknown_types` meets its contract: what is said of each pair.
use borrow.Author.Rules.{rules}
use Rattle.catalogue.specs.Catalogue.{catalogue_of}
use Rattle.entry.proofs.Emitted.{emitted-same}
use Rattle.context.specs.Held.{pairs_in}
use Rattle.lists.specs.Unknown.{unknown_type_at}
use Rattle.lists.proofs.Unknowns.{unknown-each}
use Rattle.lists.proofs.unknown_types.Goals as goal

pub returns : goal.returns
returns c =
    let x = c.args.context.now in
    let w = c.report.ensures.wrote (unknown_type_at (catalogue_of x.catalogue.now)) (λ i s h p. search rules) in
    (emitted-same (unknown-each (catalogue_of x.catalogue.now) (pairs_in x)) w, c.report.ensures.few)
