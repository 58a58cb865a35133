-- `context::gather_pairs` meets its contract: what the catalogue says of one pair's type more.
use native.Mathlib.Omega.{arith}
use mathlib.Core.Path.{ap, ◌∙◌}
use lib.IntN.{ℤ}
use lib.ListN.{length-set}
use mir.Syntax.{w32}
use mir.ValLaws.{to_z-of_z}
use Rattle.catalogue.specs.Catalogue.{catalogue_of}
use Rattle.context.specs.Gathered.{facts_of}
use Rattle.context.proofs.Gathering.{pairs-more}
use Rattle.context.proofs.gather_pairs.Goals as goal

pub loop-i-preserved : goal.loop-i-preserved
loop-i-preserved c =
    let catalogue = c.args.catalogue.now in
    let it = c.item_type in
    let id = to_z-of_z w32 it.result (record { sfits = it.type_inv }) ∙ it.ensures in
    let l = c.loop-i in
    record {
      long = length-set l.pairs l.i c.pair_facts.result ∙ l.invariant.long;
      gathered = pairs-more catalogue c.args.fit.now l.pairs l.i c.pair_facts.result (omega (arith, c.is_sound.ensures.sized.items))
          (c.pair_facts.ensures ∙ ap (λ (z : ℤ). facts_of (catalogue_of catalogue) z) id) l.invariant.gathered;
    }
