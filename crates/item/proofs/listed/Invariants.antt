-- `item::listed` meets its contract. The invariant: the ids passed name no ship or others.
use Rattle.fit.specs.Fit.{result_of}
use Rattle.item.proofs.Listings.{Listed}
use Rattle.item.proofs.listed.Given as goal

abbrev pub invariant-loop-id : goal.invariant-loop-id
invariant-loop-id l = Listed l.ship (result_of l.context.fit.now l.j) l.ids l.id-index l.listing
