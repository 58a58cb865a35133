-- `item::ship_restricted` meets its contract: what is said of each pair, with ids that were looked up once.
use borrow.Author.Rules.{rules}
use Rattle.context.specs.Held.{pair_in, context_in}
use mathlib.Core.Path.{◌≡◌, ap, ◌∙◌}
use Rattle.std.specs.Bool.{then_some}
use Rattle.entry.specs.declared.Rule.TheVariants.{ShipRestricted}
use Rattle.context.specs.Context.{said}
use Rattle.item.specs.Item.{ship_restricted, ship_restricted_at, is_restricted}
use Rattle.item.proofs.Flags.{flagged-still}
use Rattle.item.proofs.Rules.{said-restricted}
use Rattle.item.proofs.ship_restricted.Goals as goal

pub invariant_of-lists : goal.invariant_of-lists
invariant_of-lists c = record {
  known = record {
    types_known = c.ids_of-types.ensures;
    groups_known = c.ids_of-groups.ensures;
    types_flagged = flagged-still c.ids_of-types.result _ _ c.flag_ids.ensures.1 c.flag_ids-2.ensures.2;
    groups_flagged = c.flag_ids-2.ensures.1;
  };
}

pub returns : goal.returns
unfolding ship_restricted
returns c =
    let a = c.args in
    let x = context_in a.context.now in
    let pair = pair_in a.context.now in
    let w = c.report.ensures in (
      w.wrote (ship_restricted_at x) (λ i r h p. let e : r ≡ then_some (is_restricted x (pair i)) ShipRestricted = search rules in ap (said (pair i)) e ∙ said-restricted x (pair i)),
      w.few,
    )
