-- validate/mod.rs, `validate`: the list of a fit, file by file in its order. No charges, no `Rule::Skill` entries.
use Rattle.std.specs.Prelude.{ℕ, ◌+◌, ◌*◌, cond, List, [], ◌∷◌, ◌++◌}
use Rattle.numbers.specs.Sizes as Sizes
use Rattle.catalogue.specs.Catalogue.{Id, Catalogue}
use Rattle.fit.specs.Fit.{Frame, Fit, mode_of}
use Rattle.entry.specs.declared.Entry.{Entry}
use Rattle.entry.specs.declared.Rule.TheVariants.{NotAHull}
use Rattle.entry.specs.Entries.{on_ship}
use Rattle.context.specs.Context.{Pair, Context, context, pairs}
use Rattle.validate.specs.Kind.{is_hull, not_a_mode, not_a_skill}
use Rattle.resource.specs.Resource.{resources}
use Rattle.racks.specs.Racks.{racks_and_hardpoints}
use Rattle.slot.specs.Slot.{slot_rules}
use Rattle.item.specs.Item.{item_rules}
use Rattle.limits.specs.Limits.{limit_rules}

-- resource.rs, slot.rs (its racks first) and item.rs (its limits last)
unfoldable pub hull_rules : Context → List Pair → List Entry
hull_rules x ps = resources x ps ++ racks_and_hardpoints x ps ++ slot_rules x ps ++ item_rules x ps ++ limit_rules x ps

-- a ship that is no hull gives NotAHull alone
unfoldable pub list_with : Catalogue → Frame → List Id → List Pair → List Entry
list_with c k ids ps =
    cond (is_hull c k.ship) (not_a_mode c (mode_of k) ++ not_a_skill c ids ++ hull_rules (context c k) ps) (on_ship NotAHull ∷ [])

unfoldable pub list_of : Catalogue → Fit → List Entry
list_of c f = list_with c f.frame f.skills (pairs c f)

-- no list has more entries: the mode, the skills, 12 resources, 6 racks, 2 hardpoints; and of each pair 8 by slot.rs, 8 by item.rs
abbrev pub most_entries : ℕ
most_entries = 1 + Sizes.most_skills + 12 + 8 + 16 * Sizes.most_pairs
