-- validate/item.rs, all but its limits, which `limits` has. Each rule is the loop over its own `..At`, what it says of one pair.
use Rattle.std.specs.Prelude.{ℕ, Bool, false, not, ◌&&◌, ◌||◌, cond, List, [], ◌∷◌, ◌++◌, Float}
use Rattle.std.specs.Float.Ieee.{lt, ne}
use Rattle.words.specs.Words.{◌>>=◌, each, when, unless, any_of, is_empty, given, same, contains}
use Rattle.numbers.specs.Names as Names
use Rattle.numbers.specs.Slots as Slots
use Rattle.numbers.specs.Categories as Categories
use Rattle.floats.specs.Floats.{zero_f, of_nat, to_u, to_i32}
use Rattle.catalogue.specs.Catalogue.{Id}
use Rattle.catalogue.specs.Lookups.{name_id}
use Rattle.fit.specs.Lookups.{value, amount}
use Rattle.entry.specs.declared.Entry.{Entry}
use Rattle.entry.specs.declared.Rule.TheVariants.{RigSize, ShipRestricted, CapitalItem, StructureItem, ShipItem}
use Rattle.context.specs.Context.{Pair, Context, is_fitted, is_in, is_on_hull, on}

-- the attributes naming the ship types an item may go on
abbrev pub ship_types : List ℕ
ship_types =
    Names.fits_to_ship_type
    ∷ Names.can_fit_ship_type1
    ∷ Names.can_fit_ship_type2
    ∷ Names.can_fit_ship_type3
    ∷ Names.can_fit_ship_type4
    ∷ Names.can_fit_ship_type5
    ∷ Names.can_fit_ship_type6
    ∷ Names.can_fit_ship_type7
    ∷ Names.can_fit_ship_type8
    ∷ Names.can_fit_ship_type9
    ∷ Names.can_fit_ship_type10
    ∷ Names.can_fit_ship_type11
    ∷ Names.can_fit_ship_type12
    ∷ []

-- the attributes naming the ship groups an item may go on
abbrev pub ship_groups : List ℕ
ship_groups =
    Names.can_fit_ship_group01
    ∷ Names.can_fit_ship_group02
    ∷ Names.can_fit_ship_group03
    ∷ Names.can_fit_ship_group04
    ∷ Names.can_fit_ship_group05
    ∷ Names.can_fit_ship_group06
    ∷ Names.can_fit_ship_group07
    ∷ Names.can_fit_ship_group08
    ∷ Names.can_fit_ship_group09
    ∷ Names.can_fit_ship_group10
    ∷ Names.can_fit_ship_group11
    ∷ Names.can_fit_ship_group12
    ∷ Names.can_fit_ship_group13
    ∷ Names.can_fit_ship_group14
    ∷ Names.can_fit_ship_group15
    ∷ Names.can_fit_ship_group16
    ∷ Names.can_fit_ship_group17
    ∷ Names.can_fit_ship_group18
    ∷ Names.can_fit_ship_group19
    ∷ Names.can_fit_ship_group20
    ∷ []

-- anything bigger than this is a capital module, and only a capital ship takes one
abbrev pub capital_volume : Float
capital_volume = of_nat 3500

-- a fighter squadron has no category telling a structure's apart from a carrier's; these attributes do, one per role
abbrev pub standup_fighters : List ℕ
standup_fighters =
    Names.fighter_squadron_is_standup_light
    ∷ Names.fighter_squadron_is_standup_support
    ∷ Names.fighter_squadron_is_standup_heavy
    ∷ []

-- ---- rig_size
unfoldable pub rig_size_at : Id → Float → Pair → List Entry
rig_size_at id ship p = do
  size ← value p.result id
  when (is_in Slots.rig p && ne size ship) (on p (RigSize (to_u 8 ship) (to_u 8 size)))

unfoldable pub rig_size : Context → List Pair → List Entry
rig_size x ps = do
  id ← name_id x.names Names.rig_size
  ship ← value x.ship_result id
  each ps (rig_size_at id ship)

-- ---- ship_restricted
-- what the item lists under some names
unfoldable pub listed : Context → Pair → List ℕ → List Id
listed x p names = each names λ name. do
  id ← name_id x.names name
  v ← value p.result id
  to_i32 v ∷ []

unfoldable pub is_restricted : Context → Pair → Bool
is_restricted x p =
    let types = listed x p ship_types in
    let groups = listed x p ship_groups in
    is_fitted p && not (is_empty types && is_empty groups) && not (contains x.ship types) && not (contains x.group groups)

unfoldable pub ship_restricted_at : Context → Pair → List Entry
ship_restricted_at x p = when (is_restricted x p) (on p ShipRestricted)

unfoldable pub ship_restricted : Context → List Pair → List Entry
ship_restricted x ps = each ps (ship_restricted_at x)

-- ---- capital_item
unfoldable pub is_structure : Context → Bool
is_structure x = same x.category Categories.structure

-- a capital rig is held apart by its rig size instead
unfoldable pub is_capital_item : Id → Pair → Bool
is_capital_item volume p = is_fitted p && not (is_in Slots.rig p) && lt capital_volume (amount p.result volume)

unfoldable pub capital_item_at : Id → Pair → List Entry
capital_item_at volume p = when (is_capital_item volume p) (on p CapitalItem)

unfoldable pub capital_item : Context → List Pair → List Entry
capital_item x ps = do
  volume ← name_id x.names Names.volume
  capital ← name_id x.names Names.is_capital_size
  unless (ne (amount x.ship_result capital) zero_f || is_structure x) (each ps (capital_item_at volume))

-- ---- standup
unfoldable pub is_standup : Context → Pair → Bool
is_standup x p =
    same p.category Categories.structure_module
    || any_of (λ name. given (name_id x.names name) false (λ id. ne (amount p.result id) zero_f)) standup_fighters

unfoldable pub standup_at : Context → Pair → List Entry
standup_at x p =
    cond (is_structure x)
    (when (is_on_hull p && not (is_standup x p)) (on p ShipItem))
    (when (is_on_hull p && is_standup x p) (on p StructureItem))

unfoldable pub standup : Context → List Pair → List Entry
standup x ps = each ps (standup_at x)

-- ---- validate, as far as this crate goes
abbrev pub item_rules : Context → List Pair → List Entry
item_rules x ps = rig_size x ps ++ ship_restricted x ps ++ capital_item x ps ++ standup x ps
