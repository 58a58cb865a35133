-- From the tests and values that the code finds to what a rule says of a pair.
use Prim.Native.Nat.{ℕ}
use mathlib.Core.Path.{◌≡◌, refl, ◌∙◌}
use mathlib.Core.Bool.{Bool, true, false, not, ◌&&◌, ◌||◌, cond}
use mathlib.Core.List.{List, []}
use Rattle.std.specs.Prelude.{Option, None, Some}
use Rattle.std.specs.Bool.{then_some}
use lib.Ieee.{Float, ne, lt}
use Rattle.words.specs.Words.{◌>>=◌, each, when, is_empty, contains}
use Rattle.numbers.specs.Names as Names
use Rattle.numbers.specs.Slots as Slots
use Rattle.floats.specs.Floats.{zero_f, to_u}
use Rattle.catalogue.specs.Catalogue.{Id}
use Rattle.catalogue.specs.Lookups.{name_id}
use Rattle.fit.specs.Lookups.{value, amount}
use Rattle.entry.specs.declared.Entry.{Entry}
use Rattle.entry.specs.declared.Rule.TheVariants.{RigSize, ShipRestricted, CapitalItem}
use Rattle.entry.specs.declared.Entries.{Entries}
use Rattle.entry.specs.Emitted.{Emitted}
use Rattle.entry.proofs.Emitted.{emitted-past, emitted-return, emitted-bind, emitted-bind_none}
use Rattle.context.proofs.Loops.{said-then}
use Rattle.context.specs.Context.{Pair, Context, is_fitted, is_in, said}
use Rattle.item.specs.declared.Listing.{Listing}
use Rattle.item.specs.declared.Listing.TheVariants.{Nothing, Others, Ship}
use Rattle.item.specs.Item.{ship_types, ship_groups, listed, is_structure, is_capital_item, is_restricted, capital_volume}
use Rattle.item.specs.Item.{rig_size_at, rig_size, ship_restricted_at, capital_item_at, capital_item}
use Rattle.item.specs.Ids.{listing, lists_others}

-- ---- rig sizes
module _ (id : Id) (ship : Float) (p : Pair) where
  pub rig-none : value p.result id ≡ None → said p None ≡ rig_size_at id ship p
  unfolding said rig_size_at ◌>>=◌
  rig-none e = rw e

  pub rig-elsewhere : is_in Slots.rig p ≡ false → said p None ≡ rig_size_at id ship p
  unfolding said rig_size_at ◌>>=◌ when
  rig-elsewhere e = rw e (go (value p.result id))
    where
      go : (o : Option Float) → ◌≡◌ {A = List Entry} [] (◌>>=◌ o (λ size. []))
      go None = refl
      go (Some size) = refl

  pub rig-some : {size : Float} {x y : ℕ} → is_in Slots.rig p ≡ true → value p.result id ≡ Some size → x ≡ to_u 8 ship → y ≡ to_u 8 size
      → said p (then_some (ne size ship) (RigSize x y)) ≡ rig_size_at id ship p
  unfolding rig_size_at ◌>>=◌
  rig-some {size} {x} {y} r e g h = said-then p (ne size ship) (RigSize x y) ∙ rw (e, r, g, h)

module _ (x : Context) (ps : List Pair) where
  pub rig-no_name : {b : Entries} → name_id x.names Names.rig_size ≡ None → Emitted b b (rig_size x ps)
  unfolding rig_size
  rig-no_name e = emitted-bind_none _ e

  pub rig-no_ship : {b : Entries} (id : Id) → name_id x.names Names.rig_size ≡ Some id → value x.ship_result id ≡ None
      → Emitted b b (rig_size x ps)
  unfolding rig_size
  rig-no_ship id e q = emitted-bind _ e (emitted-bind_none _ q)

  pub rig-each : {b a : Entries} (id : Id) (ship : Float) → name_id x.names Names.rig_size ≡ Some id → value x.ship_result id ≡ Some ship
      → Emitted b a (each ps (rig_size_at id ship)) → Emitted b a (rig_size x ps)
  unfolding rig_size
  rig-each id ship e q w = emitted-bind _ e (emitted-bind _ q w)

-- ---- restricted items
module _ (x : Context) (p : Pair) where
  pub restricted_unfitted : is_fitted p ≡ false → false ≡ is_restricted x p
  unfolding is_restricted
  restricted_unfitted e = rw e

  pub restricted_unlisted : listed x p ship_types ≡ [] → listed x p ship_groups ≡ [] → false ≡ is_restricted x p
  unfolding is_restricted is_empty
  restricted_unlisted e q = rw (e, q) (go (is_fitted p) (not (contains x.ship [])) (not (contains x.group [])))
    where
      go : (t u v : Bool) → false ≡ t && false && u && v
      go true u v = refl
      go false u v = refl

  pub restricted_fitted : {u v : Listing} → is_fitted p ≡ true → u ≡ listing x.ship (listed x p ship_types) → v ≡ listing x.group (listed x p ship_groups)
      → lists_others u v ≡ is_restricted x p
  unfolding is_restricted listing
  restricted_fitted e h g =
      rw (e, h, g) (go (contains x.ship (listed x p ship_types)) (is_empty (listed x p ship_types)) (contains x.group (listed x p ship_groups)) (is_empty (listed x p ship_groups)))
    where
      go : (a b c d : Bool) → lists_others (cond a Ship (cond b Nothing Others)) (cond c Ship (cond d Nothing Others)) ≡ not (b && d) && not a && not c
      go true true true true = refl
      go true true true false = refl
      go true true false true = refl
      go true true false false = refl
      go true false true d = refl
      go true false false true = refl
      go true false false false = refl
      go false true true true = refl
      go false true true false = refl
      go false true false true = refl
      go false true false false = refl
      go false false true d = refl
      go false false false true = refl
      go false false false false = refl

pub said-restricted : (x : Context) (p : Pair) → said p (then_some (is_restricted x p) ShipRestricted) ≡ ship_restricted_at x p
unfolding ship_restricted_at
said-restricted x p = said-then p (is_restricted x p) ShipRestricted

-- ---- capital items
module _ (volume : Id) (p : Pair) where
  pub capital-more : {t : Bool} → is_fitted p && not (is_in Slots.rig p) ≡ true → t ≡ lt capital_volume (amount p.result volume)
      → t ≡ is_capital_item volume p
  unfolding is_capital_item
  capital-more {t} e q = q ∙ go (is_fitted p) (not (is_in Slots.rig p)) (lt capital_volume (amount p.result volume)) e
    where
      go : (a b c : Bool) → a && b ≡ true → c ≡ a && b && c
      go true b c e = rw e
      go false b c e = cc

  pub capital-less : is_fitted p && not (is_in Slots.rig p) ≡ false → false ≡ is_capital_item volume p
  unfolding is_capital_item
  capital-less e = go (is_fitted p) (not (is_in Slots.rig p)) (lt capital_volume (amount p.result volume)) e
    where
      go : (a b c : Bool) → a && b ≡ false → false ≡ a && b && c
      go true b c e = rw e
      go false b c e = refl

  pub said-capital : said p (then_some (is_capital_item volume p) CapitalItem) ≡ capital_item_at volume p
  unfolding capital_item_at
  said-capital = said-then p (is_capital_item volume p) CapitalItem

module _ (x : Context) (ps : List Pair) where
  pub capital_no_volume : {b : Entries} → name_id x.names Names.volume ≡ None → Emitted b b (capital_item x ps)
  unfolding capital_item
  capital_no_volume e = emitted-bind_none _ e

  pub capital_no_capital : {b : Entries} (volume : Id) → name_id x.names Names.volume ≡ Some volume
      → name_id x.names Names.is_capital_size ≡ None → Emitted b b (capital_item x ps)
  unfolding capital_item
  capital_no_capital volume e q = emitted-bind _ e (emitted-bind_none _ q)

  pub capital_taken : {b : Entries} (volume capital : Id) → name_id x.names Names.volume ≡ Some volume
      → name_id x.names Names.is_capital_size ≡ Some capital
      → ne (amount x.ship_result capital) zero_f || is_structure x ≡ true → Emitted b b (capital_item x ps)
  unfolding capital_item
  capital_taken volume capital e q t = emitted-bind _ e (emitted-bind _ q (emitted-return _ t))

  pub capital_each : {b a : Entries} (volume capital : Id) → name_id x.names Names.volume ≡ Some volume
      → name_id x.names Names.is_capital_size ≡ Some capital
      → ne (amount x.ship_result capital) zero_f || is_structure x ≡ false → Emitted b a (each ps (capital_item_at volume))
      → Emitted b a (capital_item x ps)
  unfolding capital_item
  capital_each volume capital e q t w = emitted-bind _ e (emitted-bind _ q (emitted-past t w))
