-- validate/mod.rs, `Context` and `Item`: a fit's items and results side by side, with what the catalogue says of each, gathered once.
use Rattle.std.specs.Prelude.{ℕ, suc, Bool, not, ◌||◌, List, [], ◌∷◌, eqb, leb, Float}
use Rattle.std.specs.Prelude.{Option, None, Some}
use Rattle.words.specs.Words.{same}
use Rattle.numbers.specs.Slots as Slots
use Rattle.numbers.specs.Categories as Categories
use Rattle.catalogue.specs.Catalogue.{Id, Name, Catalogue}
use Rattle.catalogue.specs.Lookups.{group_of, category_of, volume_of, rack_of, hardpoint_of}
use Rattle.fit.specs.Fit as Fit
use Rattle.fit.specs.Fit.{Result, Frame, Fit}
use Rattle.entry.specs.declared.Rule.{Rule}
use Rattle.entry.specs.declared.Entry.{Entry}
use Rattle.entry.specs.Entries.{on_item}

-- Rust's `Item`: an item and its result, its position, and what only the catalogue knows of its type
pub record Pair : Type 0 where
  pub position : ℕ
  pub type : Id
  pub quantity : ℕ
  pub slot : ℕ
  pub index : ℕ
  pub group : Id
  pub category : Id
  pub rack : Option ℕ
  pub hardpoint : Option ℕ
  pub volume : Float
  pub result : Result

abbrev pub pair_of : Catalogue → ℕ → Fit.Item → Result → Pair
pair_of c n i r = record {
  position = n;
  type = i.type;
  quantity = i.quantity;
  slot = i.slot;
  index = i.index;
  group = group_of c i.type;
  category = category_of c i.type;
  rack = rack_of c i.type;
  hardpoint = hardpoint_of c i.type;
  volume = volume_of c i.type;
  result = r;
}

-- items and results zipped, from position n on
unfoldable pub pairs_from : Catalogue → ℕ → List Fit.Item → List Result → List Pair
pairs_from c n [] rs = []
pairs_from c n (i ∷ is) [] = []
pairs_from c n (i ∷ is) (r ∷ rs) = pair_of c n i r ∷ pairs_from c (suc n) is rs

-- document 01: pairs are the first min(F, R)
unfoldable pub pairs : Catalogue → Fit → List Pair
pairs c f = pairs_from c 0 f.items f.results

-- Rust's `Context`, less its items: all else that the rules of a hull read
pub record Context : Type 0 where
  pub names : List Name
  pub ship : Id
  pub group : Id
  pub category : Id
  pub ship_result : Result
  pub character_result : Result

unfoldable pub context : Catalogue → Frame → Context
context c k = record { names = c.names; ship = k.ship; group = group_of c k.ship; category = category_of c k.ship; ship_result = k.ship_result; character_result = k.character_result }

-- `is_fitted`: slot kinds 0 to 5, High to Service
unfoldable pub is_fitted : Pair → Bool
is_fitted p = leb p.slot Slots.service

unfoldable pub is_in : ℕ → Pair → Bool
is_in slot p = eqb p.slot slot

unfoldable pub is_fighter_slot : Pair → Bool
is_fighter_slot p = is_in Slots.fighter_tube p || is_in Slots.fighter_bay p

-- `is_on_hull`
unfoldable pub is_on_hull : Pair → Bool
is_on_hull p = is_fitted p || is_fighter_slot p

unfoldable pub is_other : Pair → Pair → Bool
is_other p o = not (eqb o.position p.position)

-- an entry about a pair
abbrev pub on : Pair → Rule → Entry
on p r = on_item p.position r

-- the entry about a pair that breaks a rule
unfoldable pub said : Pair → Option Rule → List Entry
said p None = []
said p (Some r) = on p r ∷ []

-- `is_module_category`: modules, subsystems and structure modules
unfoldable pub is_module_category : Id → Bool
is_module_category t = same t Categories.module' || same t Categories.subsystem || same t Categories.structure_module
