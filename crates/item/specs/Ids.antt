-- Ids looked up once per rule, and what a result has under them.
use Rattle.std.specs.Prelude.{ℕ, ◌≡◌, Bool, true, false, cond, List, [], ◌∷◌, map}
use Rattle.std.specs.Prelude.{Option, None, Some}
use Rattle.std.specs.Float.Ieee.{ne}
use Rattle.std.specs.List.{list_any}
use Rattle.words.specs.Words.{◌>>=◌, each, is_empty, given, contains}
use Rattle.floats.specs.Floats.{zero_f, to_i32}
use Rattle.catalogue.specs.Catalogue.{Id, Name}
use Rattle.catalogue.specs.Lookups.{name_id}
use Rattle.fit.specs.Fit.{Result}
use Rattle.fit.specs.Lookups.{value, amount}
use Rattle.item.specs.declared.Listing.{Listing}
use Rattle.item.specs.declared.Listing.TheVariants.{Nothing, Others, Ship}

-- the ids of the names in the rows of a table
abbrev pub IdsOf : List Name → List ℕ → List (Option Id) → Type 0
IdsOf names rows ids = ids ≡ map (name_id names) rows

-- what a result lists under an id
unfoldable pub listed_under : Result → Option Id → Option Id
listed_under r None = None
listed_under r (Some id) = given (value r id) None (λ v. Some (to_i32 v))

-- what a result lists under some ids
abbrev pub listed_in : Result → List (Option Id) → List Id
listed_in r ids = each ids (λ known. ◌>>=◌ (listed_under r known) (λ id. id ∷ []))

-- what the code keeps of a list
unfoldable pub listing : Id → List Id → Listing
listing id ids = cond (contains id ids) Ship (cond (is_empty ids) Nothing Others)

-- a ship is listed, and neither of the two lists has this one
abbrev pub lists_others : (types groups : Listing) → Bool
lists_others Ship Nothing = false
lists_others Ship Others = false
lists_others Ship Ship = false
lists_others Others Nothing = true
lists_others Others Others = true
lists_others Others Ship = false
lists_others Nothing Nothing = false
lists_others Nothing Others = true
lists_others Nothing Ship = false

-- a result has something other than 0 under an id
unfoldable pub marked_under : Result → Option Id → Bool
marked_under r known = given known false (λ id. ne (amount r id) zero_f)

-- under any of some ids
abbrev pub marked_in : Result → List (Option Id) → Bool
marked_in r ids = list_any (marked_under r) ids
