-- Ids flagged by their lowest 13 bits: an id that is not flagged is not among those sought, one that is flagged may be.
use Rattle.std.specs.Prelude.{ℕ, ◌%◌, ◌<◌, ◌≡◌, Bool, true, false, List, length, get_or}
use Rattle.std.specs.Prelude.{Option, None, Some}
use Rattle.words.specs.Words.{any_of}
use Rattle.image.specs.Bytes.{bits32}
use Rattle.catalogue.specs.Catalogue.{Id, Name}
use Rattle.fit.specs.Fit.{Result}
use Rattle.item.specs.Item.{ship_types, ship_groups}
use Rattle.item.specs.Ids.{IdsOf}

-- whether an id is flagged
unfoldable pub flag_of : List Bool → Id → Bool
flag_of flags id = get_or flags (bits32 id % 8192) false

-- all ids that are known are flagged
pub record Flagged (ids : List (Option Id)) (flags : List Bool) : Type 0 where
  pub all : (k : ℕ) (id : Id) → k < length ids → get_or ids k None ≡ Some id → flag_of flags id ≡ true

-- flags were only added: what was flagged before still is
pub record OnlyAdded (before after : List Bool) : Type 0 where
  pub still : (i : ℕ) → get_or before i false ≡ true → get_or after i false ≡ true

-- some attribute of a result is flagged
unfoldable pub any_flagged : List Bool → Result → Bool
any_flagged flags r = any_of (λ x. flag_of flags x.id) r.attributes

-- what `ship_restricted` looks up once: the ids that name ships, all flagged
pub record ShipIds (names : List Name) (types groups : List (Option Id)) (flags : List Bool) : Type 0 where
  pub types_known : IdsOf names ship_types types
  pub groups_known : IdsOf names ship_groups groups
  pub types_flagged : Flagged types flags
  pub groups_flagged : Flagged groups flags
