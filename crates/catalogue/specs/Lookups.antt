-- Reading a catalogue, as `Context` and `slots_of` in validate/mod.rs do: each lookup takes the first match in stored order.
use Rattle.std.specs.Prelude.{ℕ, ◌-◌, Bool, true, false, ◌&&◌, cond, pos, eqb, leb, Float}
use mathlib.Core.List.{List, [], ◌∷◌, foldl}
use Rattle.std.specs.Prelude.{Option, None, Some}
use Rattle.words.specs.Words.{◌>>=◌, each, only, find, given, same}
use Rattle.numbers.specs.Marks as Marks
use Rattle.floats.specs.Floats.{zero_f}
use Rattle.catalogue.specs.Catalogue.{Id, Name, TypeData, Catalogue}

-- `attribute_id`: the id of a name
unfoldable pub name_id : List Name → ℕ → Option Id
name_id names n = given (find (λ x. eqb x.number n) names) None (λ x. Some x.id)

module _ (c : Catalogue) where
  -- `get_type`
  unfoldable pub type_of : Id → Option TypeData
  type_of t = find (λ x. same x.id t) c.types

  -- whether the type is there, whatever its group
  unfoldable pub is_known : Id → Bool
  is_known t = given (type_of t) false (λ x. true)

  -- a type that is not there has group 0, category 0
  unfoldable pub group_of : Id → Id
  group_of t = given (type_of t) (pos 0) (λ x. x.group)

  unfoldable pub category_of : Id → Id
  category_of t = given (type_of t) (pos 0) (λ x. x.category)

  -- a type's volume: 0 where the type is not there or its flag is 0
  unfoldable pub volume_of : Id → Float
  volume_of t = given (type_of t) zero_f (λ x. cond (eqb x.volume_flag 0) zero_f x.volume)

  -- the mark of an effect, where it is there
  unfoldable pub effect_mark : Id → Option ℕ
  effect_mark e = given (find (λ x. same x.id e) c.effects) None (λ x. Some x.mark)

  -- the marks of a type's effects, in the order of its links; a link to an effect that is not there is skipped
  unfoldable pub marks : Id → List ℕ
  marks t = each (only (λ x. same x.type t) c.links) λ l. do
    mark ← effect_mark l.effect
    mark ∷ []

  -- the last mark from low to high wins; mark m stands for slot m - 1
  unfoldable pub last_mark : ℕ → ℕ → Id → Option ℕ
  last_mark low high t = foldl (λ found m. cond (leb low m && leb m high) (Some (m - 1)) found) None (marks t)

  -- `slots_of`: the rack and the hardpoint that a type asks for
  unfoldable pub rack_of : Id → Option ℕ
  rack_of = last_mark Marks.hi_power Marks.service_slot

  unfoldable pub hardpoint_of : Id → Option ℕ
  hardpoint_of = last_mark Marks.turret_fitted Marks.launcher_fitted

  -- `base_value`: what an attribute starts at on a type
  unfoldable pub base_value : Id → Id → Option Float
  base_value t a = given (find (λ x. same x.type t && same x.attribute a) c.bases) None (λ x. Some x.value)
