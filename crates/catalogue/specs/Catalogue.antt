-- Document 01, "Records", Catalogue: u32 sizes N, E, T, L, B, then five blocks, in each all keys and then all values.
-- Each block is a list of records in its stored order. An id is a signed number.
use Rattle.std.specs.Prelude.{ℕ, ◌+◌, ◌*◌, List, ℤ, Float}
use Rattle.words.specs.Words.{table}
use Rattle.image.specs.Bytes.{u32_at, i32_at}
use Rattle.floats.specs.Floats.{f32_at, f64_at}

abbrev pub Id : Type 0
Id = ℤ

-- a name number and the id of the attribute of that name
pub record Name : Type 0 where
  pub number : ℕ
  pub id : Id

-- an effect and its mark: 0 other, 1 to 8 in the order of the named arms in `slots_of`
pub record Effect : Type 0 where
  pub id : Id
  pub mark : ℕ

-- a type; its volume counts where the flag is 1
pub record TypeData : Type 0 where
  pub id : Id
  pub group : Id
  pub category : Id
  pub volume_flag : ℕ
  pub volume : Float

-- a type has an effect
pub record Link : Type 0 where
  pub type : Id
  pub effect : Id

-- what an attribute of a type starts at
pub record Base : Type 0 where
  pub type : Id
  pub attribute : Id
  pub value : Float

pub record Catalogue : Type 0 where
  pub names : List Name
  pub effects : List Effect
  pub types : List TypeData
  pub links : List Link
  pub bases : List Base

-- ---- the image b
module _ (b : List ℕ) where
  -- N, E, T, L, B
  abbrev pub name_count : ℕ
  name_count = u32_at b 0

  abbrev pub effect_count : ℕ
  effect_count = u32_at b 4

  abbrev pub type_count : ℕ
  type_count = u32_at b 8

  abbrev pub link_count : ℕ
  link_count = u32_at b 12

  abbrev pub base_count : ℕ
  base_count = u32_at b 16

  -- where each block begins
  abbrev pub names_at : ℕ
  names_at = 20

  abbrev pub effects_at : ℕ
  effects_at = names_at + 8 * name_count

  abbrev pub types_at : ℕ
  types_at = effects_at + 8 * effect_count

  abbrev pub links_at : ℕ
  links_at = types_at + 20 * type_count

  abbrev pub bases_at : ℕ
  bases_at = links_at + 8 * link_count

  -- where the values of the bases begin, behind all other blocks and the keys of the bases
  abbrev pub base_values_at : ℕ
  base_values_at = bases_at + 4 * base_count

  -- the length that the sizes say
  abbrev pub size_of : ℕ
  size_of = bases_at + 16 * base_count

  -- record i of each block
  abbrev pub name_at : ℕ → Name
  name_at i = record { number = u32_at b (names_at + 4 * i); id = i32_at b (names_at + 4 * name_count + 4 * i) }

  abbrev pub effect_at : ℕ → Effect
  effect_at i = record { id = i32_at b (effects_at + 4 * i); mark = u32_at b (effects_at + 4 * effect_count + 4 * i) }

  abbrev pub type_at : ℕ → TypeData
  type_at i =
      let v = types_at + 4 * type_count + 16 * i in
      record { id = i32_at b (types_at + 4 * i); group = i32_at b v; category = i32_at b (v + 4); volume_flag = u32_at b (v + 8); volume = f32_at b (v + 12) }

  abbrev pub link_at : ℕ → Link
  link_at i = record { type = i32_at b (links_at + 4 * i); effect = i32_at b (links_at + 4 * link_count + 4 * i) }

  abbrev pub base_at : ℕ → Base
  base_at i =
      let v = base_values_at + 12 * i in
      record { type = i32_at b (bases_at + 4 * i); attribute = i32_at b v; value = f64_at b (v + 4) }

  unfoldable pub catalogue_of : Catalogue
  catalogue_of = record {
    names = table name_count name_at;
    effects = table effect_count effect_at;
    types = table type_count type_at;
    links = table link_count link_at;
    bases = table base_count base_at;
  }
