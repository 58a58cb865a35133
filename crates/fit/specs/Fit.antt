-- Document 01, "Records", Fit: u32 sizes S, F, R, A; ship type, mode flag, mode; S skill ids, S levels; F items of 12 bytes;
-- R + 2 results of 4 bytes: ship, character, then items; A attribute ids, A values, result after result.
use Rattle.std.specs.Prelude.{ℕ, zero, suc, ◌+◌, ◌*◌, cond, List, ◌∷◌, eqb, Float}
use Rattle.std.specs.Prelude.{Option, None, Some}
use Rattle.std.specs.Prelude.{slice_get}
use Rattle.words.specs.Words.{table}
use Rattle.image.specs.Bytes.{u8_at, u16_at, u32_at, i32_at}
use Rattle.floats.specs.Floats.{f64_at}
use Rattle.catalogue.specs.Catalogue.{Id}

pub record Attribute : Type 0 where
  pub id : Id
  pub value : Float

-- what the calculation gave for the ship, the character or an item; states 0 to 3 follow `State`
pub record Result : Type 0 where
  pub state : ℕ
  pub reserved : ℕ
  pub attributes : List Attribute

-- slot kinds 0 to 11 follow `Slot`
pub record Item : Type 0 where
  pub type : Id
  pub quantity : ℕ
  pub slot : ℕ
  pub reserved : ℕ
  pub index : ℕ

-- all of a fit but its skills, its items and their results
pub record Frame : Type 0 where
  pub ship : Id
  pub mode_flag : ℕ
  pub mode : Id
  pub ship_result : Result
  pub character_result : Result

pub record Fit : Type 0 where
  pub frame : Frame
  pub skills : List Id
  pub levels : List ℕ
  pub items : List Item
  pub results : List Result

-- the mode, where the flag says that one is given
unfoldable pub mode_of : Frame → Option Id
mode_of k = cond (eqb k.mode_flag 0) None (Some k.mode)

-- the ship's and the character's result, then those of the items
abbrev pub all_results : Fit → List Result
all_results f = f.frame.ship_result ∷ f.frame.character_result ∷ f.results

-- the result of a number: 0 the ship's, 1 the character's, 2 the first item's
unfoldable pub result_at : Fit → ℕ → Option Result
result_at f n = slice_get (all_results f) n

-- ---- the image b
module _ (b : List ℕ) where
  -- S, F, R, A
  abbrev pub skill_count : ℕ
  skill_count = u32_at b 0

  abbrev pub item_count : ℕ
  item_count = u32_at b 4

  abbrev pub result_count : ℕ
  result_count = u32_at b 8

  abbrev pub attribute_count : ℕ
  attribute_count = u32_at b 12

  -- where each block begins
  abbrev pub skills_at : ℕ
  skills_at = 28

  abbrev pub levels_at : ℕ
  levels_at = skills_at + 4 * skill_count

  abbrev pub items_at : ℕ
  items_at = levels_at + skill_count

  abbrev pub results_at : ℕ
  results_at = items_at + 12 * item_count

  abbrev pub ids_at : ℕ
  ids_at = results_at + 4 * (result_count + 2)

  abbrev pub values_at : ℕ
  values_at = ids_at + 4 * attribute_count

  -- the length that the sizes say
  abbrev pub size_of : ℕ
  size_of = values_at + 8 * attribute_count

  abbrev pub item_at : ℕ → Item
  item_at i =
      let a = items_at + 12 * i in
      record { type = i32_at b a; quantity = u32_at b (a + 4); slot = u8_at b (a + 8); reserved = u8_at b (a + 9); index = u16_at b (a + 10) }

  -- how many attributes result j has
  abbrev pub count_at : ℕ → ℕ
  count_at j = u16_at b (results_at + 4 * j + 2)

  -- how many stand before those of result j
  unfoldable pub start_at : ℕ → ℕ
  start_at zero = 0
  start_at (suc j) = start_at j + count_at j

  abbrev pub attribute_at : ℕ → Attribute
  attribute_at i = record { id = i32_at b (ids_at + 4 * i); value = f64_at b (values_at + 8 * i) }

  abbrev pub result_of : ℕ → Result
  result_of j = record {
    state = u8_at b (results_at + 4 * j);
    reserved = u8_at b (results_at + 4 * j + 1);
    attributes = table (count_at j) λ i. attribute_at (start_at j + i);
  }

  unfoldable pub fit_of : Fit
  fit_of = record {
    frame = record { ship = i32_at b 16; mode_flag = u32_at b 20; mode = i32_at b 24; ship_result = result_of 0; character_result = result_of 1 };
    skills = table skill_count λ i. i32_at b (skills_at + 4 * i);
    levels = table skill_count λ i. u8_at b (levels_at + i);
    items = table item_count item_at;
    results = table result_count λ j. result_of (j + 2);
  }
