-- How many records of each block are kept, and the image in two parts.
use Rattle.std.specs.Prelude.{ℕ, ◌*◌, ◌+◌, ◌≤◌, ◌≡◌, List, ◌++◌, length, take, drop}
use Rattle.image.specs.Bytes.{le}
use Rattle.catalogue.specs.Catalogue.{Id, name_count, effect_count, type_count, link_count, base_count, names_at}
use Rattle.trim.specs.Parts.{kept_in, kept_bytes}
use Rattle.trim.specs.declared.part.Part.TheVariants.{Types, Links, Bases}
use Rattle.trim.specs.declared.Kept.{Kept}

pub record Counts (b : List ℕ) (ids : List Id) (k : Kept) : Type 0 where
  pub types : k.types ≡ length (kept_in b ids Types)
  pub links : k.links ≡ length (kept_in b ids Links)
  pub bases : k.bases ≡ length (kept_in b ids Bases)
  pub few_types : k.types ≤ type_count b
  pub few_links : k.links ≤ link_count b
  pub few_bases : k.bases ≤ base_count b

-- sizes, names and effects
abbrev pub trimmed_head : List ℕ → (types links bases : ℕ) → List ℕ
trimmed_head b types links bases =
    take 8 b ++ (le 4 types ++ (le 4 links ++ (le 4 bases ++ take (8 * name_count b + 8 * effect_count b) (drop (names_at b) b))))

-- types, links and bases
abbrev pub trimmed_blocks : List ℕ → List Id → List ℕ
trimmed_blocks b ids = kept_bytes b ids Types ++ (kept_bytes b ids Links ++ kept_bytes b ids Bases)
