-- Document 02, P1: the catalogue that one fit touches. It keeps all names and effects, and the types, links and bases under the ids that
-- the fit names and under those of every skill that a result of it wants.
use Rattle.std.specs.Prelude.{ℕ, ◌+◌, ◌*◌, Bool, List, [], ◌∷◌, ◌++◌, map, length, take, drop}
use Rattle.words.specs.Words.{each, only, given, from, contains, any_of}
use Rattle.numbers.specs.Sizes as Sizes
use Rattle.numbers.specs.Refusals as Refusals
use Rattle.image.specs.Bytes.{le, i32_at}
use Rattle.catalogue.specs.Catalogue.{Id, Catalogue, name_count, effect_count, type_count, link_count, base_count}
use Rattle.catalogue.specs.Catalogue.{names_at, types_at, links_at, bases_at}
use Rattle.fit.specs.Fit.{Fit, Result, Item, mode_of, all_results}
use Rattle.skill.specs.Skill.{Demand, wanted_skills, wants_too_many}

-- the skills that a result wants, at level 0 too
abbrev pub wanted_ids : Catalogue → Result → List Id
wanted_ids c r = map (λ (w : Demand). w.0) (wanted_skills c r)

module _ (c : Catalogue) (f : Fit) where
  -- the ship, the mode where the flag says that one is given, the listed skills, the items, paired or not; and what any result wants
  unfoldable pub touched : List Id
  touched =
      (f.frame.ship ∷ given (mode_of f.frame) [] (λ (m : Id). m ∷ [])) ++ f.skills ++ map (λ (i : Item). i.type) f.items
      ++ each (all_results f) (wanted_ids c)

  -- 9: some result wants over 512 distinct skills
  unfoldable pub any_too_many : Bool
  any_too_many = any_of (wants_too_many Sizes.most_wanted c) (all_results f)

  abbrev pub trim_refusals : List (ℕ × Bool)
  trim_refusals = (Refusals.too_many_skills, any_too_many) ∷ []

-- all names and effects, and what stands under some ids, in its old order
unfoldable pub trimmed : Catalogue → List Id → Catalogue
trimmed c ids = record {
  names = c.names;
  effects = c.effects;
  types = only (λ x. contains x.id ids) c.types;
  links = only (λ x. contains x.type ids) c.links;
  bases = only (λ x. contains x.type ids) c.bases;
}

-- ---- its image, from the image b: what is kept is copied, so that no NaN and no volume under flag 0 changes
-- the bytes of some records, of one width and side by side from a place on
unfoldable pub copied : List ℕ → (at width : ℕ) → List ℕ → List ℕ
copied b at width is = each is λ i. take width (drop (at + width * i) b)

module _ (b : List ℕ) (ids : List Id) where
  -- of n records whose keys begin at a place, the numbers of those under the ids
  unfoldable pub kept_at : (at n : ℕ) → List ℕ
  kept_at at n = only (λ i. contains (i32_at b (at + 4 * i)) ids) (from 0 n)

  -- of a block of n records: the keys that are kept, then their values, which have a width
  unfoldable pub kept_block : (at n width : ℕ) → List ℕ
  kept_block at n width = copied b at 4 (kept_at at n) ++ copied b (at + 4 * n) width (kept_at at n)

  -- the sizes, of which N and E are the old ones; names and effects; the three other blocks
  unfoldable pub trimmed_image : List ℕ
  trimmed_image =
      take 8 b ++ (le 4 (length (kept_at (types_at b) (type_count b)))
      ++ (le 4 (length (kept_at (links_at b) (link_count b))) ++ (le 4 (length (kept_at (bases_at b) (base_count b)))
      ++ (take (8 * name_count b + 8 * effect_count b) (drop (names_at b) b)
      ++ (kept_block (types_at b) (type_count b) 16
      ++ (kept_block (links_at b) (link_count b) 4 ++ kept_block (bases_at b) (base_count b) 12))))))
