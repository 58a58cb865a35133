-- How the trimming goes: the records of the three blocks stand at places, types first, then links, then bases. Marks for a window of places
-- say where a run of records that are kept begins. Keys never descend, so that the records under one id are such a run.
use Rattle.std.specs.Prelude.{ℕ, ◌+◌, ◌*◌, ◌≤◌, ◌<◌, ◌≡◌, Bool, true, false, List, [], ◌∷◌, ◌++◌, map, eqb}
use Rattle.words.specs.Words.{find, from, given, same, contains}
use Rattle.image.specs.Bytes.{i32_at}
use Rattle.marks.specs.Marks.{is_marked}
use Rattle.fit.specs.Fit.{Fit, Item, mode_of}
use Rattle.catalogue.specs.Catalogue.{Id, type_count, link_count, base_count, types_at, links_at, bases_at}

-- the ids that a fit names itself
abbrev pub named : Fit → List Id
named f =
    (f.frame.ship ∷ given (mode_of f.frame) [] (λ (m : Id). m ∷ [])) ++ f.skills ++ map (λ (i : Item). i.type) f.items

-- ---- marks
-- places of a window
abbrev pub window : ℕ
window = 1048576

-- ---- a block whose keys begin at a place of the image b
module _ (b : List ℕ) (at : ℕ) where
  abbrev pub key_in : ℕ → Id
  key_in i = i32_at b (at + 4 * i)

  -- record i is under the ids
  abbrev pub is_kept : List Id → ℕ → Bool
  is_kept ids i = contains (key_in i) ids

  -- no record before it has its key
  abbrev pub Leads : ℕ → Type 0
  Leads i = (j : ℕ) → j < i → same (key_in j) (key_in i) ≡ false

  -- ---- of n records, which stand at the places from `first` on
  module _ (n : ℕ) where
    -- no run that is kept goes on at record i
    abbrev pub Fresh : List Id → ℕ → Type 0
    Fresh ids i = i < n → is_kept ids i ≡ true → Leads i

    -- whether the first record under an id stands at place p
    unfoldable pub leads_at : ℕ → Id → ℕ → Bool
    leads_at first id p = given (find (λ i. same (key_in i) id) (from 0 n)) false (λ i. eqb (first + i) p)

    -- marks m for the window from `low` on: a marked record is kept, and a kept one that leads is marked
    pub record BlockMarked (first : ℕ) (ids : List Id) (low : ℕ) (m : List ℕ) : Type 0 where
      pub sound : (i j : ℕ) → i < n → j < window → first + i ≡ low + j → is_marked m j ≡ true → is_kept ids i ≡ true
      pub whole : (i j : ℕ) → i < n → j < window → first + i ≡ low + j → Leads i → is_kept ids i ≡ true → is_marked m j ≡ true

    -- from record i on: none is kept before the first of these two, all are up to the second
    pub record Stretch (ids : List Id) (i first last : ℕ) : Type 0 where
      pub ordered : i ≤ first
      pub forward : first ≤ last
      pub onward : i < last
      pub within : last ≤ n
      pub skipped : (k : ℕ) → i ≤ k → k < first → is_kept ids k ≡ false
      pub taken : (k : ℕ) → first ≤ k → k < last → is_kept ids k ≡ true
      pub fresh : Fresh ids last

-- all three blocks
pub record Marked (b : List ℕ) (ids : List Id) (low : ℕ) (m : List ℕ) : Type 0 where
  pub types : BlockMarked b (types_at b) (type_count b) 0 ids low m
  pub links : BlockMarked b (links_at b) (link_count b) (type_count b) ids low m
  pub bases : BlockMarked b (bases_at b) (base_count b) (type_count b + link_count b) ids low m
