-- The three blocks of which some records are kept: where the keys of each begin in the image b, how many there are, the place of its first
-- record among those of all three, and how many bytes a value takes.
use Rattle.std.specs.Prelude.{ℕ, ◌+◌, ◌*◌, Bool, List, take, drop}
use Rattle.keys.specs.Keys.{Parts}
use Rattle.catalogue.specs.Catalogue.{Id, type_count, link_count, base_count, types_at, links_at, bases_at}
use Rattle.trim.specs.Trim.{kept_at, kept_block}
use Rattle.trim.specs.Marked.{leads_at}
use Rattle.trim.specs.declared.part.Part.{Part}
use Rattle.trim.specs.declared.part.Part.TheVariants.{Types, Links, Bases}

unfoldable pub at_of : List ℕ → Part → ℕ
at_of b Types = types_at b
at_of b Links = links_at b
at_of b Bases = bases_at b

unfoldable pub size_of : List ℕ → Part → ℕ
size_of b Types = type_count b
size_of b Links = link_count b
size_of b Bases = base_count b

unfoldable pub first_of : List ℕ → Part → ℕ
first_of b Types = 0
first_of b Links = type_count b
first_of b Bases = type_count b + link_count b

unfoldable pub width_of : Part → ℕ
width_of Types = 16
width_of Links = 4
width_of Bases = 12

-- so many of its keys are under an id
abbrev pub Under : List ℕ → Part → Id → ℕ → Type 0
Under b part id r = Parts (take (4 * size_of b part) (drop (at_of b part) b)) (size_of b part) id r

-- whether the first record under an id stands at a place
abbrev pub leads_in : List ℕ → Part → Id → ℕ → Bool
leads_in b part id p = leads_at b (at_of b part) (size_of b part) (first_of b part) id p

-- the records that are kept, and their bytes
abbrev pub kept_in : List ℕ → List Id → Part → List ℕ
kept_in b ids part = kept_at b ids (at_of b part) (size_of b part)

abbrev pub kept_bytes : List ℕ → List Id → Part → List ℕ
kept_bytes b ids part = kept_block b ids (at_of b part) (size_of b part) (width_of part)
