-- Document 01, "Two fits compared", and document 02: the premises of demand 3, and what it claims of the bytes of two buffers.
use Rattle.std.specs.Prelude.{ℕ, ◌+◌, ◌≤◌, ◌<◌, ◌≡◌, Bool, true, ◌&&◌, ◌||◌, cond, T, eqb, leb, ltb, length, get_or, take, drop}
use mathlib.Core.List.{List, Memᴰ}
use Rattle.std.specs.Float.Ieee.{le}
use Rattle.words.specs.Words.{given, table}
use Rattle.numbers.specs.Slots as Slots
use Rattle.image.specs.Bytes.{u8_at, u32_at}
use Rattle.floats.specs.Floats.{f64_at, is_volume}
use Rattle.catalogue.specs.Catalogue.{Id, Catalogue}
use Rattle.catalogue.specs.Lookups.{type_of}
use Rattle.fit.specs.Fit.{Item, Fit}
use Rattle.lists.specs.Terms.{Terms}
use Rattle.promises.specs.Answers.{Outcome, count, entry_at}

-- ---- the premises
-- what every slice holds are bytes
abbrev pub Bytes : List ℕ → Type 0
Bytes b = (i : ℕ) → get_or b i 0 < 256

-- the new fit has the old one's ship, mode, ship's and character's results and skill ids, and no level is higher; it begins with the old
-- one's items, and with its item results, of which there are as many. An answered fit's zero bytes are 0, so none hides a difference.
pub record Grown (old new : Fit) : Type 0 where
  pub frame : new.frame ≡ old.frame
  pub skills : new.skills ≡ old.skills
  pub levels : (i : ℕ) → get_or new.levels i 0 ≤ get_or old.levels i 0
  pub even : length old.items ≡ length old.results
  pub items : take (length old.items) new.items ≡ old.items
  pub results : take (length old.results) new.results ≡ old.results

-- no volume, as the catalogue lacks the type or its flag is 0; or one that is finite and not below zero
unfoldable pub volume_allowed : Catalogue → Id → Bool
volume_allowed c t = given (type_of c t) true λ x. eqb x.volume_flag 0 || is_volume x.volume

-- the items that the new fit has behind the old ones
abbrev pub added_items : Fit → Fit → List Item
added_items old new = drop (length old.items) new.items

abbrev pub AddedVolumes : Catalogue → Fit → Fit → Type 0
AddedVolumes c old new = (i : Item) → Memᴰ i (added_items old new) → i.slot ≡ Slots.cargo → T (volume_allowed c i.type)

-- the two calls name the same reader and bring the same profile and the same allowance; their limits may differ
pub record Alike (t t' : Terms) : Type 0 where
  pub profile : t.profile ≡ t'.profile
  pub allowance : t.allowance ≡ t'.allowance
  pub reader : t.reader ≡ t'.reader

-- P14's two fits: they differ in listed skills and levels alone, in how many there are too
pub record Apart (one other : Fit) : Type 0 where
  pub frame : one.frame ≡ other.frame
  pub items : one.items ≡ other.items
  pub results : one.results ≡ other.results

-- ---- the claim
-- where an entry of a rule has its used number or its trained level: the first byte, and how many; the other rules have neither
unfoldable pub varies : ℕ → ℕ × ℕ
varies rule =
    cond (eqb rule 1) (8, 8)
    (cond (eqb rule 2 || eqb rule 25) (8, 4)
    (cond (eqb rule 17 || eqb rule 18) (12, 4)
    (cond (eqb rule 11) (16, 4)
    (0, 0))))

-- an entry's bytes, with 0 for those of its used number or its trained level
unfoldable pub blank : List ℕ → List ℕ
blank e =
    let v = varies (u8_at e 1) in
    table 24 λ i. cond (leb v.0 i && ltb i (v.0 + v.1)) 0 (u8_at e i)

-- all other bytes are equal, the used number is no lower, the trained level no higher. Byte 1 is the rule's number.
pub record Stays (old new : List ℕ) : Type 0 where
  pub bytes : blank old ≡ blank new
  pub resource : u8_at old 1 ≡ 1 → T (le (f64_at old 8) (f64_at new 8))
  pub slots : u8_at old 1 ≡ 2 → u32_at old 8 ≤ u32_at new 8
  pub skill : u8_at old 1 ≡ 11 → u32_at new 16 ≤ u32_at old 16
  pub max_group : u8_at old 1 ≡ 17 → u32_at old 12 ≤ u32_at new 12
  pub max_type : u8_at old 1 ≡ 18 → u32_at old 12 ≤ u32_at new 12
  pub points : u8_at old 1 ≡ 25 → u32_at old 8 ≤ u32_at new 8

-- positions in the new list, one for each old entry, strictly rising, where the old entry stays
pub record Kept (old new : Outcome) : Type 0 where
  pub place : ℕ → ℕ
  pub rising : (i j : ℕ) → i < j → j < count old → place i < place j
  pub inside : (i : ℕ) → i < count old → place i < count new
  pub stays : (i : ℕ) → i < count old → Stays (entry_at old i) (entry_at new (place i))
