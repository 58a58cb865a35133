-- Sets of pairs as bits, one for each pair.
use Rattle.std.specs.Prelude.{ℕ, ◌+◌, ◌<◌, ◌≤◌, ◌≡◌, Bool, false, List, get_or}
use Rattle.words.specs.Words.{table}
use Rattle.marks.specs.Marks.{is_marked}
use Rattle.parts.specs.Parts.{holds}

-- from a place on nothing is marked
abbrev pub Unmarked : ℕ → List ℕ → Type 0
Unmarked place m = (j : ℕ) → place ≤ j → is_marked m j ≡ false

-- of the first n flags those that are set are marked, from a place on, and nothing behind; what stands before it is as it was
pub record Marked (place n : ℕ) (flags : List Bool) (old new : List ℕ) : Type 0 where
  pub here : (j : ℕ) → j < n → is_marked new (place + j) ≡ get_or flags j false
  pub ahead : (j : ℕ) → j < place → is_marked new j ≡ is_marked old j
  pub none : Unmarked (place + n) new

-- the marked places are the pairs of a set
abbrev pub Bits : List Bool → List ℕ → Type 0
Bits s m = (j : ℕ) → is_marked m j ≡ holds s j

-- the set of those of n pairs that are marked
abbrev pub marked_of : ℕ → List ℕ → List Bool
marked_of n m = table n (is_marked m)
