-- A set of places: one bit for each, 64 to a word.
use Rattle.std.specs.Prelude.{ℕ, ◌/◌, ◌%◌, ◌^◌, ◌≤◌, ◌<◌, ◌≡◌, Bool, true, false, List, eqb, get_or}

-- whether bit i of a word is set
unfoldable pub bit_of : ℕ → ℕ → Bool
bit_of x i = eqb (x / 2 ^ i % 2) 1

-- whether place i is marked
unfoldable pub is_marked : List ℕ → ℕ → Bool
is_marked m i = bit_of (get_or m (i / 64) 0) (i % 64)

-- r is the first marked place from one place on, or the end where none stands before it
pub record NextMark (m : List ℕ) (first end r : ℕ) : Type 0 where
  pub ordered : first ≤ r
  pub within : r ≤ end
  pub none : (k : ℕ) → first ≤ k → k < r → is_marked m k ≡ false
  pub here : r < end → is_marked m r ≡ true
