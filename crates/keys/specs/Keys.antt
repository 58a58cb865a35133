-- Keys: signed numbers of 32 bits, one behind the other in a slice. Document 01, "Records": all keys stand together, before all values.
use Rattle.std.specs.Prelude.{ℕ, ◌+◌, ◌-◌, ◌*◌, ◌%◌, ◌<◌, ◌≤◌, Bool, cond, List, ℤ, pos, negsuc, nat_le, nat_lt}
use Rattle.std.specs.Prelude.{Option}
use Rattle.words.specs.Words.{find, from, same}
use Rattle.image.specs.Bytes.{i32_at}

-- key i
abbrev pub key_at : List ℕ → ℕ → ℤ
key_at keys i = i32_at keys (4 * i)

-- the place of a signed number in the order from -2 ^ 31 on, as an unsigned number
unfoldable pub rank_of : ℤ → ℕ
rank_of (pos n) = n + 2147483648
rank_of (negsuc n) = 2147483647 - n

-- the first n keys never descend
abbrev pub Sorted : List ℕ → ℕ → Type 0
Sorted keys n = (j k : ℕ) → j ≤ k → k < n → rank_of (key_at keys j) ≤ rank_of (key_at keys k)

-- r parts the keys under id from the others
pub record Parts (keys : List ℕ) (n : ℕ) (id : ℤ) (r : ℕ) : Type 0 where
  pub within : r ≤ n
  pub under : (k : ℕ) → k < r → rank_of (key_at keys k) < rank_of id
  pub beyond : (k : ℕ) → r ≤ k → k < n → rank_of id ≤ rank_of (key_at keys k)

-- where an id stands first among the first n keys
unfoldable pub place_of : List ℕ → ℕ → ℤ → Option ℕ
place_of keys n id = find (λ i. same (key_at keys i) id) (from 0 n)

-- the bias by which bits stand in the order of the signed numbers
abbrev pub sign : ℕ
sign = 2147483648

-- 32 bits moved up by a bias: with 0 they count as unsigned, with `sign` in the order of the signed numbers
abbrev pub biased : ℕ → ℕ → ℕ
biased bias x = (x + bias) % 4294967296

-- x stands before y, or at most beside it
abbrev pub stands : Bool → ℕ → ℕ → Bool
stands strict x y = cond strict (nat_lt x y) (nat_le x y)
