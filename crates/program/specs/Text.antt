-- Text that more than one program prints: a number in decimal, and the line of a refusal.
use Rattle.std.specs.Prelude.{ℕ, zero, suc, ◌+◌, ◌/◌, ◌%◌, cond, List, [], ◌∷◌, ◌++◌, ltb}

-- n in decimal, of at most k digits: the digits of n / 10, and the last one
unfoldable pub decimal_of : ℕ → ℕ → List ℕ
decimal_of zero n = []
decimal_of (suc k) n = cond (ltb n 10) [] (decimal_of k (n / 10)) ++ (48 + n % 10) ∷ []

-- no 64 bits have more than 20 digits
unfoldable pub decimal : ℕ → List ℕ
decimal n = decimal_of 20 n

-- a number and the line's end
unfoldable pub ended : ℕ → List ℕ
ended n = decimal n ++ 10 ∷ []

-- "refused "
unfoldable pub refused_word : List ℕ
refused_word = 114 ∷ 101 ∷ 102 ∷ 117 ∷ 115 ∷ 101 ∷ 100 ∷ 32 ∷ []

-- the line of refusal n
unfoldable pub refused : ℕ → List ℕ
refused n = refused_word ++ ended n
