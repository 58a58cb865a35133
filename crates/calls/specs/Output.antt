-- Document 02: an answer that is bytes, of the calls that write something other than entries. Which refusal or which bytes, the buffer
-- afterwards, the word that an exported call returns.
use Rattle.std.specs.Prelude.{ℕ, zero, suc, ◌*◌, Bool, List, [], ◌∷◌, ◌++◌, ltb, length, drop}
use Rattle.words.specs.Words.{first_of}
use Rattle.numbers.specs.Sizes as Sizes
use Rattle.numbers.specs.Refusals as Refusals

pub data Output : Type 0 where
  Withheld : ℕ → Output
  Written : List ℕ → Output

-- the first refusal that holds, or the bytes
unfoldable pub output_by : ℕ → List ℕ → Output
output_by zero bs = Written bs
output_by (suc n) bs = Withheld (suc n)

unfoldable pub output : List (ℕ × Bool) → List ℕ → Output
output refusals bs = output_by (first_of refusals) bs

-- the buffer afterwards: a refusal writes nothing, an answer its own bytes from byte 0
unfoldable pub filled : List ℕ → Output → List ℕ
filled buffer (Withheld n) = buffer
filled buffer (Written bs) = bs ++ drop (length bs) buffer

-- the word: the refusal number times 4,294,967,296, or the bytes written in the count's place
unfoldable pub output_word : Output → ℕ
output_word (Withheld n) = n * Sizes.word
output_word (Written bs) = length bs

-- 10: the buffer is shorter than what is written
unfoldable pub no_room : (buffer bs : List ℕ) → Bool
no_room buffer bs = ltb (length buffer) (length bs)

abbrev pub room_refusals : (buffer bs : List ℕ) → List (ℕ × Bool)
room_refusals buffer bs = (Refusals.too_short, no_room buffer bs) ∷ []
