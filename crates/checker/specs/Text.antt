-- Document 01, "Program": the text that `check` prints, from the bytes of both images.
use Rattle.std.specs.Prelude.{ℕ, zero, suc, ◌+◌, ◌*◌, ◌/◌, ◌%◌, ◌^◌, List, [], ◌∷◌, ◌++◌, replicate}
use Rattle.words.specs.Words.{each, from}
use Rattle.image.specs.Bytes.{u8_at, u32_at}
use Rattle.program.specs.Text.{decimal, ended, refused}
use Rattle.lists.specs.Terms.{main}
use Rattle.calls.specs.Answers.{returned, buffered}
use Rattle.fitcheck.specs.Calls.{list_call}

-- a number and a space
unfoldable pub spaced : ℕ → List ℕ
spaced n = decimal n ++ 32 ∷ []

-- target, index, rule and sub of the entry at a place
unfoldable pub heading : List ℕ → ℕ → List ℕ
heading b at = spaced (u8_at b at) ++ (spaced (u32_at b (at + 4)) ++ (spaced (u8_at b (at + 1)) ++ spaced (u8_at b (at + 2))))

-- its payload's four words
unfoldable pub payload : List ℕ → ℕ → List ℕ
payload b at = spaced (u32_at b (at + 8)) ++ (spaced (u32_at b (at + 12)) ++ (spaced (u32_at b (at + 16)) ++ ended (u32_at b (at + 20))))

unfoldable pub line : List ℕ → ℕ → List ℕ
line b i = heading b (24 * i) ++ payload b (24 * i)

unfoldable pub lines : List ℕ → ℕ → List ℕ
lines b n = each (from 0 n) (line b)

-- "count "
unfoldable pub count_word : List ℕ
count_word = 99 ∷ 111 ∷ 117 ∷ 110 ∷ 116 ∷ 32 ∷ []

-- the last line: a refusal's number, or how many entries there are
unfoldable pub closing : (refusal count : ℕ) → List ℕ
closing zero count = count_word ++ ended count
closing (suc n) count = refused (suc n)

-- of a call's word and buffer
unfoldable pub text_of : ℕ → List ℕ → List ℕ
text_of word buffer = lines buffer (word % 2 ^ 32) ++ closing (word / 2 ^ 32) (word % 2 ^ 32)

-- the officer's list call on the main page with no profile and 65,520 bytes lent, printed
unfoldable pub checked : (catalogue fit : List ℕ) → List ℕ
checked catalogue fit =
    let buffer = replicate {A = ℕ} 65520 0 in
    let a = list_call main catalogue fit buffer in
    text_of (returned a) (buffered buffer a)
