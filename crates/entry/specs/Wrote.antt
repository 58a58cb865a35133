-- Document 01, "Refusals in their order", its last paragraph: entries written one after the other from byte 0. What code that
-- writes some of them has done to the buffer and to the count.
use Rattle.std.specs.Prelude.{ℕ, ◌+◌, ◌*◌, ◌/◌, ◌≤◌, ◌≡◌, cond, List, [], ◌∷◌, length, ltb}
use Rattle.numbers.specs.Sizes as Sizes
use Rattle.image.specs.Bytes.{put}
use Rattle.entry.specs.declared.Entry.{Entry}
use Rattle.entry.specs.Entries.{entry_bytes}

-- the count has room for k entries beyond n: it stands in the lower 32 bits of a word
abbrev pub Room : ℕ → ℕ → Type 0
Room n k = n + k ≤ Sizes.word

-- entry number n put into a buffer, where there is room
unfoldable pub put_at : List ℕ → ℕ → Entry → List ℕ
put_at buffer n e = cond (ltb n (length buffer / 24)) (put buffer (24 * n) (entry_bytes e)) buffer

-- entries put from number n on
unfoldable pub put_all : List ℕ → ℕ → List Entry → List ℕ
put_all buffer n [] = buffer
put_all buffer n (e ∷ es) = put_all (put_at buffer n e) (n + 1) es

-- from the buffer `before` with n entries to the buffer `after` with k, exactly the entries es were written
pub record Wrote (before : List ℕ) (n : ℕ) (after : List ℕ) (k : ℕ) (es : List Entry) : Type 0 where
  pub count : k ≡ n + length es
  pub bytes : after ≡ put_all before n es
