-- What code that answers a call has done: the word that it returns, and the buffer that it leaves.
use Rattle.std.specs.Prelude.{ℕ, ◌*◌, ◌≡◌, List, Result, Ok, Err}
use Rattle.numbers.specs.Sizes as Sizes
use Rattle.numbers.specs.Refused.{number}
use Rattle.numbers.specs.declared.refusals.Refusal.{Refusal}
use Rattle.entry.specs.declared.Entry.{Entry}
use Rattle.calls.specs.Answers.{Answer, answer, buffer_refusals, returned, buffered}
use Rattle.calls.specs.Output.{Output, output_word, filled}

-- a count, or a refusal's number times 4,294,967,296
abbrev pub word_of : Result ℕ Refusal → ℕ
word_of (Ok n) = n
word_of (Err e) = number e * Sizes.word

pub record Gave (before after : List ℕ) (w : ℕ) (a : Answer) : Type 0 where
  pub word : w ≡ returned a
  pub buffer : after ≡ buffered before a

-- the entries, where they fit the buffer that was lent
abbrev pub lent : List ℕ → List Entry → Answer
lent buffer es = answer (buffer_refusals buffer es) es

-- the same, of an answer that is bytes
pub record GaveBytes (before after : List ℕ) (w : ℕ) (o : Output) : Type 0 where
  pub word : w ≡ output_word o
  pub buffer : after ≡ filled before o
