-- Document 02, P1, of calls as they are exported: what a trim has left, and what two calls of its fit have left, the one under the whole
-- catalogue and the other under what the trim wrote.
use Rattle.std.specs.Prelude.{ℕ, ◌≤◌, ◌≡◌, List, length}
use Rattle.calls.specs.Answers.{Answer}
use Rattle.promises.specs.Answers.{Outcome, outcome, refusal, count}
use Rattle.promises.specs.Widens.{written}
use Rattle.promises.specs.Trims.{trim_outcome}

-- a call of a catalogue and a buffer: where the trim is answered, and both buffers held the same, both have left the same, the word and
-- every byte
abbrev pub UnderBoth : (call : (catalogue buffer : List ℕ) → Answer) → (catalogue before after : List ℕ) → (trim whole small : Outcome)
    → Type 0
UnderBoth call catalogue before after trim whole small =
    (outcome before (call catalogue before) ≡ whole)
    × (refusal trim ≡ 0 → (outcome after (call (written trim) after) ≡ small) × (before ≡ after → whole ≡ small))

-- where a first trim is answered, the second is one of what it wrote, and has written the same where it has room for it
abbrev pub TrimmedTwice : (fit buffer : List ℕ) → (once twice : Outcome) → Type 0
TrimmedTwice fit buffer once twice =
    refusal once ≡ 0
    → (trim_outcome (written once) fit buffer ≡ twice)
    × (count once ≤ length buffer → (twice.word ≡ once.word) × (written twice ≡ written once))
