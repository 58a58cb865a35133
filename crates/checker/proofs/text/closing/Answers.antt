-- `checker::text::closing` meets its contract: the line of a refusal, or the word and the count.
use Rattle.std.proofs.Common.{ℕ, zero, suc, ◌≡◌, ◌++◌, ◌<◌, append_assoc, arith, refl}
use Rattle.program.specs.Text.{ended, refused}
use Rattle.checker.specs.Text.{closing, count_word}
use Rattle.checker.proofs.text.closing.Goals as goal

-- which word, by whether there is a refusal
refused-words : (n count : ℕ) → 0 < n → refused n ≡ closing n count
unfolding closing
refused-words zero count h = absurd (omega arith)
refused-words (suc n) count h = refl

count-words : (n count : ℕ) → n ≡ 0 → count_word ++ ended count ≡ closing n count
unfolding closing
count-words zero count h = refl
count-words (suc n) count h = absurd (omega arith)

pub returns-then-refusal-gt0 : goal.returns-then-refusal-gt0
returns-then-refusal-gt0 c =
    let a = c.args in
    rw (c.refused.ensures.text, refused-words a.refusal a.count (omega (arith, c.if-refusal-gt0.true)))

pub returns : goal.returns
unfolding count_word
returns c =
    let a = c.args in
    rw (c.ended.ensures.text, c.push_str.ensures.bytes, append_assoc, count-words a.refusal a.count (omega (arith, c.if-refusal-gt0.false)))
