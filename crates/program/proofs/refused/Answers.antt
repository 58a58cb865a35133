-- `program::refused` meets its contract: the word, then the number.
use Rattle.std.proofs.Common.{append_assoc}
use Rattle.program.specs.Text.{refused_word, refused}
use Rattle.program.proofs.refused.Goals as goal

pub returns-clause-text : goal.returns-clause-text
unfolding refused refused_word
returns-clause-text g c = rw (c.ended.ensures.text, c.push_str.ensures.bytes, append_assoc)
