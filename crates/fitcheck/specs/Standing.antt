-- Document 01, "Hall number": what a fit adds to the word.
use Rattle.std.specs.Prelude.{ℕ}
use Rattle.fitcheck.specs.declared.hall.Standing.{Standing}
use Rattle.fitcheck.specs.declared.hall.Standing.TheVariants.{Clear, Faulted, Refused}

abbrev pub share : Standing → ℕ
share Clear = 1
share Faulted = 256
share Refused = 65536
