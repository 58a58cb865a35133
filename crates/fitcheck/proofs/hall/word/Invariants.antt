-- `hall::word` meets its contract. The invariant: `at` is where fit i begins, and the word is that of the fits before it.
use Rattle.std.proofs.Common.{◌≡◌, ◌*◌, ◌≤◌, length}
use Rattle.words.specs.Words.{table}
use Rattle.catalogue.specs.Catalogue.{catalogue_of}
use Rattle.fitcheck.specs.Hall.{fit_start, fit_at, word_of}
use Rattle.fitcheck.proofs.hall.word.Given as goal

abbrev pub invariant-loop-i : goal.invariant-loop-i
invariant-loop-i l =
    (l.at ≡ fit_start l.input l.i) × (l.word ≡ word_of (catalogue_of l.catalogue) (table l.i (fit_at l.input))) × (l.word ≤ 65536 * l.i)
