-- Document 02, P14: the reader behind a number, and the number of each.
use Rattle.std.specs.Prelude.{ℕ, ◌≡◌, ◌<◌, Result, MatchResult}
use Rattle.numbers.specs.Readers as Readers
use Rattle.numbers.specs.declared.readers.Reader.{Reader}
use Rattle.numbers.specs.declared.readers.Reader.TheVariants.{Guest, Pilot, Officer}
use Rattle.numbers.specs.declared.refusals.Refusal.{Refusal}
use Rattle.numbers.specs.declared.refusals.Refusal.TheVariants.{NoReader}

abbrev pub reader_number : Reader → ℕ
reader_number Guest = Readers.guest
reader_number Pilot = Readers.pilot
reader_number Officer = Readers.officer

-- 19 where the number is nobody's
abbrev pub ReaderOf : ℕ → Result Reader Refusal → Type 0
ReaderOf n r = MatchResult r (λ x. reader_number x ≡ n) (λ e. (Readers.officer < n) × (e ≡ NoReader))
